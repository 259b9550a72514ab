use Rattle.std.proofs.Common.{◌≡◌, ◌++◌, reverse}
use Rattle.std.specs.List.{flat_map}
use Rattle.bind_kinds.specs.Conjuncts.{conjuncts_of, weights}
use Rattle.bind_words.proofs.conjunction.conjuncts.Given as goal

abbrev pub invariant-loop-last : goal.invariant-loop-last
invariant-loop-last l = flat_map conjuncts_of l.left ++ reverse l.found ≡ conjuncts_of l.fn.test

abbrev pub decreases-loop-last : goal.decreases-loop-last
decreases-loop-last l = weights l.left
