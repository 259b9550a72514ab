use Rattle.std.proofs.Common.{◌≡◌, ◌++◌, length}
use Rattle.std.specs.Prelude.{reverse}
use Rattle.bind_words.proofs.words.turned.Given as goal

abbrev pub invariant-loop-last : goal.invariant-loop-last
invariant-loop-last l = l.found ++ reverse l.left ≡ reverse l.fn.exprs

abbrev pub decreases-loop-last : goal.decreases-loop-last
decreases-loop-last l = length l.left
