use Rattle.std.proofs.Common.{◌≡◌, ◌++◌, map, drop}
use Rattle.std.specs.Prelude.{reverse}
use Rattle.bind_kinds.specs.Words.{links_of}
use Rattle.bind_words.proofs.words.links_of.Given as goal

abbrev pub invariant-loop-link : goal.invariant-loop-link
invariant-loop-link l =
    l.found ++ links_of (map (λ x. x.operator) (drop l.link-index l.links)) (reverse l.left) ≡
    links_of (map (λ x. x.operator) l.links) l.fn.operands
