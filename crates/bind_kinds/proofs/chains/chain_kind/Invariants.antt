use Rattle.std.proofs.Common.{◌≡◌, map, drop}
use Rattle.bind_kinds.specs.Chains.{kind_of_chain}
use Rattle.bind_kinds.proofs.chains.chain_kind.Given as goal

abbrev pub invariant-loop-link : goal.invariant-loop-link
invariant-loop-link l = kind_of_chain l.kind (map (λ x. x.operator) (drop l.link-index l.links)) ≡
    kind_of_chain l.initial.kind (map (λ x. x.operator) l.links)
