use Rattle.std.proofs.Common.{◌≡◌, map, length}
use Rattle.bind_faults.specs.Faults.{noted}
use Rattle.bind_kinds.specs.Chains.{links_faults}
use Rattle.bind_kinds.proofs.chains.ask_chain.Given as goal

abbrev pub invariant-loop-links : goal.invariant-loop-links
invariant-loop-links l =
    noted l.least (links_faults l.at l.left (map (λ x. x.operator) l.links) l.heads)
    ≡ noted l.initial.least (links_faults l.at l.initial.left
    (map (λ x. x.operator) l.initial.links) l.initial.heads)

abbrev pub decreases-loop-links : goal.decreases-loop-links
decreases-loop-links l = length l.links
