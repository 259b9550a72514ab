use Rattle.std.proofs.Common.{◌≡◌, map, take}
use Rattle.bind_changes.proofs.change.assigned.Given as goal

abbrev pub invariant-loop-assignment : goal.invariant-loop-assignment
invariant-loop-assignment l = l.columns ≡ map (λ a. a.target)
    (take l.assignment-index l.assignments)
