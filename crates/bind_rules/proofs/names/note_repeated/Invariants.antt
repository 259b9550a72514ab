use Rattle.std.proofs.Common.{◌≡◌, [], map, drop, take}
use Rattle.bind_faults.specs.Faults.{noted}
use Rattle.bind_rules.specs.Names.{repeated}
use Rattle.bind_rules.proofs.names.note_repeated.Given as goal

abbrev pub invariant-loop-place : goal.invariant-loop-place
invariant-loop-place l =
    noted l.least (repeated (map (λ i. i.name) (take l.place l.idents)) (drop l.place l.idents))
    ≡ noted l.initial.least (repeated [] l.idents)
