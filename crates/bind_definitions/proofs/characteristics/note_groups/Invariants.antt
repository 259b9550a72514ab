use Rattle.std.proofs.Common.{◌≡◌, drop}
use Rattle.bind_faults.specs.Faults.{noted}
use Rattle.bind_definitions.specs.Characteristics.{again_after, group_faults}
use Rattle.bind_definitions.proofs.characteristics.note_groups.Given as goal

abbrev pub invariant-loop-characteristic : goal.invariant-loop-characteristic
invariant-loop-characteristic l = noted l.least
    (again_after l.groups (drop l.characteristic-index l.characteristics)) ≡ noted l.initial.least
    (group_faults l.characteristics)
