use Rattle.std.proofs.Common.{◌≡◌, drop}
use Rattle.bind_faults.specs.Faults.{noted}
use Rattle.bind_definitions.specs.Characteristics.{access_faults}
use Rattle.bind_definitions.proofs.characteristics.note_access.Given as goal

abbrev pub invariant-loop-characteristic : goal.invariant-loop-characteristic
invariant-loop-characteristic l = noted l.least
    (access_faults l.need (drop l.characteristic-index l.characteristics)) ≡ noted l.initial.least
    (access_faults l.need l.characteristics)
