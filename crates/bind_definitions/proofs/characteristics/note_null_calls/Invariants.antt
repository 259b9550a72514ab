use Rattle.std.proofs.Common.{◌≡◌, drop}
use Rattle.bind_faults.specs.Faults.{noted}
use Rattle.bind_definitions.specs.Characteristics.{null_call_faults}
use Rattle.bind_definitions.proofs.characteristics.note_null_calls.Given as goal

abbrev pub invariant-loop-characteristic : goal.invariant-loop-characteristic
invariant-loop-characteristic l = noted l.least
    (null_call_faults (drop l.characteristic-index l.characteristics)) ≡ noted l.initial.least
    (null_call_faults l.characteristics)
