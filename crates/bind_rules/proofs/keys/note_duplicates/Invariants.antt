use Rattle.std.proofs.Common.{◌≡◌, map, drop}
use Rattle.bind_faults.specs.Faults.{noted}
use Rattle.bind_rules.specs.Keys.{duplicate}
use Rattle.bind_rules.proofs.keys.note_duplicates.Given as goal

abbrev pub invariant-loop-place : goal.invariant-loop-place
invariant-loop-place l = noted l.least (map duplicate (drop l.place-index l.places)) ≡
    noted l.initial.least (map duplicate l.places)
