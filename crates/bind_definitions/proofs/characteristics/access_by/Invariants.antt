use Rattle.std.proofs.Common.{◌≡◌, drop}
use Rattle.bind_definitions.specs.Characteristics.{access_by}
use Rattle.bind_definitions.proofs.characteristics.access_by.Given as goal

abbrev pub invariant-loop-characteristic : goal.invariant-loop-characteristic
invariant-loop-characteristic l = access_by (drop l.characteristic-index l.characteristics) l.need ≡
    access_by l.characteristics l.need
