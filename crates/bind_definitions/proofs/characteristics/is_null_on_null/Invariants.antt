use Rattle.std.proofs.Common.{◌≡◌, drop}
use Rattle.bind_definitions.specs.Characteristics.{is_null_on_null}
use Rattle.bind_definitions.proofs.characteristics.is_null_on_null.Given as goal

abbrev pub invariant-loop-characteristic : goal.invariant-loop-characteristic
invariant-loop-characteristic l = is_null_on_null (drop l.characteristic-index l.characteristics) ≡
    is_null_on_null l.characteristics
