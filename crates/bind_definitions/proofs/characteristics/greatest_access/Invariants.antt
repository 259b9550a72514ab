use Rattle.std.proofs.Common.{◌≡◌, drop}
use Rattle.bind_definitions.specs.Characteristics.{greater, greatest_access}
use Rattle.bind_definitions.proofs.characteristics.greatest_access.Given as goal

abbrev pub invariant-loop-name : goal.invariant-loop-name
invariant-loop-name l = greater l.access (greatest_access l.catalog (drop l.name-index l.names)) ≡
    greatest_access l.catalog l.names
