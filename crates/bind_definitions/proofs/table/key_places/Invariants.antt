use Rattle.std.proofs.Common.{◌≡◌, ◌++◌, drop}
use Rattle.bind_definitions.specs.Tables.{key_places}
use Rattle.bind_definitions.proofs.table.key_places.Given as goal

abbrev pub invariant-loop-element : goal.invariant-loop-element
invariant-loop-element l = l.places ++ key_places (drop l.element-index l.elements) ≡
    key_places l.elements
