use Rattle.std.proofs.Common.{◌≡◌, ◌++◌, drop}
use Rattle.bind_definitions.specs.Tables.{column_types}
use Rattle.bind_definitions.proofs.table.column_types.Given as goal

abbrev pub invariant-loop-element : goal.invariant-loop-element
invariant-loop-element l = l.types ++ column_types (drop l.element-index l.elements) ≡
    column_types l.elements
