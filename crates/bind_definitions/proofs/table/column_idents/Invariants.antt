use Rattle.std.proofs.Common.{◌≡◌, ◌++◌, drop}
use Rattle.bind_definitions.specs.Tables.{column_idents}
use Rattle.bind_definitions.proofs.table.column_idents.Given as goal

abbrev pub invariant-loop-element : goal.invariant-loop-element
invariant-loop-element l = l.idents ++ column_idents (drop l.element-index l.elements) ≡
    column_idents l.elements
