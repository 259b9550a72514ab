-- What DROP refuses. ISO/IEC 9075-2, 11.31 (drop table statement) and 11.62 (drop routine
-- statement).
use Rattle.std.specs.Prelude.{ℕ, ◌==◌, Bool, true, false, not, List}
use Rattle.syntax_trees.specs.declared.anchor.Ident.{Ident}
use Rattle.statement_trees.specs.declared.definition.ObjectSort.{ObjectSort}
use Rattle.statement_trees.specs.declared.definition.ObjectSort.TheVariants as sorts
use Rattle.bind_faults.specs.declared.fault.Fault.{Fault}
use Rattle.bind_faults.specs.declared.fault.FaultKind.TheVariants.{UnknownName, NotPermitted}
use Rattle.bind_faults.specs.Faults.{fault_if}

-- DROP TABLE
abbrev pub is_table : ObjectSort → Bool
is_table sorts.Table = true
is_table sorts.Function = false
is_table sorts.Procedure = false

-- DROP FUNCTION
abbrev pub is_function : ObjectSort → Bool
is_function sorts.Table = false
is_function sorts.Function = true
is_function sorts.Procedure = false

-- DROP PROCEDURE
abbrev pub is_procedure : ObjectSort → Bool
is_procedure sorts.Table = false
is_procedure sorts.Function = false
is_procedure sorts.Procedure = true

-- the name stands for a thing of the sort, which nothing else uses
abbrev pub drop_faults : Ident → Bool → ℕ → List Fault
drop_faults i false users = fault_if true UnknownName i.anchor
drop_faults i true users = fault_if (not (users == 0)) NotPermitted i.anchor
