-- Where a value may go: into a variable that is stored into, and out of a function by RETURN.
-- ISO/IEC 9075-4, 14.5 (assignment statement); ISO/IEC 9075-2, 15.2 (return statement).
use Rattle.std.specs.Prelude.{ℕ, true, not, List, Option, Some, None, is_some}
use Rattle.sql_values.specs.declared.value.SqlType.{SqlType}
use Rattle.syntax_trees.specs.declared.anchor.Anchor.{Anchor}
use Rattle.syntax_trees.specs.declared.anchor.Ident.{Ident}
use Rattle.bind_faults.specs.declared.fault.Fault.{Fault}
use Rattle.bind_faults.specs.declared.fault.FaultKind.TheVariants.{UnknownName, NotPermitted}
use Rattle.bind_faults.specs.Faults.{fault_if}
use Rattle.bind_kinds.specs.Kinds.{kind_of_type}
use Rattle.bind_sight.specs.declared.scope.Variable.{Variable}

-- a variable or a parameter of a type
abbrev pub variable_of : SqlType → Variable
variable_of t = record { kind = kind_of_type t; data_type = Some t }

-- a variable of the name is in sight, and it is no column of FOR
abbrev pub target_faults : Ident → Option (ℕ × Variable) → List Fault
target_faults i None = fault_if true UnknownName i.anchor
target_faults i (Some v) = fault_if (not (is_some v.1.data_type)) NotPermitted i.anchor

-- RETURN stands in a function alone, by the type that is returned there
abbrev pub return_faults : Anchor → Option SqlType → List Fault
return_faults at returns = fault_if (not (is_some returns)) NotPermitted at
