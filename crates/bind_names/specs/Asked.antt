-- What is asked of tables, joins and subqueries by what they are alone. ISO/IEC 9075-2, 7.6 (table
-- reference), 7.10 (joined table) and 7.19 (subquery).
use Rattle.std.specs.Prelude.{ℕ, ◌==◌, Bool, true, false, not, List, [], ◌∷◌, Option, Some, None}
use Rattle.std.specs.Prelude.{is_some}
use Rattle.syntax_trees.specs.declared.anchor.Anchor.{Anchor}
use Rattle.syntax_trees.specs.declared.anchor.Ident.{Ident}
use Rattle.bind_faults.specs.declared.fault.Fault.{Fault}
use Rattle.bind_faults.specs.declared.fault.FaultKind.TheVariants.{UnknownName, WrongCount}
use Rattle.bind_faults.specs.Faults.{Noted, fault_if}
use Rattle.bind_names.specs.declared.asked.Join.{Join}
use Rattle.bind_names.specs.declared.asked.Join.TheVariants.{Inner, Left}

-- ---- tables

-- a fault at the name of a table that is not known
abbrev pub unknown_table : {A : Type 0} → Ident → Option A → List Fault
unknown_table i t = fault_if (not (is_some t)) UnknownName i.anchor

-- a table that is known is used
abbrev pub table_uses : {A : Type 0} → List ℕ → Option A → List (List ℕ)
table_uses name None = []
table_uses name (Some t) = name ∷ []

-- what the name of a table asks by itself, and that a known table is used
abbrev pub table_head : {A : Type 0} → Ident → Option A → Noted (Unit {0})
table_head i t = record { value = tt; faults = unknown_table i t; uses = table_uses i.name t }

-- ---- joins

-- LEFT JOIN keeps each row of its left side, also one that meets no row of the right side
abbrev pub keeps_unmatched : Join → Bool
keeps_unmatched Inner = false
keeps_unmatched Left = true

-- ---- subqueries

-- a fault at a query that stands where one column is wanted, and has another number of columns
abbrev pub one_column : ℕ → Anchor → List Fault
one_column columns at = fault_if (not (columns == 1)) WrongCount at
