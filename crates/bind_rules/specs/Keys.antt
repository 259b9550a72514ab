-- Keys of tables. ISO/IEC 9075-2, 11.3 (table definition), 11.4 (column definition) and 11.7
-- (unique constraint definition).
use Rattle.std.specs.Prelude.{Bool, true, false, List, [], ◌∷◌, map}
use Rattle.std.specs.List.{list_any}
use Rattle.syntax_trees.specs.declared.anchor.Anchor.{Anchor}
use Rattle.syntax_trees.specs.declared.anchor.Ident.{Ident}
use Rattle.statement_trees.specs.declared.definition.Column.{Column}
use Rattle.statement_trees.specs.declared.definition.Constraint.{Constraint}
use Rattle.statement_trees.specs.declared.definition.Constraint.TheVariants.{NotNull, PrimaryKey}
use Rattle.bind_faults.specs.declared.fault.Fault.{Fault}
use Rattle.bind_faults.specs.declared.fault.FaultKind.TheVariants.{DuplicateName, NotPermitted}
use Rattle.bind_faults.specs.Faults.{fault_if}

-- a constraint that says NOT NULL
abbrev pub is_not_null : Constraint → Bool
is_not_null NotNull = true
is_not_null (PrimaryKey anchor) = false

-- one that says PRIMARY KEY
abbrev pub is_primary_key : Constraint → Bool
is_primary_key NotNull = false
is_primary_key (PrimaryKey anchor) = true

-- a column that is the key by itself
abbrev pub is_key : Column → Bool
is_key c = list_any is_primary_key c.constraints

-- a PRIMARY KEY where one stands before
abbrev pub duplicate : Anchor → Fault
duplicate anchor = record { at = anchor; kind = DuplicateName }

-- A table has a primary key, and not a second one: each place of one but the first.
abbrev pub key_faults : Ident → List Anchor → List Fault
key_faults i [] = fault_if true NotPermitted i.anchor
key_faults i (first ∷ later) = map duplicate later
