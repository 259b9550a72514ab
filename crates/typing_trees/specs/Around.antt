-- What stands around a bound expression or query: rows, slots, tables and functions. ISO/IEC
-- 9075-2, 6.6 (identifier chain), 7.6 (table reference) and 10.4 (routine invocation); ISO/IEC
-- 9075-4, 14.13 (for statement).
use Rattle.std.specs.Prelude.{ℕ, Bool, true, false, List, ◌∷◌, Option, Some, None, slice_get}
use Rattle.std.specs.Prelude.{option_map}
use Rattle.sql_values.specs.declared.value.SqlType.{SqlType}
use Rattle.row_types.specs.declared.RowType.{RowType}
use Rattle.catalog_store.specs.declared.entry.FunctionHead.{FunctionHead}
use Rattle.bind_kinds.specs.declared.kind.Kind.{Kind}
use Rattle.bind_kinds.specs.Kinds.{kind_of_type}

-- what a slot holds: a variable or a parameter, of a type, or a column of FOR, into which nothing
-- is stored
pub data Slot : Type 0 where
  stored : SqlType → Slot
  read : Kind → Slot

-- a variable's kind is that of its type; a column of FOR has the kind that it was read with
abbrev pub kind_of_slot : Slot → Kind
kind_of_slot (stored t) = kind_of_type t
kind_of_slot (read k) = k

-- the kinds of the columns of the rows around, the innermost first; the slots; and what names stand
-- for
pub record Around : Type 0 where
  pub rows : List (List Kind)
  pub slots : List Slot
  pub tables : List ℕ → Option RowType
  pub functions : List ℕ → Option FunctionHead

-- with one row more
abbrev pub with_row : List Kind → Around → Around
with_row row a = record {
  rows = row ∷ a.rows;
  slots = a.slots;
  tables = a.tables;
  functions =
      a.functions;
}

-- with other slots
abbrev pub with_slots : List Slot → Around → Around
with_slots slots a = record {
  rows = a.rows;
  slots = slots;
  tables = a.tables;
  functions =
      a.functions;
}

-- ---- what may fail

-- the second of the first, where there is a first
abbrev pub then : {A B : Type 0} → Option A → (A → Option B) → Option B
then None f = None
then (Some x) f = f x

-- it, where the test holds
abbrev pub only_if : {A : Type 0} → Bool → Option A → Option A
only_if false x = None
only_if true x = x

-- ---- places

-- the kind at a place of a row, by how many rows outwards that stands
abbrev pub kind_at : List (List Kind) → ℕ → ℕ → Option Kind
kind_at rows level place = then (slice_get rows level) (λ row. slice_get row place)

-- the kind of what stands in a slot, where there is such a slot
abbrev pub kind_in_slot : List Slot → ℕ → Option Kind
kind_in_slot slots slot = option_map kind_of_slot (slice_get slots slot)
