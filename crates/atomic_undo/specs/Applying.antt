-- What `apply` answers and leaves.
use Rattle.std.specs.Prelude.{ℕ, ◌≡◌, ◌≤◌, true, List, ◌++◌, length, Some, None, Result, Ok, Err}
use Rattle.std.specs.List.{list_all}
use Rattle.row_types.specs.Ordered.{in_order, first_repeat}
use Rattle.row_types.specs.Rows.{Row, fits}
use Rattle.row_types.specs.Tables.{Table, with_rows_at}
use Rattle.table_store.specs.Memory.{Memory}
use Rattle.atomic_undo.specs.declared.changes.Changes.{Changes}
use Rattle.atomic_undo.specs.declared.changes.Changes.TheVariants.{Insert, Update, Delete}
use Rattle.atomic_undo.specs.declared.fault.ApplyFault.{ApplyFault}
use Rattle.atomic_undo.specs.declared.fault.ApplyFault.TheVariants.{Constraint, NoMemory}
use Rattle.atomic_undo.specs.Book.{Book}
use Rattle.atomic_undo.specs.Undo.{back_to}
use Rattle.atomic_undo.specs.Changes.{removed_all, set_all, order_in, rows_in, Climb}

-- the rows of the whole result, in the order in which their keys are judged: for INSERT the old
-- rows and then the new ones, else the rows in their old order
abbrev pub result_of : Changes → List Row → List Row
result_of (Insert new) rows = rows ++ new.items
result_of (Update places new) rows = set_all places.items new.items rows
result_of (Delete places) rows = removed_all places.items rows

-- how many rows are met
abbrev pub count_of : Changes → ℕ
count_of (Insert new) = length new.items
count_of (Update places new) = length new.items
count_of (Delete places) = length places.items

-- the rows were assigned and pass NOT NULL, and the places increase and are there
abbrev pub IsFor : Table → Changes → Type 0
IsFor t (Insert new) = list_all (fits t.columns t.key) new.items ≡ true
IsFor t (Update places new) = Climb 0 places.items (length t.rows) ×
    (length places.items ≡ length new.items) × (list_all (fits t.columns t.key) new.items ≡ true)
IsFor t (Delete places) = Climb 0 places.items (length t.rows)

-- The changes are made, or refused exactly where a row of the result has the key of an earlier one,
-- at the place of the first such row; a refusal leaves tables and log.
abbrev pub IsApplied : Memory → Book → Memory → Book → ℕ → Changes → Result ℕ ApplyFault → Type 0
IsApplied m k n l t changes (Ok count) =
    (count ≡ count_of changes)
    × (n.tables ≡ with_rows_at t (in_order (order_in m.tables t)
    (result_of changes (rows_in m.tables t))) m.tables)
    × (first_repeat (order_in m.tables t) (result_of changes (rows_in m.tables t)) ≡ None)
IsApplied m k n l t changes (Err (Constraint at)) =
    (n.tables ≡ m.tables) × (l.entries ≡ k.entries) ×
    (first_repeat (order_in m.tables t) (result_of changes (rows_in m.tables t)) ≡ Some at)
IsApplied m k n l t changes (Err NoMemory) = (n.tables ≡ m.tables) × (l.entries ≡ k.entries)

-- From one state of tables and log to another no mark is lost, and a roll back to each mark that
-- there was gives the same.
pub record KeepsMarks (m : Memory) (k : Book) (n : Memory) (l : Book) : Type 0 where
  pub longer : length k.entries ≤ length l.entries
  pub back : (mark : ℕ) → mark ≤ length k.entries →
      back_to mark l.entries n.tables ≡ back_to mark k.entries m.tables
