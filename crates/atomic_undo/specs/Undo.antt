-- What taking changes back leaves, the newest first.
use Rattle.std.specs.Prelude.{ℕ, ◌<◌, ◌≤◌, List, [], ◌∷◌, length, take, drop, slice_set}
use Rattle.std.specs.List.{insert, remove}
use Rattle.row_types.specs.Rows.{Row}
use Rattle.row_types.specs.Tables.{Tables, table_at, with_rows_at}
use Rattle.table_store.specs.Kept.{Kept, holding, CanInsert, CanInsertAll, CanReplace}
use Rattle.table_store.specs.Places.{Climb, removed_all, inserted_all}
use Rattle.table_store.specs.Memory.{kept_at}
use Rattle.atomic_undo.specs.declared.log.Edit.{Edit}
use Rattle.atomic_undo.specs.declared.log.Edit.TheVariants.{Inserted, Appended, InsertedAll}
use Rattle.atomic_undo.specs.declared.log.Edit.TheVariants.{Removed, RemovedAll, Replaced}
use Rattle.atomic_undo.specs.declared.log.Entry.{Entry}

-- the rows as they were before one change
abbrev pub undo_edit : Edit → List Row → List Row
undo_edit (Inserted at) rows = remove rows at
undo_edit (Appended at) rows = take at rows
undo_edit (InsertedAll places) rows = removed_all places rows
undo_edit (Removed at row) rows = insert rows at row
undo_edit (RemovedAll removed) rows = inserted_all removed rows
undo_edit (Replaced at row) rows = slice_set rows at row

-- the rows as they were before changes, of which the last is taken back first
abbrev pub rows_before : List Edit → List Row → List Row
rows_before [] rows = rows
rows_before (e ∷ es) rows = undo_edit e (rows_before es rows)

-- the tables as they were before one statement's changes
abbrev pub undo_entry : Entry → Tables → Tables
undo_entry e ts = with_rows_at e.table (rows_before e.edits (table_at ts e.table).rows) ts

-- the tables as they were before the entries of a log
abbrev pub undone : List Entry → Tables → Tables
undone [] ts = ts
undone (e ∷ es) ts = undo_entry e (undone es ts)

-- what a roll back to a mark gives
abbrev pub back_to : ℕ → List Entry → Tables → Tables
back_to mark entries ts = undone (drop mark entries) ts

-- one change can be taken back: its places are there, and what comes back fits, keeps the key order
-- and has memory
abbrev pub CanUndoEdit : Kept → Edit → Type 0
CanUndoEdit k (Inserted at) = at < length k.table.rows
CanUndoEdit k (Appended at) = at ≤ length k.table.rows
CanUndoEdit k (InsertedAll places) = Climb 0 places (length k.table.rows)
CanUndoEdit k (Removed at row) = CanInsert k at row
CanUndoEdit k (RemovedAll removed) = CanInsertAll k removed
CanUndoEdit k (Replaced at row) = CanReplace k at row

-- changes can be taken back, the last first, each from what taking the later ones back leaves
abbrev pub CanUndo : Kept → List Edit → Type 0
CanUndo k [] = Unit {0}
CanUndo k (e ∷ es) = CanUndo k es × CanUndoEdit (holding (rows_before es k.table.rows) k) e

-- one statement's changes can be taken back: its table is there, and each change can
abbrev pub CanUndoEntry : List ℕ → Tables → Entry → Type 0
CanUndoEntry capacities ts e = (e.table < length ts) ×
    CanUndo (kept_at (record { tables = ts; capacities = capacities }) e.table) e.edits

-- a log belongs to tables: taking its entries back, the newest first, each can be taken back
abbrev pub Belongs : List ℕ → List Entry → Tables → Type 0
Belongs capacities [] ts = Unit {0}
Belongs capacities (e ∷ es) ts = Belongs capacities es ts × CanUndoEntry capacities (undone es ts) e
