use Rattle.std.proofs.Common.{◌≡◌, ◌<◌, length}
use Rattle.row_types.specs.Tables.{table_at, with_rows_at}
use Rattle.table_store.specs.Memory.{kept_at, NoLess}
use Rattle.atomic_undo.specs.Undo.{rows_before, undo_entry, CanUndo}
use Rattle.atomic_undo.proofs.undo.undo_all.Given as goal

abbrev pub invariant-loop-edit : goal.invariant-loop-edit
invariant-loop-edit l = record {
  there : l.table < length l.tables.tables;
  can : CanUndo (kept_at l.tables l.table) l.edits;
  rows : with_rows_at l.table (rows_before l.edits (table_at l.tables.tables l.table).rows)
      l.tables.tables ≡ undo_entry l.fn.entry l.initial.tables.tables;
  capacities : NoLess l.initial.tables.capacities l.tables.capacities;
}

abbrev pub decreases-loop-edit : goal.decreases-loop-edit
decreases-loop-edit l = length l.edits
