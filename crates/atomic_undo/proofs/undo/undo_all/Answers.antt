use Rattle.std.proofs.Common.{List, sym, ap, ◌∙◌, subst}
use Rattle.row_types.specs.Tables.{table_at, with_rows_at}
use Rattle.table_store.specs.Memory.{kept_at}
use Rattle.atomic_undo.specs.declared.log.Edit.{Edit}
use Rattle.atomic_undo.specs.Undo.{CanUndo, rows_before, undo_edit}
use Rattle.atomic_undo.proofs.TakingBack.{CanUndo-last}
use Rattle.atomic_undo.proofs.Places.{rows_at-same, no_less-trans}
use Rattle.atomic_undo.proofs.Steps.{there_after, can_after, rows_after}
use Rattle.atomic_undo.proofs.undo.undo_all.Goals as goal

pub undo-requires-clause-can : goal.undo-requires-clause-can
undo-requires-clause-can c =
    CanUndo-last (kept_at c.loop-edit.tables c.args.entry.table) c.pop.new.self c.in-Some.edit
    (subst (λ (es : List Edit). CanUndo (kept_at c.loop-edit.tables c.args.entry.table) es)
    c.in-Some.ensures c.loop-edit.invariant.can)

pub loop-edit-preserved : goal.loop-edit-preserved
loop-edit-preserved c = record {
  there = there_after c.args.entry.table (undo_edit c.in-Some.edit
      (table_at c.loop-edit.tables.tables c.args.entry.table).rows) c.loop-edit.tables.tables
      c.undo.new.tables.tables c.undo.ensures.tables c.loop-edit.invariant.there;
  can = can_after c.loop-edit.tables c.undo.new.tables c.args.entry.table c.pop.new.self
      c.loop-edit.edits c.in-Some.edit c.in-Some.ensures c.loop-edit.invariant.there
      c.loop-edit.invariant.can c.undo.ensures.tables c.undo.ensures.capacities;
  rows = rows_after c.loop-edit.tables c.undo.new.tables c.args.entry.table c.pop.new.self
      c.loop-edit.edits c.in-Some.edit c.in-Some.ensures c.loop-edit.invariant.there
      c.undo.ensures.tables ∙ c.loop-edit.invariant.rows;
  capacities = no_less-trans c.args.tables.now.capacities c.loop-edit.tables.capacities
      c.undo.new.tables.capacities c.loop-edit.invariant.capacities c.undo.ensures.capacities;
}

pub returns-clause-tables : goal.returns-clause-tables
returns-clause-tables c =
    sym (rows_at-same c.args.entry.table c.loop-edit.tables.tables)
    ∙ ap (λ (es : List Edit). with_rows_at c.args.entry.table
    (rows_before es (table_at c.loop-edit.tables.tables c.args.entry.table).rows)
    c.loop-edit.tables.tables) (sym (c.in_default.ensures.0))
    ∙ c.loop-edit.invariant.rows
