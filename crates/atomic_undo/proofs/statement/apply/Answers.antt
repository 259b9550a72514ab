use Rattle.std.proofs.Common.{◌∷◌, ◌++◌, [], List, ap, ◌∙◌}
use Rattle.row_types.specs.Ordered.{in_order}
use Rattle.atomic_undo.specs.declared.log.Entry.{Entry}
use Rattle.atomic_undo.specs.Changes.{rows_in, order_in}
use Rattle.atomic_undo.specs.Applying.{result_of}
use Rattle.atomic_undo.proofs.Laws.{KeepsMarks-same}
use Rattle.atomic_undo.proofs.Results.{belongs_noted, marks_noted, belongs_unchanged, unchanged_by}
use Rattle.atomic_undo.proofs.statement.apply.Goals as goal

pub returns-in-Ok-make-clause-belongs : goal.returns-in-Ok-make-clause-belongs
returns-in-Ok-make-clause-belongs c =
    let m = c.args.tables.now in
    belongs_noted m c.make.new.tables c.args.table
    (in_order (order_in m.tables c.args.table)
    (result_of c.args.changes (rows_in m.tables c.args.table))) c.in-Ok-make.edits
    c.requires.there (c.in-Ok-make.ensures.0)
    c.args.log.now.entries c.push.new.self.entries
    (c.push.ensures ∙ ap (λ (es : List Entry). es ++ record {
      table = c.args.table;
      edits =
          c.in-Ok-make.edits;
    } ∷ []) c.reserve_one.ensures.entries) c.requires.belongs

pub returns-in-Ok-make-clause-marks : goal.returns-in-Ok-make-clause-marks
returns-in-Ok-make-clause-marks c =
    let m = c.args.tables.now in
    marks_noted m c.make.new.tables c.args.table
    (in_order (order_in m.tables c.args.table)
    (result_of c.args.changes (rows_in m.tables c.args.table))) c.in-Ok-make.edits
    c.requires.there (c.in-Ok-make.ensures.0)
    c.args.log.now c.push.new.self (c.push.ensures ∙
    ap (λ (es : List Entry). es ++ record { table = c.args.table; edits = c.in-Ok-make.edits } ∷
    []) c.reserve_one.ensures.entries)

pub returns-in-Err-clause-belongs : goal.returns-in-Err-clause-belongs
returns-in-Err-clause-belongs c =
    let m = c.args.tables.now in
    let u = unchanged_by m c.make.new.tables c.args.table
    (result_of c.args.changes (rows_in m.tables c.args.table)) c.in-Err.fault c.in-Err.ensures
    in
    belongs_unchanged m c.make.new.tables c.args.log.now.entries c.reserve_one.new.self.entries
    c.reserve_one.ensures.entries u.tables u.capacities c.requires.belongs

pub returns-in-Err-clause-marks : goal.returns-in-Err-clause-marks
returns-in-Err-clause-marks c =
    let m = c.args.tables.now in
    let u = unchanged_by m c.make.new.tables c.args.table
    (result_of c.args.changes (rows_in m.tables c.args.table)) c.in-Err.fault c.in-Err.ensures
    in
    KeepsMarks-same m c.args.log.now c.make.new.tables c.reserve_one.new.self u.tables
    c.reserve_one.ensures.entries
