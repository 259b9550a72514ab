use Rattle.std.proofs.Common.{List, sym, subst, Ok}
use Rattle.atomic_undo.specs.declared.log.Edit.{Edit}
use Rattle.atomic_undo.specs.Changes.{rows_in, removed_all, IsAnswer}
use Rattle.atomic_undo.proofs.Deleting.{all_out}
use Rattle.atomic_undo.proofs.delete.delete_rows.Goals as goal

pub returns-in-Ok : goal.returns-in-Ok
returns-in-Ok c =
    subst (λ (es : List Edit). IsAnswer c.args.tables.now c.take_out.new.tables c.args.table
    (removed_all c.args.places.items (rows_in c.args.tables.now.tables c.args.table)) (Ok es))
    (sym c.from_vec.ensures)
    (all_out c.args.tables.now c.args.table c.requires.there c.args.places.items
    c.new-edits.result.items c.take_out.new.tables c.take_out.new.edits.items
    c.new-edits.ensures.items c.in-Ok.ensures.out)
