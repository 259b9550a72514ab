use Rattle.std.proofs.Common.{List, sym, subst, Ok}
use Rattle.table_store.specs.Kept.{IsKept}
use Rattle.atomic_undo.specs.declared.log.Edit.{Edit}
use Rattle.atomic_undo.specs.Changes.{rows_in, set_all, Replacing, IsAnswer}
use Rattle.atomic_undo.proofs.Replacing.{none_replaced, all_replaced}
use Rattle.atomic_undo.proofs.update.replace_rows.Goals as goal

pub replace_each-requires-clause-start : goal.replace_each-requires-clause-start
replace_each-requires-clause-start c =
    subst (λ (es : List Edit). Replacing c.args.tables.now c.args.tables.now c.args.table
    c.args.places.items c.args.new.items c.args.places.items c.args.new.items es)
    (sym c.in-Ok.ensures.items)
    (none_replaced c.args.tables.now c.args.table c.requires.there c.args.places.items
    c.args.new.items c.requires.places c.requires.both c.requires.same c.requires.fit
    (subst IsKept c.table_at.ensures c.len-rows.ensures.kept))

pub returns : goal.returns
returns c =
    subst (λ (es : List Edit). IsAnswer c.args.tables.now c.replace_each.new.tables c.args.table
    (set_all c.args.places.items c.args.new.items (rows_in c.args.tables.now.tables c.args.table))
    (Ok es)) (sym c.from_vec.ensures)
    (all_replaced c.args.tables.now c.args.table c.requires.there c.args.places.items
    c.args.new.items c.replace_each.new.tables c.replace_each.new.edits.items
    c.replace_each.ensures)
