use Rattle.std.proofs.Common.{◌++◌, [], ◌∷◌, List, ap, ◌∙◌, subst}
use Rattle.table_store.specs.declared.placed_row.PlacedRow.{PlacedRow}
use Rattle.table_store.specs.Kept.{IsKept}
use Rattle.atomic_undo.specs.declared.log.Edit.TheVariants.{RemovedAll}
use Rattle.atomic_undo.proofs.Deleting.{went_at_once}
use Rattle.atomic_undo.proofs.delete.remove_at_once.Goals as goal

pub returns-clause-out : goal.returns-clause-out
returns-clause-out c =
    went_at_once c.args.tables.now c.args.table c.requires.there c.args.places.now
    c.args.edits.now.items c.remove_all.new.self c.in_ok-removed.removed.items
    c.push_reserved.new.self.items c.requires.places c.requires.can
    (subst IsKept c.table_at.ensures c.len-rows.ensures.kept) c.in_ok-removed.ensures.taken
    c.in_ok-removed.ensures.tables c.in_ok-removed.ensures.capacities
    (c.push_reserved.ensures.items ∙ ap (λ (qs : List PlacedRow). c.args.edits.now.items ++
    RemovedAll qs ∷ []) c.from_vec.ensures)
