use Rattle.std.proofs.Common.{ap, ◌∙◌, subst, arith, length}
use Rattle.table_store.specs.Kept.{Kept, IsKept}
use Rattle.atomic_undo.proofs.After.{can_append, went_after}
use Rattle.atomic_undo.proofs.insert.insert_after.Goals as goal

pub append-requires-clause-can : goal.append-requires-clause-can
append-requires-clause-can c =
    can_append c.args.tables.now c.args.table c.args.new.items
    (subst IsKept c.table_at.ensures c.len-first.ensures.kept) c.requires.rise c.requires.fit
    (let r = c.requires.room in omega arith)

pub returns : goal.returns
returns c =
    went_after c.args.tables.now c.args.table c.args.new.items
    (subst IsKept c.table_at.ensures c.len-first.ensures.kept) c.requires.rise
    c.append.new.self c.args.edits.now.items c.push_reserved.new.self.items c.len-first.result
    c.requires.there c.requires.can
    (let r = c.requires.room in omega arith) c.append.ensures.tables c.append.ensures.capacities
    (c.len-first.ensures.value ∙ ap (λ (k : Kept). length k.table.rows) c.table_at.ensures)
    c.push_reserved.ensures.items
