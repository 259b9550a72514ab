use Rattle.std.proofs.Common.{subst}
use Rattle.row_types.specs.Rows.{by_key, fits}
use Rattle.row_types.specs.Tables.{table_at}
use Rattle.table_store.specs.Kept.{Kept}
use Rattle.atomic_undo.specs.Sorting.{PutAlike}
use Rattle.atomic_undo.proofs.Sorting.{all_moved}
use Rattle.atomic_undo.proofs.Placing.{answer_alike}
use Rattle.atomic_undo.proofs.insert.insert_rows.Goals as goal

pub insert_or_refuse-requires-clause-fit : goal.insert_or_refuse-requires-clause-fit
insert_or_refuse-requires-clause-fit c =
    let t = table_at c.args.tables.now.tables c.args.table in
    all_moved (fits t.columns t.key) c.args.new.items c.in-Ok.sorted.rows.items
    c.in-Ok.ensures.moved c.requires.fit

pub returns-in-Ok : goal.returns-in-Ok
returns-in-Ok c =
    answer_alike c.args.tables.now c.insert_or_refuse.new.tables c.args.table
    c.in-Ok.sorted.rows.items c.args.new.items c.insert_or_refuse.result
    (subst (λ (k : Kept). PutAlike (by_key k.table.key) k.table.rows c.in-Ok.sorted.rows.items
    c.args.new.items) c.table_at.ensures c.in-Ok.ensures.alike)
    c.insert_or_refuse.ensures
