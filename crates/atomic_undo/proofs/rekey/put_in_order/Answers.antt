use Rattle.std.proofs.Common.{◌≡◌, ◌≤◌, ◌+◌, List, sym, subst, arith, length, IsTrue, true}
use Rattle.std.proofs.lemmas.List.Sorted.{length_permutation}
use Rattle.row_types.specs.Ordered.{rises}
use Rattle.row_types.specs.Rows.{by_key, fits}
use Rattle.row_types.specs.Tables.{table_at}
use Rattle.table_store.specs.Kept.{Kept, IsKept}
use Rattle.atomic_undo.specs.Sorting.{PutAlike}
use Rattle.atomic_undo.proofs.Sorting.{all_moved}
use Rattle.atomic_undo.proofs.Rekeyed.{alike_in, alike_out}
use Rattle.atomic_undo.proofs.rekey.put_in_order.Goals as goal

pub put_in-requires-clause-fit : goal.put_in-requires-clause-fit
put_in-requires-clause-fit c =
    let t = table_at c.args.tables.now.tables c.args.table in
    all_moved (fits t.columns t.key) c.args.new.items c.in_ok-sorted.sorted.rows.items
    c.in_ok-sorted.ensures.moved c.requires.fit

pub put_in-requires-clause-room : goal.put_in-requires-clause-room
put_in-requires-clause-room c =
    let e = length_permutation c.args.new.items c.in_ok-sorted.sorted.rows.items
    c.in_ok-sorted.ensures.moved in omega arith

pub returns-in-None-clause-done : goal.returns-in-None-clause-done
returns-in-None-clause-done c =
    let xs = c.in_ok-sorted.sorted.rows.items in
    let ys = c.args.new.items in
    let e = length_permutation ys xs c.in_ok-sorted.ensures.moved in
    alike_in c.args.tables.now c.put_in.new.tables c.args.table xs ys c.args.edits.now.items
    c.put_in.new.edits.items (subst IsKept c.table_at.ensures c.len-rows.ensures.kept)
    (subst (λ (k : Kept). PutAlike (by_key k.table.key) k.table.rows xs ys) c.table_at-2.ensures
    c.in_ok-sorted.ensures.alike) (omega arith) c.in_ok-refused.refused c.in-None.is
    c.in_ok-refused.ensures.done

pub returns-in-Some-clause-done : goal.returns-in-Some-clause-done
returns-in-Some-clause-done c =
    let xs = c.in_ok-sorted.sorted.rows.items in
    let ys = c.args.new.items in
    let e = length_permutation ys xs c.in_ok-sorted.ensures.moved in
    alike_out c.args.tables.now c.put_in.new.tables c.args.table xs ys c.args.edits.now.items
    c.put_in.new.edits.items (subst IsKept c.table_at.ensures c.len-rows.ensures.kept)
    (subst (λ (k : Kept). PutAlike (by_key k.table.key) k.table.rows xs ys) c.table_at-2.ensures
    c.in_ok-sorted.ensures.alike) (omega arith) c.in_ok-refused.refused c.in-Some.field-0
    c.in-Some.is c.in_ok-refused.ensures.done
