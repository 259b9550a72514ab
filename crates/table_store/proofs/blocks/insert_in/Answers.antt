use Rattle.std.proofs.Common.{◌≡◌, List, sym, ap, ◌∙◌, subst, arith, length, insert, set}
use Rattle.row_types.specs.Rows.{Row}
use Rattle.table_store.specs.Blocks.{joined, Packed}
use Rattle.table_store.proofs.Packing.{down_here, place_in, place_of_block, same_block}
use Rattle.table_store.proofs.Packing.{at_most_there, full_before, inserted, joined-other}
use Rattle.table_store.proofs.Packing.{packed_inserted}
use Rattle.table_store.proofs.blocks.insert_in.Goals as goal

pub push_down-requires-clause-before : goal.push_down-requires-clause-before
push_down-requires-clause-before c = (down_here c.args.blocks.now.items c.args.at c.args.off
    c.index_mut.result.now c.pop_back-last.new.self c.insert_at.new.self
    c.index_mut-then-len-eq1024.result.now c.pop_back-last.result c.args.row c.requires.packed
    c.requires.within c.requires.place c.requires.room c.index_mut.ensures.value
    (ap (λ (xs : List Row). length xs) (same_block c.args.blocks.now.items c.args.at
    c.index_mut.result.now c.index.result.now
    (place_in c.args.blocks.now.items c.args.at c.args.off c.requires.packed c.requires.within
    c.requires.place c.requires.room).0 c.index_mut.ensures.value c.index.ensures) ∙
    sym c.len.ensures ∙ c.if-len-eq1024.true) c.pop_back-last.ensures
    c.index_mut-then-len-eq1024.ensures.value c.insert_at.ensures).before

pub push_down-requires-clause-packed : goal.push_down-requires-clause-packed
push_down-requires-clause-packed c = (down_here c.args.blocks.now.items c.args.at c.args.off
    c.index_mut.result.now c.pop_back-last.new.self c.insert_at.new.self
    c.index_mut-then-len-eq1024.result.now c.pop_back-last.result c.args.row c.requires.packed
    c.requires.within c.requires.place c.requires.room c.index_mut.ensures.value
    (ap (λ (xs : List Row). length xs) (same_block c.args.blocks.now.items c.args.at
    c.index_mut.result.now c.index.result.now
    (place_in c.args.blocks.now.items c.args.at c.args.off c.requires.packed c.requires.within
    c.requires.place c.requires.room).0 c.index_mut.ensures.value c.index.ensures) ∙
    sym c.len.ensures ∙ c.if-len-eq1024.true) c.pop_back-last.ensures
    c.index_mut-then-len-eq1024.ensures.value c.insert_at.ensures).packed

pub push_down-requires-clause-room : goal.push_down-requires-clause-room
push_down-requires-clause-room c = (down_here c.args.blocks.now.items c.args.at c.args.off
    c.index_mut.result.now c.pop_back-last.new.self c.insert_at.new.self
    c.index_mut-then-len-eq1024.result.now c.pop_back-last.result c.args.row c.requires.packed
    c.requires.within c.requires.place c.requires.room c.index_mut.ensures.value
    (ap (λ (xs : List Row). length xs) (same_block c.args.blocks.now.items c.args.at
    c.index_mut.result.now c.index.result.now
    (place_in c.args.blocks.now.items c.args.at c.args.off c.requires.packed c.requires.within
    c.requires.place c.requires.room).0 c.index_mut.ensures.value c.index.ensures) ∙
    sym c.len.ensures ∙ c.if-len-eq1024.true) c.pop_back-last.ensures
    c.index_mut-then-len-eq1024.ensures.value c.insert_at.ensures).room

pub returns-then-len-eq1024-clause-rows : goal.returns-then-len-eq1024-clause-rows
returns-then-len-eq1024-clause-rows c = c.push_down.ensures.rows ∙
    (down_here c.args.blocks.now.items c.args.at c.args.off c.index_mut.result.now
    c.pop_back-last.new.self c.insert_at.new.self c.index_mut-then-len-eq1024.result.now
    c.pop_back-last.result c.args.row c.requires.packed c.requires.within c.requires.place
    c.requires.room c.index_mut.ensures.value
    (ap (λ (xs : List Row). length xs) (same_block c.args.blocks.now.items c.args.at
    c.index_mut.result.now c.index.result.now
    (place_in c.args.blocks.now.items c.args.at c.args.off c.requires.packed c.requires.within
    c.requires.place c.requires.room).0 c.index_mut.ensures.value c.index.ensures) ∙
    sym c.len.ensures ∙ c.if-len-eq1024.true) c.pop_back-last.ensures
    c.index_mut-then-len-eq1024.ensures.value c.insert_at.ensures).rows

pub insert_at-requires-else-len-eq1024-clause-room :
    goal.insert_at-requires-else-len-eq1024-clause-room
insert_at-requires-else-len-eq1024-clause-room c =
    let p = (place_in c.args.blocks.now.items c.args.at c.args.off c.requires.packed
    c.requires.within c.requires.place c.requires.room) in
    let q = at_most_there c.args.blocks.now.items c.args.at c.index_mut-else-len-eq1024.result.now
    p.0 c.requires.packed c.index_mut-else-len-eq1024.ensures.value in
    let ne : ¬ (length c.index_mut-else-len-eq1024.result.now ≡ 1024) =
    (λ n. c.if-len-eq1024.false (c.len.ensures ∙
    ap (λ (xs : List Row). length xs) (same_block c.args.blocks.now.items c.args.at
    c.index.result.now c.index_mut-else-len-eq1024.result.now p.0 c.index.ensures
    c.index_mut-else-len-eq1024.ensures.value) ∙ n)) in
    omega arith

pub insert_at-requires-else-len-eq1024-clause-place :
    goal.insert_at-requires-else-len-eq1024-clause-place
insert_at-requires-else-len-eq1024-clause-place c =
    place_of_block c.args.blocks.now.items c.args.at c.args.off
    c.index_mut-else-len-eq1024.result.now (place_in c.args.blocks.now.items c.args.at c.args.off
    c.requires.packed c.requires.within c.requires.place c.requires.room)
    c.index_mut-else-len-eq1024.ensures.value

pub returns-else-len-eq1024-clause-rows : goal.returns-else-len-eq1024-clause-rows
returns-else-len-eq1024-clause-rows c =
    let p = (place_in c.args.blocks.now.items c.args.at c.args.off c.requires.packed
    c.requires.within c.requires.place c.requires.room) in
    ap (λ (xs : List Row). joined (set c.args.blocks.now.items c.args.at xs))
    c.insert_at-else-len-eq1024.ensures
    ∙ joined-other c.args.blocks.now.items c.args.at
    (insert c.index_mut-else-len-eq1024.result.now c.args.off c.args.row) p.0
    ∙ sym (inserted c.args.blocks.now.items c.args.at c.args.off
    c.index_mut-else-len-eq1024.result.now p.0
    (full_before c.args.blocks.now.items c.args.at c.requires.packed
    (let w = c.requires.place in omega arith)) c.index_mut-else-len-eq1024.ensures.value
    c.args.row (place_of_block c.args.blocks.now.items c.args.at c.args.off
    c.index_mut-else-len-eq1024.result.now p c.index_mut-else-len-eq1024.ensures.value))

pub returns-else-len-eq1024-clause-packed : goal.returns-else-len-eq1024-clause-packed
returns-else-len-eq1024-clause-packed c =
    let p = (place_in c.args.blocks.now.items c.args.at c.args.off c.requires.packed
    c.requires.within c.requires.place c.requires.room) in
    let q = at_most_there c.args.blocks.now.items c.args.at c.index_mut-else-len-eq1024.result.now
    p.0 c.requires.packed c.index_mut-else-len-eq1024.ensures.value in
    let ne : ¬ (length c.index_mut-else-len-eq1024.result.now ≡ 1024) =
    (λ n. c.if-len-eq1024.false (c.len.ensures ∙
    ap (λ (xs : List Row). length xs) (same_block c.args.blocks.now.items c.args.at
    c.index.result.now c.index_mut-else-len-eq1024.result.now p.0 c.index.ensures
    c.index_mut-else-len-eq1024.ensures.value) ∙ n)) in
    subst (λ (xs : List Row). Packed (set c.args.blocks.now.items c.args.at xs))
    (sym c.insert_at-else-len-eq1024.ensures)
    (packed_inserted c.args.blocks.now.items c.args.at c.args.off
    c.index_mut-else-len-eq1024.result.now p.0
    (full_before c.args.blocks.now.items c.args.at c.requires.packed
    (let w = c.requires.place in omega arith)) c.index_mut-else-len-eq1024.ensures.value
    c.args.row c.requires.packed (omega arith)
    (place_of_block c.args.blocks.now.items c.args.at c.args.off
    c.index_mut-else-len-eq1024.result.now p c.index_mut-else-len-eq1024.ensures.value))
