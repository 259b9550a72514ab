use Rattle.std.proofs.Common.{◌<◌, List, sym, ap, ◌∙◌, subst, arith, set, length}
use Rattle.row_types.specs.Rows.{Row}
use Rattle.table_store.specs.Blocks.{joined, Packed}
use Rattle.table_store.proofs.Packing.{full_before, has_room, pushed, packed_pushed}
use Rattle.table_store.proofs.blocks.push_in.Goals as goal

pub push_back-requires : goal.push_back-requires
push_back-requires c =
    let bs = c.args.blocks.now.items in
    let k = c.args.at in
    let l : k < length bs = (let s = c.requires.start in let r = c.requires.room in omega arith) in
    has_room bs k 0 c.index_mut.result.now l (full_before bs k c.requires.packed c.requires.start)
    c.index_mut.ensures.value c.requires.end

pub returns-clause-rows : goal.returns-clause-rows
returns-clause-rows c =
    let bs = c.args.blocks.now.items in
    let k = c.args.at in
    let l : k < length bs = (let s = c.requires.start in let r = c.requires.room in omega arith) in
    ap (λ (xs : List Row). joined (set bs k xs)) c.push_back.ensures
    ∙ pushed bs k 0 c.index_mut.result.now l (full_before bs k c.requires.packed c.requires.start)
    c.index_mut.ensures.value c.args.row c.requires.packed c.requires.end

pub returns-clause-packed : goal.returns-clause-packed
returns-clause-packed c =
    let bs = c.args.blocks.now.items in
    let k = c.args.at in
    let l : k < length bs = (let s = c.requires.start in let r = c.requires.room in omega arith) in
    subst (λ (xs : List Row). Packed (set bs k xs)) (sym c.push_back.ensures)
    (packed_pushed bs k 0 c.index_mut.result.now l
    (full_before bs k c.requires.packed c.requires.start) c.index_mut.ensures.value c.args.row
    c.requires.packed c.requires.end)
