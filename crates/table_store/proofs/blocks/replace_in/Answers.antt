use Rattle.std.proofs.Common.{List, sym, ap, ◌∙◌, subst, arith, set}
use Rattle.row_types.specs.Rows.{Row}
use Rattle.table_store.specs.Blocks.{joined, Packed}
use Rattle.table_store.proofs.Packing.{is_at, within_block, row_of, full_before, replaced}
use Rattle.table_store.proofs.Packing.{joined-other, packed_replaced}
use Rattle.table_store.proofs.blocks.replace_in.Goals as goal

pub index_mut-requires : goal.index_mut-requires
index_mut-requires c =
    let i = (is_at c.args.blocks.now.items c.args.at c.args.off c.requires.packed c.requires.within
    c.requires.place).block in omega arith

pub replace_at-requires : goal.replace_at-requires
replace_at-requires c = within_block c.args.blocks.now.items c.args.at c.args.off
    c.index_mut.result.now (is_at c.args.blocks.now.items c.args.at c.args.off c.requires.packed
    c.requires.within c.requires.place) c.index_mut.ensures.value

pub returns-clause-row : goal.returns-clause-row
returns-clause-row c = row_of c.args.blocks.now.items c.args.at c.args.off c.index_mut.result.now
    c.replace_at.result (is_at c.args.blocks.now.items c.args.at c.args.off c.requires.packed
    c.requires.within c.requires.place) c.index_mut.ensures.value c.replace_at.ensures.row

pub returns-clause-rows : goal.returns-clause-rows
returns-clause-rows c =
    ap (λ (xs : List Row). joined (set c.args.blocks.now.items c.args.at xs))
    c.replace_at.ensures.rest
    ∙ joined-other c.args.blocks.now.items c.args.at
    (set c.index_mut.result.now c.args.off c.args.row)
    (is_at c.args.blocks.now.items c.args.at c.args.off c.requires.packed c.requires.within
    c.requires.place).block
    ∙ sym (replaced c.args.blocks.now.items c.args.at c.args.off c.index_mut.result.now
    (is_at c.args.blocks.now.items c.args.at c.args.off c.requires.packed c.requires.within
    c.requires.place).block (full_before c.args.blocks.now.items c.args.at c.requires.packed
    (let w = c.requires.place in omega arith)) c.index_mut.ensures.value c.args.row
    (within_block c.args.blocks.now.items c.args.at c.args.off c.index_mut.result.now
    (is_at c.args.blocks.now.items c.args.at c.args.off c.requires.packed c.requires.within
    c.requires.place) c.index_mut.ensures.value))

pub returns-clause-packed : goal.returns-clause-packed
returns-clause-packed c =
    subst (λ (xs : List Row). Packed (set c.args.blocks.now.items c.args.at xs))
    (sym c.replace_at.ensures.rest)
    (packed_replaced c.args.blocks.now.items c.args.at c.args.off c.index_mut.result.now
    (is_at c.args.blocks.now.items c.args.at c.args.off c.requires.packed c.requires.within
    c.requires.place).block (full_before c.args.blocks.now.items c.args.at c.requires.packed
    (let w = c.requires.place in omega arith)) c.index_mut.ensures.value c.args.row
    c.requires.packed)
