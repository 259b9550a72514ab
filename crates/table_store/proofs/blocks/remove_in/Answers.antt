use Rattle.std.proofs.Common.{List, sym, ap, ◌∙◌, subst, arith, remove, set}
use Rattle.row_types.specs.Rows.{Row}
use Rattle.table_store.specs.Blocks.{joined}
use Rattle.table_store.proofs.Packing.{Up, is_at, within_block, row_of, full_before, removed}
use Rattle.table_store.proofs.Packing.{joined-other, lacks_removed}
use Rattle.table_store.proofs.blocks.remove_in.Goals as goal

pub index_mut-requires : goal.index_mut-requires
index_mut-requires c =
    let i = (is_at c.args.blocks.now.items c.args.at c.args.off c.requires.packed c.requires.within
    c.requires.place).block in omega arith

pub remove_at-row-requires : goal.remove_at-row-requires
remove_at-row-requires c = within_block c.args.blocks.now.items c.args.at c.args.off
    c.index_mut.result.now (is_at c.args.blocks.now.items c.args.at c.args.off c.requires.packed
    c.requires.within c.requires.place) c.index_mut.ensures.value

pub pull_up-requires-clause-place : goal.pull_up-requires-clause-place
pull_up-requires-clause-place c =
    (subst (λ (xs : List Row). Up (set c.args.blocks.now.items c.args.at xs) c.args.at)
    (sym c.remove_at-row.ensures.rest) (lacks_removed c.args.blocks.now.items c.args.at c.args.off
    c.index_mut.result.now (is_at c.args.blocks.now.items c.args.at c.args.off c.requires.packed
    c.requires.within c.requires.place).block
    (full_before c.args.blocks.now.items c.args.at c.requires.packed
    (let w = c.requires.place in omega arith)) c.index_mut.ensures.value c.requires.packed
    (within_block c.args.blocks.now.items c.args.at c.args.off c.index_mut.result.now
    (is_at c.args.blocks.now.items c.args.at c.args.off c.requires.packed c.requires.within
    c.requires.place) c.index_mut.ensures.value))).place

pub pull_up-requires-clause-before : goal.pull_up-requires-clause-before
pull_up-requires-clause-before c =
    (subst (λ (xs : List Row). Up (set c.args.blocks.now.items c.args.at xs) c.args.at)
    (sym c.remove_at-row.ensures.rest) (lacks_removed c.args.blocks.now.items c.args.at c.args.off
    c.index_mut.result.now (is_at c.args.blocks.now.items c.args.at c.args.off c.requires.packed
    c.requires.within c.requires.place).block
    (full_before c.args.blocks.now.items c.args.at c.requires.packed
    (let w = c.requires.place in omega arith)) c.index_mut.ensures.value c.requires.packed
    (within_block c.args.blocks.now.items c.args.at c.args.off c.index_mut.result.now
    (is_at c.args.blocks.now.items c.args.at c.args.off c.requires.packed c.requires.within
    c.requires.place) c.index_mut.ensures.value))).before

pub pull_up-requires-clause-lacks : goal.pull_up-requires-clause-lacks
pull_up-requires-clause-lacks c =
    (subst (λ (xs : List Row). Up (set c.args.blocks.now.items c.args.at xs) c.args.at)
    (sym c.remove_at-row.ensures.rest) (lacks_removed c.args.blocks.now.items c.args.at c.args.off
    c.index_mut.result.now (is_at c.args.blocks.now.items c.args.at c.args.off c.requires.packed
    c.requires.within c.requires.place).block
    (full_before c.args.blocks.now.items c.args.at c.requires.packed
    (let w = c.requires.place in omega arith)) c.index_mut.ensures.value c.requires.packed
    (within_block c.args.blocks.now.items c.args.at c.args.off c.index_mut.result.now
    (is_at c.args.blocks.now.items c.args.at c.args.off c.requires.packed c.requires.within
    c.requires.place) c.index_mut.ensures.value))).lacks

pub returns-clause-row : goal.returns-clause-row
returns-clause-row c = row_of c.args.blocks.now.items c.args.at c.args.off c.index_mut.result.now
    c.remove_at-row.result (is_at c.args.blocks.now.items c.args.at c.args.off c.requires.packed
    c.requires.within c.requires.place) c.index_mut.ensures.value c.remove_at-row.ensures.row

pub returns-clause-rows : goal.returns-clause-rows
returns-clause-rows c =
    c.pull_up.ensures.rows ∙ ap (λ (xs : List Row).
    joined (set c.args.blocks.now.items c.args.at xs)) c.remove_at-row.ensures.rest
    ∙ joined-other c.args.blocks.now.items c.args.at (remove c.index_mut.result.now c.args.off)
    (is_at c.args.blocks.now.items c.args.at c.args.off c.requires.packed c.requires.within
    c.requires.place).block
    ∙ sym (removed c.args.blocks.now.items c.args.at c.args.off c.index_mut.result.now
    (is_at c.args.blocks.now.items c.args.at c.args.off c.requires.packed c.requires.within
    c.requires.place).block (full_before c.args.blocks.now.items c.args.at c.requires.packed
    (let w = c.requires.place in omega arith)) c.index_mut.ensures.value
    (within_block c.args.blocks.now.items c.args.at c.args.off c.index_mut.result.now
    (is_at c.args.blocks.now.items c.args.at c.args.off c.requires.packed c.requires.within
    c.requires.place) c.index_mut.ensures.value))
