use Rattle.std.proofs.Common.{arith}
use Rattle.table_store.proofs.Packing.{is_at, within_block, row_of}
use Rattle.table_store.proofs.blocks.row_in.Goals as goal

pub index-requires : goal.index-requires
index-requires c =
    let i = (is_at c.args.blocks.now.items c.args.at c.args.off c.requires.packed c.requires.within
    c.requires.place).block in omega arith

pub row_at-requires : goal.row_at-requires
row_at-requires c = within_block c.args.blocks.now.items c.args.at c.args.off c.index.result.now
    (is_at c.args.blocks.now.items c.args.at c.args.off c.requires.packed c.requires.within
    c.requires.place) c.index.ensures

pub returns : goal.returns
returns c = row_of c.args.blocks.now.items c.args.at c.args.off c.index.result.now
    c.row_at.result.now (is_at c.args.blocks.now.items c.args.at c.args.off c.requires.packed
    c.requires.within c.requires.place) c.index.ensures c.row_at.ensures
