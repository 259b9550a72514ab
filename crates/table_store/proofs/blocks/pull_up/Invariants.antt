use Rattle.std.proofs.Common.{◌≡◌, ◌-◌, length}
use Rattle.table_store.specs.Blocks.{joined}
use Rattle.table_store.proofs.Packing.{Up}
use Rattle.table_store.proofs.blocks.pull_up.Given as goal

abbrev pub invariant-loop-blocks : goal.invariant-loop-blocks
invariant-loop-blocks l = record {
  up : Up l.blocks.items l.at;
  rows : joined l.blocks.items ≡ joined l.initial.blocks.items;
  len : length l.blocks.items ≡ length l.initial.blocks.items;
}

abbrev pub decreases-loop-blocks : goal.decreases-loop-blocks
decreases-loop-blocks l = length l.blocks.items - l.at
