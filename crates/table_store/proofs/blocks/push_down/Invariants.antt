use Rattle.std.proofs.Common.{◌≡◌, ◌∷◌, ◌++◌, ◌-◌, length, take, drop}
use Rattle.table_store.specs.Blocks.{joined}
use Rattle.table_store.proofs.Packing.{Down}
use Rattle.table_store.proofs.blocks.push_down.Given as goal

abbrev pub invariant-loop-blocks : goal.invariant-loop-blocks
invariant-loop-blocks l = record {
  down : Down l.blocks.items l.at l.carry (joined (take l.from l.initial.blocks.items) ++ l.fn.row ∷
      joined (drop l.from l.initial.blocks.items));
  len : length l.blocks.items ≡ length l.initial.blocks.items;
}

abbrev pub decreases-loop-blocks : goal.decreases-loop-blocks
decreases-loop-blocks l = length l.blocks.items - l.at
