use Rattle.std.proofs.Common.{◌<◌, length}
use Rattle.run_expressions.specs.Content.{world_of}
use Rattle.run_expressions.proofs.Laws.{Going}
use Rattle.run_changes.proofs.Removing.{takes_out}
use Rattle.run_changes.proofs.any_places.remove_each.Given as goal

abbrev pub invariant-loop-at : goal.invariant-loop-at
invariant-loop-at l = record {
  going : Going l.initial.world l.world (takes_out l.place l.left.items (world_of l.world))
      (takes_out l.place l.initial.left.items (world_of l.initial.world));
  there : l.place < length l.world.memory.tables;
}

abbrev pub decreases-loop-at : goal.decreases-loop-at
decreases-loop-at l = length l.left.items
