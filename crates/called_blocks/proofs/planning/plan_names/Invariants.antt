use Rattle.std.proofs.Common.{◌≡◌, drop}
use Rattle.called_names.specs.Called.{held}
use Rattle.called_names.specs.Reached.{in_turn}
use Rattle.called_blocks.specs.Planned.{planned_among, with_block}
use Rattle.called_blocks.proofs.planning.plan_names.Given as goal

abbrev pub invariant-loop-name : goal.invariant-loop-name
invariant-loop-name l =
    (l.blocks.known ≡ l.catalog)
    × (in_turn (with_block l.catalog) (held (drop l.name-index l.names)) l.blocks.blocks
    ≡ planned_among l.catalog (held l.names))
