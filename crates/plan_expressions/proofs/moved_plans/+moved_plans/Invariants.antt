use Rattle.std.proofs.Common.{take}
use Rattle.plan_expressions.specs.Merging.{move_of, AreMoved}
use Rattle.plan_expressions.proofs.moved_plans.+moved_plans.Given as goal

abbrev pub invariant-moved_nodes-loop-node : goal.invariant-moved_nodes-loop-node
invariant-moved_nodes-loop-node l = AreMoved (move_of l.shift) l.depth (take l.node-index l.nodes)
    l.moved
