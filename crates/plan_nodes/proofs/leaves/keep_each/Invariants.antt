use Rattle.std.proofs.Common.{◌≡◌, drop}
use Rattle.std.specs.List.{list_all}
use Rattle.plan_nodes.specs.Fates.{keeps}
use Rattle.plan_nodes.proofs.leaves.keep_each.Given as goal

abbrev pub invariant-loop-node : goal.invariant-loop-node
invariant-loop-node l = list_all keeps (drop l.node-index l.nodes) ≡ list_all keeps l.nodes
