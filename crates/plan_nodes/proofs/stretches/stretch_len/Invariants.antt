use Rattle.std.proofs.Common.{◌≡◌, ◌+◌, drop}
use Rattle.std.specs.List.{prefix_len}
use Rattle.plan_nodes.specs.Fates.{by_row}
use Rattle.plan_nodes.proofs.stretches.stretch_len.Given as goal

abbrev pub invariant-loop-node : goal.invariant-loop-node
invariant-loop-node l = record {
  count : l.count ≡ l.node-index;
  so_far : l.count + prefix_len by_row (drop l.node-index l.nodes) ≡ prefix_len by_row l.nodes;
}
