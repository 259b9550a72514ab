use Rattle.std.proofs.Common.{◌≡◌, ◌≤◌, List, take, length}
use Rattle.region_steps.proofs.Fronts.{Grown}
use Rattle.region_steps.proofs.idle.widened.Given as goal

abbrev pub invariant-loop-node : goal.invariant-loop-node
invariant-loop-node l = record {
  grown : Grown (take l.node-index l.nodes) l.width l.wide;
  wide : l.width ≤ l.wide;
}
