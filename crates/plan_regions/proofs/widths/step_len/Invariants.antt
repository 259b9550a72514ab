use Rattle.std.proofs.Common.{◌≡◌, ◌≤◌, length}
use Rattle.plan_regions.proofs.widths.step_len.Given as goal

abbrev pub invariant-loop-node : goal.invariant-loop-node
invariant-loop-node l = l.count ≡ l.node-index
