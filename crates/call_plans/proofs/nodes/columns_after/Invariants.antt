use Rattle.std.proofs.Common.{◌≡◌, drop}
use Rattle.rel_algebra.specs.Emit.{width}
use Rattle.rel_algebra.specs.PlanView.{run_of}
use Rattle.call_plans.proofs.nodes.columns_after.Given as goal

abbrev pub invariant-loop-node : goal.invariant-loop-node
invariant-loop-node l =
    width (run_of (drop l.node-index l.nodes)) l.columns ≡ width (run_of l.nodes) 0
