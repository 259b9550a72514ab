use Rattle.std.proofs.Common.{◌≤◌, length, ap, arith, take_all}
use Rattle.std.specs.List.{sum_by}
use Rattle.rel_algebra.proofs.Applies.{over_count, below_count, plan_count, run_count}
use Rattle.rel_algebra.proofs.count.+counting.Goals as goal

-- src/count.rt:18:1
pub counted_in_plan-returns : goal.counted_in_plan-returns
counted_in_plan-returns t c =
    let h : length c.args.plan.now.nodes
    ≤ c.loop-node.node-index = omega (arith, c.loop-node-test.false, c.loop-node.invariant.end) in
    omega (
      arith,
      c.loop-node.invariant.total,
      ap (sum_by over_count) (take_all c.loop-node.node-index c.args.plan.now.nodes h),
      plan_count c.args.plan.now,
    )

-- src/count.rt:46:1
pub counted_in_run-returns : goal.counted_in_run-returns
counted_in_run-returns t c =
    let h : length c.args.nodes.now ≤ c.loop-node.node-index = omega (
      arith,
      c.loop-node-test.false,
      c.loop-node.invariant.end,
    ) in
    omega (
      arith,
      c.loop-node.invariant.total,
      ap (sum_by below_count) (take_all c.loop-node.node-index c.args.nodes.now h),
      run_count c.args.nodes.now,
    )
