use Rattle.std.proofs.Common.{◌∙◌}
use Rattle.plan_expressions.specs.Merging.{move_of}
use Rattle.plan_expressions.proofs.MovingPlans.{rows_next}
use Rattle.plan_expressions.proofs.moved_plans.moved_rows.Goals as goal

pub loop-list-preserved : goal.loop-list-preserved
loop-list-preserved c =
    rows_next (move_of c.args.shift) c.args.row c.args.rows.now c.loop-list.list-index
    c.list-item.result (record { scalars = c.in_ok-scalars.scalars }) c.loop-list.moved
    c.push.new.self
    c.loop-list-test.true c.list-item.is (rw c.as_slice.ensures at c.in_ok-scalars.ensures)
    c.in_ok-push.ensures.ok c.loop-list.invariant
