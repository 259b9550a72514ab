use Rattle.std.proofs.Common.{◌+◌, ◌-◌, ◌/◌, arith}
use Rattle.plan_keys.proofs.KeyOrder.{step_before, step_past}
use Rattle.plan_keys.proofs.bounds.count_before.Goals as goal

pub loop-low-preserved-then-is_before : goal.loop-low-preserved-then-is_before
loop-low-preserved-then-is_before c =
    let i = c.loop-low.low + (c.loop-low.high - c.loop-low.low) / 2 in
    let k = c.args.table.now.table in
    record {
      order = omega (arith, c.loop-low-test.true);
      within = c.loop-low.invariant.within;
      key = c.loop-low.invariant.key;
      before = step_before k.columns k.key c.split_at.result.0.now c.args.sought.now
          c.args.through k.rows i c.row_at.result.now c.order_to_key.result c.is_before.result
          c.len-high.ensures.kept.rows
          (omega (arith, c.loop-low-test.true, c.loop-low.invariant.within))
          c.row_at.ensures c.loop-low.invariant.key c.order_to_key.ensures c.is_before.ensures
          (i + 1) (omega arith) c.if-is_before.true;
      past = c.loop-low.invariant.past;
    }

pub loop-low-preserved : goal.loop-low-preserved
loop-low-preserved c =
    let i = c.loop-low.low + (c.loop-low.high - c.loop-low.low) / 2 in
    let k = c.args.table.now.table in
    record {
      order = omega (arith, c.loop-low-test.true);
      within = omega (arith, c.loop-low-test.true, c.loop-low.invariant.within);
      key = c.loop-low.invariant.key;
      before = c.loop-low.invariant.before;
      past = step_past k.columns k.key c.split_at.result.0.now c.args.sought.now
          c.args.through k.rows i c.row_at.result.now c.order_to_key.result c.is_before.result
          c.len-high.ensures.kept.rows
          (omega (arith, c.loop-low-test.true, c.loop-low.invariant.within))
          c.row_at.ensures c.loop-low.invariant.key c.order_to_key.ensures c.is_before.ensures
          c.if-is_before.false;
    }
