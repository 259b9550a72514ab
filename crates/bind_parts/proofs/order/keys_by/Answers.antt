use Rattle.std.proofs.Common.{◌∙◌, arith}
use Rattle.bind_parts.specs.Order.{one_key}
use Rattle.bind_parts.proofs.Turns.{each-value, each-notes}
use Rattle.bind_parts.proofs.order.keys_by.Goals as goal

pub loop-written-preserved : goal.loop-written-preserved
loop-written-preserved c = record {
  value = each-value (one_key c.args.columns.now) c.args.order.now c.loop-written.written-index
      c.written-item.result c.loop-written.so _
      (omega arith) c.written-item.is c.in_ok-add_key.ensures.value ∙
      c.loop-written.invariant.value;
  notes = each-notes (one_key c.args.columns.now) c.args.order.now c.loop-written.written-index
      c.written-item.result c.loop-written.so _ c.loop-written.notes _
      (omega arith) c.written-item.is c.in_ok-add_key.ensures.value c.in_ok-add_key.ensures.notes ∙
      c.loop-written.invariant.notes;
}
