use Rattle.std.proofs.Common.{◌∙◌, arith}
use Rattle.bind_sight.specs.Sight.{seen_by}
use Rattle.bind_parts.specs.Grouping.{one_key}
use Rattle.bind_parts.proofs.Turns.{each-value, each-notes}
use Rattle.bind_parts.proofs.grouping.bind_grouping.Goals as goal

pub loop-column-preserved : goal.loop-column-preserved
loop-column-preserved c = record {
  value = each-value (one_key (seen_by c.args.sight.now)) c.args.columns.now
      c.loop-column.column-index c.column-item.result c.loop-column.so _
      (omega arith) c.column-item.is c.in_ok-bind_key.ensures.value ∙ c.loop-column.invariant.value;
  notes = each-notes (one_key (seen_by c.args.sight.now)) c.args.columns.now
      c.loop-column.column-index c.column-item.result c.loop-column.so _ c.loop-column.notes _
      (omega arith) c.column-item.is c.in_ok-bind_key.ensures.value c.in_ok-bind_key.ensures.notes ∙
      c.loop-column.invariant.notes;
}
