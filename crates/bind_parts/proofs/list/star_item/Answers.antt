use Rattle.std.proofs.Common.{◌∙◌, ap, arith}
use Rattle.bind_sight.specs.Sight.{level_by}
use Rattle.bind_parts.specs.Lists.{Placed, placed, star_column}
use Rattle.bind_parts.proofs.Turns.{each-value, each-notes}
use Rattle.bind_parts.proofs.list.star_item.Goals as goal

pub loop-column-preserved : goal.loop-column-preserved
loop-column-preserved c = record {
  value = ap (λ (p : Placed). p.outputs) (each-value
      (star_column c.args.at (level_by c.args.level.now)) _ c.loop-column.column-index
      c.column-item.result (placed c.loop-column.place c.loop-column.so) _
      (omega arith) c.column-item.is c.in_ok-place.ensures.value) ∙ c.loop-column.invariant.value;
  notes = each-notes (star_column c.args.at (level_by c.args.level.now)) _
      c.loop-column.column-index c.column-item.result (placed c.loop-column.place c.loop-column.so)
      _ c.loop-column.notes _
      (omega arith) c.column-item.is c.in_ok-place.ensures.value c.in_ok-place.ensures.notes ∙
      c.loop-column.invariant.notes;
}
