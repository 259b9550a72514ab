use Rattle.std.proofs.Common.{◌∙◌, arith}
use Rattle.bind_sight.specs.Sight.{level_by}
use Rattle.bind_parts.specs.Lists.{star_item}
use Rattle.bind_parts.proofs.Turns.{each-value, each-notes}
use Rattle.bind_parts.proofs.list.star_items.Goals as goal

pub loop-item-preserved : goal.loop-item-preserved
loop-item-preserved c = record {
  value = each-value (star_item c.args.at (level_by c.args.level.now)) c.args.level.now.items.now
      c.loop-item.item-index c.item-item.result c.loop-item.so _
      (omega arith) c.item-item.is c.in_ok-star_item.ensures.value ∙ c.loop-item.invariant.value;
  notes = each-notes (star_item c.args.at (level_by c.args.level.now)) c.args.level.now.items.now
      c.loop-item.item-index c.item-item.result c.loop-item.so _ c.loop-item.notes _
      (omega arith) c.item-item.is c.in_ok-star_item.ensures.value c.in_ok-star_item.ensures.notes ∙
      c.loop-item.invariant.notes;
}
