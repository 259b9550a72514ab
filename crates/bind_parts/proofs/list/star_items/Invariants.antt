use Rattle.std.proofs.Common.{◌≡◌, drop}
use Rattle.bind_faults.specs.Faults.{taken}
use Rattle.bind_sight.specs.Sight.{level_by}
use Rattle.bind_parts.specs.Lists.{star_items}
use Rattle.bind_parts.proofs.list.star_items.Given as goal

abbrev pub invariant-loop-item : goal.invariant-loop-item
invariant-loop-item l =
    let left = star_items l.at (level_by l.level) l.so (drop l.item-index l.level.items.now) in
    let whole = star_items l.at (level_by l.level) l.initial.so l.level.items.now in
    record {
      value : left.value ≡ whole.value;
      notes : taken l.notes left ≡ taken l.initial.notes whole;
    }
