use Rattle.std.proofs.Common.{◌≡◌, drop}
use Rattle.bind_faults.specs.Faults.{taken}
use Rattle.bind_sight.specs.Sight.{level_by}
use Rattle.bind_parts.specs.Lists.{placed, star_column, star_item}
use Rattle.bind_parts.specs.Turns.{each_noted}
use Rattle.bind_parts.proofs.list.star_item.Given as goal

abbrev pub invariant-loop-column : goal.invariant-loop-column
invariant-loop-column l =
    let left = each_noted (star_column l.at (level_by l.level)) (placed l.place l.so)
    (drop l.column-index l.columns) in
    let whole = star_item l.at (level_by l.level) l.initial.so l.item in
    record {
      value : left.value.outputs ≡ whole.value;
      notes : taken l.notes left ≡ taken l.initial.notes whole;
    }
