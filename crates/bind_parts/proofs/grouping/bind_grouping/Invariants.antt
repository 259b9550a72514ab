use Rattle.std.proofs.Common.{◌≡◌, drop}
use Rattle.bind_faults.specs.Faults.{taken}
use Rattle.bind_sight.specs.Sight.{seen_by}
use Rattle.bind_parts.specs.Turns.{each_noted}
use Rattle.bind_parts.specs.Grouping.{one_key, grouping_of}
use Rattle.bind_parts.proofs.grouping.bind_grouping.Given as goal

abbrev pub invariant-loop-column : goal.invariant-loop-column
invariant-loop-column l =
    let left = each_noted (one_key (seen_by l.sight)) l.so (drop l.column-index l.columns) in
    let whole = grouping_of l.columns (seen_by l.sight) in
    record {
      value : left.value ≡ whole.value;
      notes : taken l.notes left ≡ taken l.initial.notes whole;
    }
