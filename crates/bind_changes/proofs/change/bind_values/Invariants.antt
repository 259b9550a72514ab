use Rattle.std.proofs.Common.{◌≡◌, drop}
use Rattle.bind_faults.specs.Faults.{taken}
use Rattle.bind_sight.specs.Sight.{seen_by}
use Rattle.bind_parts.specs.Turns.{each_noted}
use Rattle.bind_changes.specs.Writing.{one_value, judged_values}
use Rattle.bind_changes.proofs.change.bind_values.Given as goal

abbrev pub invariant-loop-assignment : goal.invariant-loop-assignment
invariant-loop-assignment l =
    let left = each_noted (one_value l.target (seen_by l.sight)) l.values
    (drop l.assignment-index l.assignments) in
    let whole = judged_values l.target (seen_by l.sight) l.assignments in
    record {
      value : left.value ≡ whole.value;
      notes : taken l.notes left ≡ taken l.initial.notes whole;
    }
