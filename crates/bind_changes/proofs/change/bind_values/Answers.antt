use Rattle.std.proofs.Common.{◌∙◌, arith}
use Rattle.bind_sight.specs.Sight.{seen_by}
use Rattle.bind_parts.proofs.Laws.{each-value, each-notes}
use Rattle.bind_changes.specs.Writing.{one_value}
use Rattle.bind_changes.proofs.change.bind_values.Goals as goal

pub loop-assignment-preserved : goal.loop-assignment-preserved
loop-assignment-preserved c = record {
  value = each-value (one_value c.args.target.now (seen_by c.args.sight.now)) c.args.assignments.now
      c.loop-assignment.assignment-index c.assignment-item.result c.loop-assignment.values _
      (omega arith) c.assignment-item.is c.in_ok-add_value.ensures.value ∙
      c.loop-assignment.invariant.value;
  notes = each-notes (one_value c.args.target.now (seen_by c.args.sight.now)) c.args.assignments.now
      c.loop-assignment.assignment-index c.assignment-item.result c.loop-assignment.values _
      c.loop-assignment.notes _
      (omega arith) c.assignment-item.is c.in_ok-add_value.ensures.value
      c.in_ok-add_value.ensures.notes ∙ c.loop-assignment.invariant.notes;
}
