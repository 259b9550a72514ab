use Rattle.std.proofs.Common.{rules}
use Rattle.bind_sight.specs.Sight.{seen_by}
use Rattle.bind_parts.proofs.Laws.{next}
use Rattle.bind_changes.specs.Writing.{judged_values, judged_where}
use Rattle.bind_changes.proofs.change.rows_to_update.Goals as goal

pub returns-clause-notes : goal.returns-clause-notes
returns-clause-notes c =
    let seen = seen_by c.args.sight.now in
    let update = c.args.update.now in
    next c.args.notes.now c.items_to_update.new.notes c.bind_where.new.notes
    (judged_values c.args.target.now seen update.assignments) (judged_where update.filter seen)
    (search rules) (search rules)
