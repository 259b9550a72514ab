use Rattle.std.proofs.Common.{rules}
use Rattle.bind_sight.specs.Sight.{seen_by}
use Rattle.bind_parts.proofs.Laws.{next}
use Rattle.bind_changes.specs.Writing.{uses_of, judged_rows}
use Rattle.bind_changes.proofs.insert.insert_used.Goals as goal

pub returns-clause-notes : goal.returns-clause-notes
returns-clause-notes c =
    next c.args.notes.now c.note_use.new.notes c.rows_into.new.notes
    (uses_of c.args.insert.now.table c.args.target.now)
    (judged_rows c.args.insert.now c.args.target.now (seen_by c.args.outside.now)) (search rules)
    (search rules)
