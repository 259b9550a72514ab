use Rattle.std.proofs.Common.{rules}
use Rattle.bind_sight.specs.Sight.{seen_by}
use Rattle.bind_parts.proofs.Laws.{next}
use Rattle.bind_changes.specs.Writing.{opened, update_in, in_row}
use Rattle.bind_changes.proofs.change.update_over.Goals as goal

pub returns-clause-notes : goal.returns-clause-notes
returns-clause-notes c =
    let outer = seen_by c.args.outside.now in
    let so = opened c.args.update.now.table outer in
    next c.args.notes.now c.opened.new.notes c.update_in.new.notes
    so (update_in c.args.update.now c.args.target.now (in_row outer so.value))
    (search rules) (search rules)
