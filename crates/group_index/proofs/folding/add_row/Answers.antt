use Rattle.std.proofs.Common.{sym, ◌∙◌}
use Rattle.std.proofs.lemmas.Result.{on_ok_weaker}
use Rattle.group_index.proofs.Entries.{found, missing}
use Rattle.group_index.proofs.folding.add_row.Goals as goal

pub returns-in-Some : goal.returns-in-Some
returns-in-Some c =
    on_ok_weaker c.add_at.result (λ h. h ∙ sym
    (found c.args.aggregates.now c.args.key c.args.row.now c.args.groups.now.entries c.in-Some.at
    c.in-Some.ensures.index)) c.add_at.ensures

pub returns-in-None : goal.returns-in-None
returns-in-None c =
    on_ok_weaker c.add_new.result (λ h. h ∙ sym
    (missing c.args.aggregates.now c.args.key c.args.row.now c.args.groups.now.entries
    c.in-None.ensures.index)) c.add_new.ensures
