use Rattle.std.proofs.Common.{sym}
use Rattle.plan_drafts.proofs.Widths.{width_first}
use Rattle.plan_drafts.proofs.rows.first_width.Goals as goal

pub returns-in-Some : goal.returns-in-Some
returns-in-Some c = λ k. sym (width_first k c.args.rows.now c.in-Some.row.now c.values_in.result.now
    c.in-Some.ensures.value (c.values_in.ensures k))
