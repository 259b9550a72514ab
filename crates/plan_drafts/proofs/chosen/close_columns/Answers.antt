use Rattle.plan_drafts.specs.Choosing.{closed, all_arms_of}
use Rattle.plan_drafts.proofs.Choosing.{closing_next, closing_done}
use Rattle.plan_drafts.proofs.chosen.close_columns.Goals as goal

pub loop-column-preserved : goal.loop-column-preserved
loop-column-preserved c =
    closing_next c.loop-column.scalars c.push.new.self c.loop-column.columns_left c.pop.new.self
    c.in-Some.column c.in_ok-close_column.field-0 (closed (all_arms_of c.args.columns))
    c.in-Some.ensures c.in_ok-close_column.ensures c.in_ok-push.ensures.ok c.loop-column.invariant

pub returns : goal.returns
returns c = closing_done c.loop-column.scalars c.loop-column.columns_left
    (closed (all_arms_of c.args.columns)) c.in_default.ensures.0 c.loop-column.invariant
