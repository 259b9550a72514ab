use Rattle.std.proofs.Common.{List, sym, ap, ◌∙◌}
use Rattle.std.proofs.lemmas.Result.{on_ok_weaker}
use Rattle.bound_trees.specs.declared.condition.BoundConditionRead.{BoundConditionRead}
use Rattle.bound_trees.specs.declared.condition.BoundInformation.TheVariants.{Condition, Statement}
use Rattle.plan_statements.proofs.Several.{get_put}
use Rattle.plan_statements.proofs.storing.put_get.Goals as goal

pub returns-in-Statement : goal.returns-in-Statement
returns-in-Statement c =
    on_ok_weaker c.put_statement_items.result
    (get_put c.args.place.now c.args.at c.args.information.now (Statement c.as_slice.result.now)
    c.args.draft.now c.put_statement_items.new.draft
    (c.in-Statement.is ∙ ap Statement (sym c.as_slice.ensures))) c.put_statement_items.ensures

pub returns-in-Condition : goal.returns-in-Condition
returns-in-Condition c =
    on_ok_weaker c.put_condition_items.result
    (get_put c.args.place.now c.args.at c.args.information.now
    (Condition c.in-Condition.number c.as_slice-in-Condition.result.now) c.args.draft.now
    c.put_condition_items.new.draft
    (c.in-Condition.is ∙ ap (λ (rs : List BoundConditionRead). Condition c.in-Condition.number
    rs) (sym c.as_slice-in-Condition.ensures))) c.put_condition_items.ensures
