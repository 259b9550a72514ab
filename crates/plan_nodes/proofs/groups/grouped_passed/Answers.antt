use Rattle.std.proofs.Common.{List, [], ◌∷◌, ap, ◌∙◌}
use Rattle.std.proofs.lemmas.Result.{IfOk-weaker}
use Rattle.row_types.specs.OuterRows.{outer_rows}
use Rattle.row_types.specs.Cells.{PlanRow, Poisoned}
use Rattle.plan_nodes.specs.Fates.{passed}
use Rattle.plan_nodes.specs.Grouping.{groups_rows}
use Rattle.plan_nodes.specs.Receiving.{is_list, received}
use Rattle.plan_nodes.proofs.Grouped.{folds_grouped, raised_grouped}
use Rattle.plan_nodes.proofs.Receiving.{form_stays}
use Rattle.plan_nodes.proofs.groups.grouped_passed.Goals as goal

pub returns-in_ok-groups-in-Folds-clause-rows : goal.returns-in_ok-groups-in-Folds-clause-rows
returns-in_ok-groups-in-Folds-clause-rows c =
    IfOk-weaker c.groups_passed.result _ _
    (λ out h rows came. h ∙ ap (λ (xs : List PlanRow). received c.args.into
    (passed c.args.nodes.now (outer_rows c.args.outer.now) c.args.args.now xs))
    (ap groups_rows c.as_slice.ensures
    ∙ folds_grouped c.foldings_are_of_groups.ensures c.args.places.now c.args.aggregates.now rows
    c.args.came c.in-Folds.folding c.in_ok-groups-in-Folds.groups came c.in-Folds.is
    c.in_ok-groups-in-Folds.ensures))
    c.groups_passed.ensures

pub returns-in-Raised-clause-rows : goal.returns-in-Raised-clause-rows
returns-in-Raised-clause-rows c =
    IfOk-weaker c.with_poisoned.result _ _
    (λ out h rows came. h ∙ ap (λ (xs : List PlanRow). received c.args.into
    (passed c.args.nodes.now (outer_rows c.args.outer.now) c.args.args.now xs))
    (raised_grouped c.args.places.now c.args.aggregates.now rows c.args.came c.in-Raised.area came
    c.in-Raised.is))
    c.with_poisoned.ensures

pub returns-in_ok-groups-in-Folds-clause-form : goal.returns-in_ok-groups-in-Folds-clause-form
returns-in_ok-groups-in-Folds-clause-form c =
    IfOk-weaker c.groups_passed.result _ _
    (λ out h. ap is_list h ∙ form_stays c.args.into
    (passed c.args.nodes.now (outer_rows c.args.outer.now) c.args.args.now
    (groups_rows c.as_slice.result.now))) c.groups_passed.ensures

pub returns-in-Raised-clause-form : goal.returns-in-Raised-clause-form
returns-in-Raised-clause-form c = IfOk-weaker c.with_poisoned.result _ _ (λ out h. ap is_list h ∙
    form_stays c.args.into (Poisoned c.in-Raised.area ∷ [])) c.with_poisoned.ensures
