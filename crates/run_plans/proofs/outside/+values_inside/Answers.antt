use Rattle.std.proofs.Common.{◌≡◌, List, ap, subst}
use Rattle.std.specs.Prelude.{IfOk}
use Rattle.row_types.specs.declared.cell.Cell.{Cell}
use Rattle.row_types.specs.OuterRows.{outer_rows}
use Rattle.rel_algebra.specs.Plan.{collected, den}
use Rattle.rel_algebra.specs.PlanView.{tree_of}
use Rattle.plan_exec.specs.Passing.{inputs_of}
use Rattle.plan_rows.specs.Firsts.{values_end}
use Rattle.run_choices.specs.Sight.{seen}
use Rattle.run_plans.proofs.Outwards.{one_inside}
use Rattle.run_plans.proofs.outside.+values_inside.Goals as goal

pub returns-in-Row : goal.returns-in-Row
returns-in-Row t c =
    subst (λ (o : List (List Cell)). IfOk c.values_inside.result
    (λ v. values_end v ≡ collected (den (tree_of c.args.plan.now)
    (inputs_of c.args.tables.now c.args.args.now) o)))
    (one_inside (seen c.args.further.now) (seen c.in-Row.rest.now) c.in-Row.row.now
    (outer_rows c.args.outer.now) (ap seen c.in-Row.is))
    c.values_inside.ensures
