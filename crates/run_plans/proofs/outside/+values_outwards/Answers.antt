use Rattle.std.proofs.Common.{◌≡◌, List, ap, subst}
use Rattle.std.specs.Prelude.{IfOk}
use Rattle.row_types.specs.declared.cell.Cell.{Cell}
use Rattle.rel_algebra.specs.Plan.{collected, den}
use Rattle.rel_algebra.specs.PlanView.{tree_of}
use Rattle.plan_exec.specs.Passing.{inputs_of}
use Rattle.plan_rows.specs.Firsts.{values_end}
use Rattle.run_choices.specs.Sight.{seen}
use Rattle.run_plans.proofs.Outwards.{one_outwards}
use Rattle.run_plans.proofs.outside.+values_outwards.Goals as goal

pub returns-in-Row : goal.returns-in-Row
returns-in-Row t c =
    subst (λ (o : List (List Cell)). IfOk c.values_outwards.result
    (λ v. values_end v ≡ collected (den (tree_of c.args.plan.now)
    (inputs_of c.args.tables.now c.args.args.now) o)))
    (one_outwards (seen c.args.rows.now) (seen c.in-Row.outer.now) (seen c.args.further.now)
    (seen c.under-further.result) c.in-Row.row.now (ap seen c.in-Row.is) c.under-further.ensures)
    c.values_outwards.ensures
