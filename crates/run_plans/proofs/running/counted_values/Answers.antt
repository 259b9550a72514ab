use Rattle.std.proofs.Common.{◌≡◌, List, subst}
use Rattle.std.specs.Prelude.{IfOk}
use Rattle.row_types.specs.Cells.{PlanRow}
use Rattle.rel_algebra.specs.Plan.{collected}
use Rattle.plan_rows.specs.Firsts.{values_end}
use Rattle.run_plans.proofs.running.counted_values.Goals as goal

pub returns : goal.returns
returns g c = subst
    (λ (rows : List PlanRow). IfOk c.collect_values.result (λ v. values_end v ≡ collected rows))
    c.in_ok-rows.ensures.rows c.collect_values.ensures.values
