use Rattle.std.proofs.Common.{◌≡◌, ◌∷◌, ap, ◌∙◌}
use Rattle.rel_algebra.specs.BodySteps.{col}
use Rattle.rel_algebra.specs.Emissions.{assigning, if_values}
use Rattle.rel_algebra.specs.Joins.{places}
use Rattle.rel_algebra.specs.PlanView.{scalar_of, scalars_of}
use Rattle.plan_expressions.specs.Emission.{guarded}
use Rattle.plan_expressions.proofs.Laws.{guarded-values, if_ok, scalar_of-Column}
use Rattle.plan_statements.proofs.storing.assigned_if.Goals as goal

pub returns : goal.returns
returns c =
    let is = c.args.aggregate ∷ places c.args.first c.args.count in
    let t = c.args.target.now.data_type in
    let value : scalar_of c.in_ok-value.value ≡ assigning t (col c.args.cell) =
    c.in_ok-value.ensures ∙ ap (assigning t) (scalar_of-Column 0 c.args.cell) in
    if_ok c.guard.result
    (λ s. scalar_of s ≡ guarded (scalars_of c.in_ok-tests.tests) (scalar_of c.in_ok-value.value))
    (λ s. scalar_of s ≡ if_values is (assigning t (col c.args.cell))) c.guard.ensures
    (λ s h. h ∙ (λ j. guarded (c.in_ok-tests.ensures j) (value j)) ∙
    guarded-values is (assigning t (col c.args.cell)))
