use Rattle.std.proofs.Common.{◌≡◌, List, ap, ◌∙◌}
use Rattle.std.proofs.lemmas.Result.{IfOk-weaker}
use Rattle.catalog_store.specs.Kept.{IsPlan}
use Rattle.rel_algebra.specs.Emit.{Emitted, listed, singly, width}
use Rattle.rel_algebra.specs.Plan.{unit_row}
use Rattle.rel_algebra.specs.PlanView.{run_of, scalars_of, tree_of}
use Rattle.rel_algebra.specs.declared.plan.Node.{Node}
use Rattle.plan_drafts.specs.Listing.{listed_only}
use Rattle.plan_expressions.specs.Drafts.{drafted}
use Rattle.call_plans.proofs.Called.{value_listed}
use Rattle.call_plans.proofs.nodes.value_plan.Goals as goal

pub returns : goal.returns
returns c =
    let start = drafted c.over_unit.result in
    let scalars = c.in_ok-scalars.scalars in
    IfOk-weaker c.listed_plan.result
    (λ p. tree_of p ≡ listed_only (scalars_of scalars) start.width start.tree)
    (λ p. (e : Emitted) → IsPlan c.args.function e → tree_of p ≡ listed (singly e) 0 unit_row)
    (λ p is e own. value_listed c.args.function e scalars start.width start.tree (tree_of p) own
    c.in_ok-scalars.ensures
    (c.over_unit.ensures.width ∙ c.in_ok-columns.ensures
    ∙ ap (λ (ns : List Node). width (run_of ns) 0) c.as_slice.ensures)
    c.over_unit.ensures.tree is) c.listed_plan.ensures
