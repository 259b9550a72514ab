use Rattle.std.proofs.Common.{◌≡◌, ap, ◌∙◌}
use Rattle.rel_algebra.specs.Emit.{checks, raising}
use Rattle.rel_algebra.specs.PlanView.{scalar_of, scalars_of}
use Rattle.catalog_store.specs.Catalog.{Catalog}
use Rattle.catalog_store.specs.View.{exprs_of}
use Rattle.plan_expressions.specs.Emission.{guarded}
use Rattle.plan_expressions.proofs.Laws.{if_ok}
use Rattle.plan_drafts.proofs.ends.guarded_call.Goals as goal

pub returns : goal.returns
returns c =
    let body = scalar_of c.args.body in
    if_ok c.guard.result
    (λ s. scalar_of s ≡ guarded (scalars_of c.in_ok-checks.checks) body)
    (λ s. (known : Catalog) → scalar_of s ≡ guarded
    (checks (raising (exprs_of known c.args.arguments.now) c.args.types.now c.args.first)) body)
    c.guard.ensures
    (λ s h known. h ∙ ap (λ ss. guarded ss body) (c.in_ok-checks.ensures known))
