use Rattle.std.proofs.Common.{◌≡◌, false, length, subst}
use Rattle.rel_algebra.specs.Tree.{Returned}
use Rattle.rel_algebra.specs.Emit.{emit_body, top}
use Rattle.bound_trees.specs.declared.expr.BoundExpr.{BoundExpr}
use Rattle.catalog_store.specs.Kept.{IsPlan}
use Rattle.catalog_store.specs.View.{tree_of}
use Rattle.catalog_store.specs.Widths.{width_in}
use Rattle.plan_queries.proofs.functions.routine_with_plan.Goals as goal

pub returns-clause-kept : goal.returns-clause-kept
returns-clause-kept c =
    let head = c.args.routine.head in
    let shown = c.in-Some.ensures in
    let same : c.in-Some.tree.now ≡ c.args.routine.body = cc in
    subst (λ (b : BoundExpr). IsPlan c.in_ok-plan-in-Some.plan
    (emit_body (Returned head.parameters head.returns (tree_of c.args.catalog.now b))
    (width_in c.args.catalog.now) (top (length head.parameters)) 0)) same
    (rw c.len.ensures at (c.in_ok-plan-in-Some.ensures head.parameters))
