-- Where no block has a plan, trees stand for what they stand for in the catalog.
use Rattle.std.proofs.Common.{◌≡◌, refl, ap, ◌∙◌}
use Rattle.bound_trees.specs.declared.expr.BoundExpr.{BoundExpr, fold-BoundExpr}
use Rattle.bound_trees.specs.declared.expr.BoundExpr.TheOpen.{BoundExpr-F}
use Rattle.bound_trees.specs.declared.query.BoundQuery.{BoundQuery, fold-BoundQuery}
use Rattle.rel_algebra.specs.Emit.{Env, plan}
use Rattle.rel_algebra.specs.Tree.{Expr, Exprs, From, Query}
use Rattle.catalog_store.specs.Catalog.{Catalog}
use Rattle.catalog_store.specs.View.{Link, Grouping, Joining, expr_step, item_step, query_step}
use Rattle.catalog_store.specs.View.{row_step, source_step, link_step, grouping_step, select_step}
use Rattle.catalog_store.specs.View.{tree_of, query_of}
use Rattle.catalog_store.specs.Widths as catalog
use Rattle.block_plans.specs.Callees.{Callees, width_in, without_blocks}
use Rattle.block_plans.specs.Laws.{BareViews}
use Rattle.block_plans.specs.View.{call_step, expr_seen, query_seen}

-- a node
same_step : (known : Catalog)
    (x : BoundExpr-F Expr Joining Query Exprs From Link Grouping Query) →
    call_step (without_blocks known) x ≡ expr_step known x
same_step known (BoundExpr-F.Call name args) = refl
same_step known _ = refl

pub bare_views : BareViews
bare_views = record {
  expressions = λ known e i. fold-BoundExpr Expr Joining Query Exprs From Link Grouping Query
      (λ x. same_step known x i) item_step query_step row_step source_step link_step grouping_step
      select_step e;
  queries = λ known q i. fold-BoundQuery Expr Joining Query Exprs From Link Grouping Query
      (λ x. same_step known x i) item_step query_step row_step source_step link_step grouping_step
      select_step q;
}

-- and so are queries planned
pub bare_plan : (k : Callees) (known : Catalog) (q : BoundQuery) (e : Env) →
    k ≡ without_blocks known →
    plan (query_seen k q) (width_in k) e ≡ plan (query_of known q) (catalog.width_in known) e
bare_plan k known q e h =
    (λ j. plan (query_seen (h j) q) (width_in (h j)) e)
    ∙ ap (λ x. plan x (catalog.width_in known) e) (bare_views.queries known q)
