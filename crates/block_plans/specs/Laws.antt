-- What blocks with plans change of what trees stand for.
use Rattle.std.specs.Prelude.{◌≡◌}
use Rattle.bound_trees.specs.declared.expr.BoundExpr.{BoundExpr}
use Rattle.bound_trees.specs.declared.query.BoundQuery.{BoundQuery}
use Rattle.catalog_store.specs.Catalog.{Catalog}
use Rattle.catalog_store.specs.View.{tree_of, query_of}
use Rattle.block_plans.specs.Callees.{without_blocks}
use Rattle.block_plans.specs.View.{expr_seen, query_seen}

-- Where no block has a plan, nothing.
pub record BareViews : Type 0 where
  pub expressions : (known : Catalog) (e : BoundExpr) →
      expr_seen (without_blocks known) e ≡ tree_of known e
  pub queries : (known : Catalog) (q : BoundQuery) →
      query_seen (without_blocks known) q ≡ query_of known q
