use Rattle.std.proofs.Common.{◌≡◌, ℕ, List, [], ◌∷◌, codes, ap, ◌∙◌}
use Rattle.bound_trees.specs.declared.expr.BoundExpr.TheVariants as bound
use Rattle.bound_trees.specs.declared.query.BoundRow.TheVariants as row
use Rattle.rel_algebra.specs.Plain.{planned}
use Rattle.rel_algebra.specs.Tree.{Expr, Exprs, Call, NoExpr, MoreExprs, NoRow, MoreRows, Values}
use Rattle.catalog_store.specs.Catalog.{Catalog, routine_named}
use Rattle.catalog_store.specs.View.{query_of}
use Rattle.catalog_store.proofs.Laws.{query_of-Values, row_of-Row, tree_of-Call}
use Rattle.psm_effects.specs.Examples.{with_routines, calling}
use Rattle.psm_effects.proofs.law.queries_without_plans.Goals as goal

-- the plain tree of VALUES (NAME())
calling_tree : (k : Catalog) (name : List ℕ) → query_of k (calling name) ≡
    Values (MoreRows (MoreExprs (Call name (routine_named name k) NoExpr) NoExpr) NoRow)
calling_tree k name =
    query_of-Values k (row.Row (bound.Call name [] ∷ []) ∷ [])
    ∙ ap (λ (es : Exprs). Values (MoreRows es NoRow)) (row_of-Row k (bound.Call name [] ∷ []))
    ∙ ap (λ (e : Expr). Values (MoreRows (MoreExprs e NoExpr) NoRow)) (tree_of-Call k name [])

pub returns : goal.returns
returns c = record {
  function = ap planned (calling_tree with_routines (codes "F"));
  interpreted = ap planned (calling_tree with_routines (codes "G"));
  procedure = ap planned (calling_tree with_routines (codes "P"));
  table = ap planned (calling_tree with_routines (codes "T"));
  nothing = ap planned (calling_tree with_routines (codes "N"));
}
