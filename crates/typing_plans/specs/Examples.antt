-- Worked rows: ORDER BY over VALUES, and VALUES without a row.
use Rattle.std.specs.Prelude.{◌≡◌, ℕ, pos, true, false, List, [], ◌∷◌, Some, None}
use Rattle.sql_values.specs.declared.value.Value.TheVariants.{Int, Null as NullValue}
use Rattle.row_types.specs.declared.sort_key.SortKey.{SortKey}
use Rattle.bound_trees.specs.declared.expr.BoundExpr.TheVariants as bound
use Rattle.bound_trees.specs.declared.query.BoundQuery.{BoundQuery}
use Rattle.bound_trees.specs.declared.query.BoundQuery.TheVariants as query
use Rattle.bound_trees.specs.declared.query.BoundRow.TheVariants as row
use Rattle.bind_kinds.specs.declared.kind.Kind.TheVariants.{Integer, Null}
use Rattle.rel_algebra.specs.Emit.{plan, top}
use Rattle.rel_algebra.specs.Kinds.{Kinded}
use Rattle.rel_algebra.specs.WellFormed.{tree_fits}
use Rattle.catalog_store.specs.View.{query_of}
use Rattle.typing_trees.specs.Around.{Around}
use Rattle.typing_trees.specs.Queries.{kinds_of_query}

-- nothing stands around the query
abbrev pub alone : Around
alone = record { rows = []; slots = []; tables = λ name. None; functions = λ name. None }

-- VALUES (7, NULL)
abbrev pub one_row : BoundQuery
one_row = query.Values (row.Row (bound.Literal (Int (pos 7)) ∷ bound.Literal NullValue ∷ []) ∷ [])

-- by the column at a place
abbrev pub by_column : ℕ → List SortKey
by_column place = record { place = place; descending = false } ∷ []

-- the plan of a query over an empty catalog is well formed
abbrev pub PlanFits : BoundQuery → Type 0
PlanFits q = tree_fits (plan (query_of [] q) (λ name. 0) (top 0)) (λ name. 0) [] 0 ≡ true

-- what is typed has a well formed plan
pub record PlansWorked : Type 0 where
  -- VALUES (7, NULL) ORDER BY 2
  pub typed : kinds_of_query (query.Ordered one_row (by_column 1)) alone ≡
      Some (Integer ∷ Null ∷ [])
  pub fits : PlanFits (query.Ordered one_row (by_column 1))
  pub kinded : Kinded (query_of [] (query.Ordered one_row (by_column 1))) (λ name. []) []
  -- there is no third column
  pub beyond : kinds_of_query (query.Ordered one_row (by_column 2)) alone ≡ None
  -- VALUES without a row has no columns
  pub no_row : kinds_of_query (query.Values []) alone ≡ Some []
  pub no_row_fits : PlanFits (query.Values [])
