-- That plain trees of well typed bound trees have the shapes that make plans well formed. ISO/IEC
-- 9075-2, 7.3 (table value constructor), 7.13 (group by clause), 7.17 (query expression), 7.19
-- (subquery), 8.4 (in) and 10.4 (routine invocation).
use Rattle.std.specs.Prelude.{◌≡◌, ℕ, true, List, length, Some}
use Rattle.row_types.specs.declared.RowType.{RowType}
use Rattle.bound_trees.specs.declared.expr.BoundExpr.{BoundExpr}
use Rattle.bound_trees.specs.declared.query.BoundQuery.{BoundQuery}
use Rattle.bind_kinds.specs.declared.kind.Kind.{Kind}
use Rattle.rel_algebra.specs.Joins.{query_width}
use Rattle.rel_algebra.specs.Plain.{planned, planned_expr, planned_routine}
use Rattle.rel_algebra.specs.WellFormed.{Shaped, ShapedBody, ShapedQuery}
use Rattle.catalog_store.specs.Catalog.{Catalog, routine_named}
use Rattle.catalog_store.specs.View.{query_of, tree_of}
use Rattle.typing_trees.specs.Around.{Around}
use Rattle.typing_trees.specs.Queries.{kind_of, kinds_of_query}

-- each table that a tree may name has as many columns as its name is wide
abbrev pub TablesWide : Around → (List ℕ → ℕ) → Type 0
TablesWide a widths =
    (name : List ℕ) (t : RowType) → a.tables name ≡ Some t → widths name ≡ length t.columns

-- each function of the catalog that has a plan has a body of these shapes
abbrev pub BodiesShaped : Catalog → (List ℕ → ℕ) → Type 0
BodiesShaped known widths = (name : List ℕ) → planned_routine (routine_named name known) ≡ true →
    ShapedBody (routine_named name known) widths

-- What is well typed, by whatever stands around it, is shaped where it has a plan.
pub record ShapedTrees (known : Catalog) (widths : List ℕ → ℕ) : Type 0 where
  -- an expression, with each query that stands in it
  pub expressions : (e : BoundExpr) (a : Around) (kind : Kind) → TablesWide a widths →
      kind_of e a ≡ Some kind → planned_expr (tree_of known e) ≡ true →
      Shaped (tree_of known e) widths
  -- a query
  pub queries : (q : BoundQuery) (a : Around) (kinds : List Kind) → TablesWide a widths →
      kinds_of_query q a ≡ Some kinds → planned (query_of known q) ≡ true →
      ShapedQuery (query_of known q) widths
  -- a query has as many columns as kinds
  pub columns : (q : BoundQuery) (a : Around) (kinds : List Kind) → TablesWide a widths →
      kinds_of_query q a ≡ Some kinds → query_width (query_of known q) widths ≡ length kinds

-- in every catalog whose functions have shaped bodies
abbrev pub TypedTreesShaped : Type 0
TypedTreesShaped = (known : Catalog) (widths : List ℕ → ℕ) → BodiesShaped known widths →
    ShapedTrees known widths
