-- What bound selects stand for, and how wide queries are.
use Rattle.std.proofs.Common.{ℕ, ◌≡◌, ◌∷◌, [], List, Option, Some, None, length, map, suc}
use Rattle.std.proofs.Common.{slice_get, refl, sym, ap, ◌∙◌}
use Rattle.std.specs.Option.{option_map}
use Rattle.bound_trees.specs.declared.expr.BoundExpr.{BoundExpr}
use Rattle.bound_trees.specs.declared.query.BoundGrouping.{BoundGrouping}
use Rattle.bound_trees.specs.declared.query.BoundRow.{BoundRow}
use Rattle.bound_trees.specs.declared.query.BoundSelect.{BoundSelect, out-BoundSelect}
use Rattle.rel_algebra.specs.Tree.{count, Select, Grouped}
use Rattle.rel_algebra.specs.Joins.{query_width, rows_width}
use Rattle.catalog_store.specs.Catalog.{Catalog}
use Rattle.catalog_store.specs.View.{exprs_of, row_of, rows_of, from_of, item_of, grouping_of}
use Rattle.catalog_store.specs.View.{selected, select_of}
use Rattle.catalog_store.proofs.Laws.{select_of-parts, grouping_of-parts}

-- what a bound select stands for, by its parts
pub select_of-fields : (k : Catalog) (s : BoundSelect) →
    select_of k s ≡ selected (option_map (grouping_of k) (out-BoundSelect s).grouping)
    (exprs_of k (out-BoundSelect s).items) (from_of (map (item_of k) (out-BoundSelect s).from))
    (exprs_of k (out-BoundSelect s).conjuncts)
select_of-fields k s = select_of-parts k s

pub select_of-grouped : (k : Catalog) (s : BoundSelect) (g : BoundGrouping) →
    (out-BoundSelect s).grouping ≡ Some g →
    select_of k s ≡ Grouped (from_of (map (item_of k) (out-BoundSelect s).from))
    (exprs_of k (out-BoundSelect s).conjuncts) g.keys (exprs_of k g.parts) g.aggregates
    (exprs_of k g.having) (exprs_of k (out-BoundSelect s).items)
select_of-grouped k s g h =
    select_of-fields k s ∙ ap (λ (o : Option BoundGrouping). selected (option_map (grouping_of k) o)
    (exprs_of k (out-BoundSelect s).items) (from_of (map (item_of k) (out-BoundSelect s).from))
    (exprs_of k (out-BoundSelect s).conjuncts)) h
    ∙ ap (λ q. Grouped (from_of (map (item_of k) (out-BoundSelect s).from))
    (exprs_of k (out-BoundSelect s).conjuncts) q.keys q.parts q.aggregates q.having
    (exprs_of k (out-BoundSelect s).items)) (grouping_of-parts k g)

pub select_of-ungrouped : (k : Catalog) (s : BoundSelect) → (out-BoundSelect s).grouping ≡ None →
    select_of k s ≡ Select (exprs_of k (out-BoundSelect s).items)
    (from_of (map (item_of k) (out-BoundSelect s).from))
    (exprs_of k (out-BoundSelect s).conjuncts)
select_of-ungrouped k s h =
    select_of-fields k s ∙ ap (λ (o : Option BoundGrouping). selected (option_map (grouping_of k) o)
    (exprs_of k (out-BoundSelect s).items) (from_of (map (item_of k) (out-BoundSelect s).from))
    (exprs_of k (out-BoundSelect s).conjuncts)) h

-- a query is as wide as its list
pub select-width : (k : Catalog) (s : BoundSelect) (widths : List ℕ → ℕ) →
    query_width (select_of k s) widths ≡ count (exprs_of k (out-BoundSelect s).items)
select-width k s widths = by (out-BoundSelect s).grouping refl
  where
    by : (o : Option BoundGrouping) → (out-BoundSelect s).grouping ≡ o →
        query_width (select_of k s) widths ≡ count (exprs_of k (out-BoundSelect s).items)
    by None h = ap (λ q. query_width q widths) (select_of-ungrouped k s h)
    by (Some g) h = ap (λ q. query_width q widths) (select_of-grouped k s g h)

-- ---- VALUES

pub count-exprs : (k : Catalog) (es : List BoundExpr) → count (exprs_of k es) ≡ length es
count-exprs k [] = refl
count-exprs k (e ∷ es) = ap suc (count-exprs k es)

pub width_first : (k : Catalog) (rs : List BoundRow) (r : BoundRow) (vs : List BoundExpr) →
    Some r ≡ slice_get rs 0 → exprs_of k vs ≡ row_of k r → rows_width (rows_of k rs) ≡ length vs
width_first k [] r vs h g = absurd (let never = h in cc)
width_first k (x ∷ rs) r vs h g = let same : x ≡ r = cc in
    ap (λ (y : BoundRow). count (row_of k y)) same ∙ ap count (sym g) ∙ count-exprs k vs
