-- What falls at each call of the emission.
use Rattle.std.proofs.Common.{ℕ, zero, suc, ◌≡◌, ◌<◌, ◌≤◌, ◌+◌, ◌∷◌, [], List, Option, Some, None}
use Rattle.std.proofs.Common.{length, map, get_or, slice_index_or, refl, sym, ap, ◌∙◌, subst, arith}
use Rattle.bound_trees.specs.declared.expr.BoundExpr.{BoundExpr}
use Rattle.bound_trees.specs.declared.expr.BoundExpr.TheVariants as bound
use Rattle.bound_trees.specs.declared.query.BoundFromItem.{BoundFromItem}
use Rattle.bound_trees.specs.declared.query.BoundFromItem.TheVariants as item
use Rattle.bound_trees.specs.declared.query.BoundGrouping.{BoundGrouping}
use Rattle.bound_trees.specs.declared.query.BoundQuery.{BoundQuery}
use Rattle.bound_trees.specs.declared.query.BoundQuery.TheVariants as query
use Rattle.bound_trees.specs.declared.query.BoundRow.{BoundRow}
use Rattle.bound_trees.specs.declared.query.BoundSelect.{BoundSelect, out-BoundSelect}
use Rattle.bound_trees.specs.declared.query.BoundSource.{BoundSource}
use Rattle.bound_trees.specs.declared.query.BoundSource.TheVariants as source
use Rattle.row_types.specs.declared.sort_key.SortKey.{SortKey}
use Rattle.rel_algebra.specs.Tree.{From}
use Rattle.block_plans.specs.Callees.{Callees}
use Rattle.catalog_store.specs.View.{Joining, Joined, after_comma, crossing, matching}
use Rattle.catalog_store.specs.View.{matching_or_nulls, itself, begun, beside, closed, grown}
use Rattle.catalog_store.specs.View.{all_grown, from_of, nothing}
use Rattle.block_plans.specs.View.{expr_seen, exprs_seen, item_seen, query_seen, row_seen}
use Rattle.block_plans.specs.View.{rows_seen, source_seen, select_seen}
use Rattle.block_plans.proofs.Laws.{expr_seen-Single, expr_seen-Exists, expr_seen-In}
use Rattle.block_plans.proofs.Laws.{expr_seen-Call, query_seen-Select, query_seen-Values}
use Rattle.block_plans.proofs.Laws.{query_seen-Ordered, source_seen-Derived, item_seen-Comma}
use Rattle.block_plans.proofs.Laws.{item_seen-Cross, item_seen-Inner, item_seen-Left}
use Rattle.block_plans.proofs.Laws.{select_seen-grouped, select_seen-ungrouped}
use Rattle.plan_queries.specs.Cost.{cost, costs, rows_cost, from_cost, query_cost, joining_cost}
use Rattle.plan_queries.specs.Cost.{joinings_cost, items_cost, grouping_cost}

pub expr_small : (k : Callees) (es : List BoundExpr) (i : ℕ) (x : BoundExpr) → i < length es →
    x ≡ get_or es i x → cost (expr_seen k x) < costs (exprs_seen k es)
expr_small k [] i x h is = absurd (omega (arith, h))
expr_small k (y ∷ es) zero x h is = omega (arith, ap (λ (z : BoundExpr). cost (expr_seen k z)) is)
expr_small k (y ∷ es) (suc i) x h is = omega (arith, expr_small k es i x (omega (arith, h)) is)

pub row_small : (k : Callees) (rs : List BoundRow) (i : ℕ) (r : BoundRow) (vs : List BoundExpr) →
    i < length rs → r ≡ get_or rs i r → exprs_seen k vs ≡ row_seen k r →
    costs (exprs_seen k vs) < rows_cost (rows_seen k rs)
row_small k [] i r vs h is p = absurd (omega (arith, h))
row_small k (y ∷ rs) zero r vs h is p = omega
    (arith, ap costs p, ap (λ (z : BoundRow). costs (row_seen k z)) is)
row_small k (y ∷ rs) (suc i) r vs h is p = omega
    (arith, row_small k rs i r vs (omega (arith, h)) is p)

pub first_row_small : (k : Callees) (rs : List BoundRow) (r : BoundRow) (vs : List BoundExpr) →
    length rs ≡ 1 → r ≡ slice_index_or rs 0 r → exprs_seen k vs ≡ row_seen k r →
    costs (exprs_seen k vs) < rows_cost (rows_seen k rs)
first_row_small k [] r vs one is p = absurd (omega (arith, one))
first_row_small k (y ∷ rs) r vs one is p = omega
    (arith, ap costs p, ap (λ (z : BoundRow). costs (row_seen k z)) is)

-- ---- FROM

grown_cost : (b : Option From) (c : From) (i : Joining) →
    from_cost (closed (grown (record { before = b; current = c }) i)) ≡ from_cost (beside b c) +
    (joining_cost i + 1)
grown_cost None c (after_comma f) = omega arith
grown_cost None c (crossing f) = omega arith
grown_cost None c (matching f on) = omega arith
grown_cost None c (matching_or_nulls f on) = omega arith
grown_cost (Some b) c (after_comma f) = omega arith
grown_cost (Some b) c (crossing f) = omega arith
grown_cost (Some b) c (matching f on) = omega arith
grown_cost (Some b) c (matching_or_nulls f on) = omega arith

closed_grown : (j : Joined) (i : Joining) → from_cost (closed (grown j i)) ≡ from_cost (closed j) +
    (joining_cost i + 1)
closed_grown j i = grown_cost j.before j.current i

all_closed : (j : Joined) (is : List Joining) →
    from_cost (closed (all_grown j is)) ≡ from_cost (closed j) + joinings_cost is
all_closed j [] = omega arith
all_closed j (i ∷ is) = omega (arith, all_closed (grown j i) is, closed_grown j i)

pub items_small : (is : List Joining) → items_cost is ≤ from_cost (from_of is)
items_small [] = omega arith
items_small (i ∷ is) = omega (arith, all_closed (begun i) is)

pub source_small : (k : Callees) (items : List BoundFromItem) (i : BoundFromItem) (s : BoundSource)
    → ¬ (items ≡ []) → i ≡ slice_index_or items 0 i → source_seen k s ≡ itself (item_seen k i) →
    from_cost (source_seen k s) < items_cost (map (item_seen k) items) + 1
source_small k [] i s some is p = absurd (some refl)
source_small k (x ∷ items) i s some is p = omega
    (arith, ap from_cost p, ap (λ (y : BoundFromItem). from_cost (itself (item_seen k y))) is)

one_joining : (k : Callees) (items : List BoundFromItem) (n : ℕ) (i : BoundFromItem) →
    n < length items → i ≡ slice_index_or items n i →
    joining_cost (item_seen k i) < joinings_cost (map (item_seen k) items)
one_joining k [] n i h is = absurd (omega (arith, h))
one_joining k (x ∷ items) zero i h is = omega
    (arith, ap (λ (y : BoundFromItem). joining_cost (item_seen k y)) is)
one_joining k (x ∷ items) (suc n) i h is = omega
    (arith, one_joining k items n i (omega (arith, h)) is)

pub joining_small : (k : Callees) (items : List BoundFromItem) (n : ℕ) (i : BoundFromItem) → 1 ≤ n →
    n < length items → i ≡ slice_index_or items n i →
    joining_cost (item_seen k i) < items_cost (map (item_seen k) items) + 1
joining_small k [] n i first h is = absurd (omega (arith, h))
joining_small k (x ∷ items) zero i first h is = absurd (omega (arith, first))
joining_small k (x ∷ items) (suc n) i first h is =
    omega (arith, one_joining k items n i (omega (arith, h)) is)

-- ---- parts of bound trees

pub cost-Single : (k : Callees) (x : BoundExpr) (q b : BoundQuery) → x ≡ bound.Single q → b ≡ q →
    cost (expr_seen k x) ≡ query_cost (query_seen k b) + 3
cost-Single k x q b is same = ap (λ y. cost (expr_seen k y)) is ∙ ap cost (expr_seen-Single k q) ∙
    ap (λ (y : BoundQuery). query_cost (query_seen k y) + 3) (sym same)

pub cost-Exists : (k : Callees) (x : BoundExpr) (q b : BoundQuery) → x ≡ bound.Exists q → b ≡ q →
    cost (expr_seen k x) ≡ query_cost (query_seen k b) + 3
cost-Exists k x q b is same = ap (λ y. cost (expr_seen k y)) is ∙ ap cost (expr_seen-Exists k q) ∙
    ap (λ (y : BoundQuery). query_cost (query_seen k y) + 3) (sym same)

pub cost-In : (k : Callees) (x l a : BoundExpr) (q b : BoundQuery) → x ≡ bound.In l q → a ≡ l →
    b ≡ q → cost (expr_seen k x) ≡ cost (expr_seen k a) + query_cost (query_seen k b) + 4
cost-In k x l a q b is one same =
    ap (λ y. cost (expr_seen k y)) is ∙ ap cost (expr_seen-In k l q) ∙
    (λ j. cost (expr_seen k (sym one j)) + query_cost (query_seen k (sym same j)) + 4)

pub cost-Ordered : (k : Callees) (x q b : BoundQuery) (keys : List SortKey) →
    x ≡ query.Ordered q keys → b ≡ q → query_cost (query_seen k x) ≡ query_cost (query_seen k b) + 1
cost-Ordered k x q b keys is same =
    ap (λ y. query_cost (query_seen k y)) is ∙ ap query_cost (query_seen-Ordered k q keys) ∙
    ap (λ (y : BoundQuery). query_cost (query_seen k y) + 1) (sym same)

pub cost-Values : (k : Callees) (x : BoundQuery) (rs ss : List BoundRow) → x ≡ query.Values rs →
    ss ≡ rs → query_cost (query_seen k x) ≡ rows_cost (rows_seen k ss) + 3
cost-Values k x rs ss is same =
    ap (λ y. query_cost (query_seen k y)) is ∙ ap query_cost (query_seen-Values k rs) ∙
    ap (λ (y : List BoundRow). rows_cost (rows_seen k y) + 3) (sym same)

pub cost-Derived : (k : Callees) (x : BoundSource) (q b : BoundQuery) → x ≡ source.Derived q →
    b ≡ q → from_cost (source_seen k x) ≡ query_cost (query_seen k b) + 2
cost-Derived k x q b is same =
    ap (λ y. from_cost (source_seen k y)) is ∙ ap from_cost (source_seen-Derived k q) ∙
    ap (λ (y : BoundQuery). query_cost (query_seen k y) + 2) (sym same)

pub cost-Inner : (k : Callees) (x : BoundFromItem) (f : BoundSource) (on es : List BoundExpr) →
    x ≡ item.Inner f on → es ≡ on → joining_cost (item_seen k x) ≡ from_cost (source_seen k f) +
    costs
    (exprs_seen k es) + 4
cost-Inner k x f on es is same =
    ap (λ y. joining_cost (item_seen k y)) is ∙ ap joining_cost (item_seen-Inner k f on) ∙
    ap (λ (y : List BoundExpr). from_cost (source_seen k f) + costs (exprs_seen k y) + 4) (sym same)

pub cost-Left : (k : Callees) (x : BoundFromItem) (f : BoundSource) (on es : List BoundExpr) →
    x ≡ item.Left f on → es ≡ on → joining_cost (item_seen k x) ≡ from_cost (source_seen k f) +
    costs
    (exprs_seen k es) + 4
cost-Left k x f on es is same =
    ap (λ y. joining_cost (item_seen k y)) is ∙ ap joining_cost (item_seen-Left k f on) ∙
    ap (λ (y : List BoundExpr). from_cost (source_seen k f) + costs (exprs_seen k y) + 4) (sym same)

pub cost-grouped : (k : Callees) (s : BoundSelect) (g : BoundGrouping) →
    (out-BoundSelect s).grouping ≡ Some g →
    query_cost (select_seen k s) ≡ costs (exprs_seen k g.parts) + costs
    (exprs_seen k (out-BoundSelect s).conjuncts) + costs (exprs_seen k g.having) + costs
    (exprs_seen k (out-BoundSelect s).items) + from_cost
    (from_of (map (item_seen k) (out-BoundSelect s).from)) + 4
cost-grouped k s g h = ap query_cost (select_seen-grouped k s g h)

pub cost-ungrouped : (k : Callees) (s : BoundSelect) → (out-BoundSelect s).grouping ≡ None →
    query_cost (select_seen k s) ≡ costs (exprs_seen k (out-BoundSelect s).items) + costs
    (exprs_seen k (out-BoundSelect s).conjuncts) + from_cost
    (from_of (map (item_seen k) (out-BoundSelect s).from)) + 4
cost-ungrouped k s h = ap query_cost (select_seen-ungrouped k s h)

-- of any select FROM is a part
pub cost-from : (k : Callees) (s : BoundSelect) (from : List BoundFromItem) →
    from ≡ (out-BoundSelect s).from → items_cost (map (item_seen k) from) + 1 < query_cost
    (select_seen k s)
cost-from k s from f = by (out-BoundSelect s).grouping refl
  where
    small : items_cost (map (item_seen k) from) ≤ from_cost
        (from_of (map (item_seen k) (out-BoundSelect s).from))
    small = subst (λ (xs : List BoundFromItem). items_cost (map (item_seen k) xs) ≤ from_cost
        (from_of (map (item_seen k) (out-BoundSelect s).from))) (sym f)
        (items_small (map (item_seen k) (out-BoundSelect s).from))

    by : (o : Option BoundGrouping) → (out-BoundSelect s).grouping ≡ o →
        items_cost (map (item_seen k) from) + 1 < query_cost (select_seen k s)
    by None h = omega (arith, small, cost-ungrouped k s h)
    by (Some g) h = omega (arith, small, cost-grouped k s g h)

-- and its list, its conjuncts and its groups are
pub cost-over : (k : Callees) (s : BoundSelect) (o : Option BoundGrouping)
    (items tests : List BoundExpr) → o ≡ (out-BoundSelect s).grouping →
    items ≡ (out-BoundSelect s).items → tests ≡ (out-BoundSelect s).conjuncts →
    costs (exprs_seen k items) + costs (exprs_seen k tests) + grouping_cost k o + 3 < query_cost
    (select_seen k s)
cost-over k s o items tests is i c =
    subst (λ (q : Option BoundGrouping). costs (exprs_seen k items) + costs (exprs_seen k tests) +
    grouping_cost k q + 3 < query_cost (select_seen k s)) (sym is)
    (by (out-BoundSelect s).grouping refl)
  where
    by : (q : Option BoundGrouping) → (out-BoundSelect s).grouping ≡ q →
        costs (exprs_seen k items) + costs (exprs_seen k tests) + grouping_cost k q + 3 < query_cost
        (select_seen k s)
    by None h = omega (
      arith,
      cost-ungrouped k s h,
      ap (λ (es : List BoundExpr). costs (exprs_seen k es)) i,
      ap (λ (es : List BoundExpr). costs (exprs_seen k es)) c,
    )
    by (Some g) h = omega (
      arith,
      cost-grouped k s g h,
      ap (λ (es : List BoundExpr). costs (exprs_seen k es)) i,
      ap (λ (es : List BoundExpr). costs (exprs_seen k es)) c,
    )

-- the source of an item is less than the item
pub itself_small : (i : Joining) → from_cost (itself i) < joining_cost i
itself_small (after_comma f) = omega arith
itself_small (crossing f) = omega arith
itself_small (matching f on) = omega arith
itself_small (matching_or_nulls f on) = omega arith
