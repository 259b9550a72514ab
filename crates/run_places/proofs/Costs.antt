-- What falls from call to call in FROM: an item costs no more than what is left of FROM.
use Rattle.std.proofs.Common.{ℕ, ◌≡◌, ◌<◌, ◌≤◌, ◌+◌, ◌∷◌, [], List, Option, Some, None, length}
use Rattle.std.proofs.Common.{drop, get_or, map, refl, sym, ap, ◌∙◌, arith}
use Rattle.std.specs.Option.{option_map}
use Rattle.bound_trees.specs.declared.query.BoundFromItem.{BoundFromItem}
use Rattle.bound_trees.specs.declared.query.BoundFromItem.TheVariants as item
use Rattle.bound_trees.specs.declared.query.BoundGrouping.{BoundGrouping, out-BoundGrouping}
use Rattle.bound_trees.specs.declared.query.BoundSelect.{BoundSelect, out-BoundSelect}
use Rattle.bound_trees.specs.declared.query.BoundSource.{BoundSource}
use Rattle.bound_trees.specs.declared.expr.BoundExpr.{BoundExpr}
use Rattle.rel_algebra.specs.Tree.{Exprs, From, Cross, Inner, LeftOuter, Query}
use Rattle.routine_views.specs.Views.{Known}
use Rattle.catalog_store.specs.View.{Grouping, Joining, beside, after_comma, crossing, matching}
use Rattle.catalog_store.specs.View.{matching_or_nulls, itself, Joined, closed, grown, all_grown}
use Rattle.catalog_store.specs.View.{begun, from_of, selected}
use Rattle.run_places.specs.Views.{item_in, source_in, exprs_in, select_in, grouping_in}
use Rattle.run_places.specs.Cost.{costs, from_cost, query_cost}
use Rattle.run_rows.specs.declared.from.JoinedRows.{JoinedRows}
use Rattle.run_places.proofs.Seen.{item_in-Inner, item_in-Left, select_in-parts, grouping_in-parts}
use Rattle.run_places.proofs.Trees.{rest}

-- what an item adds to FROM
abbrev pub joining_cost : Joining → ℕ
joining_cost (after_comma f) = from_cost f + 1
joining_cost (crossing f) = from_cost f + 1
joining_cost (matching f on) = from_cost f + costs on + 1
joining_cost (matching_or_nulls f on) = from_cost f + costs on + 1

abbrev pub joining_costs : List Joining → ℕ
joining_costs [] = 0
joining_costs (i ∷ is) = joining_cost i + joining_costs is

-- the first item is joined to nothing, so that its ON isn't asked
abbrev pub step_cost : Option JoinedRows → Joining → ℕ
step_cost None i = 0
step_cost (Some j) i = joining_cost i

-- what is left of FROM, where these rows stand before it
abbrev pub left_cost : Option JoinedRows → List Joining → ℕ
left_cost None is = from_cost (from_of is)
left_cost (Some j) is = joining_costs is

more_beside : (b : Option From) (c x : From) (n : ℕ) → from_cost x ≡ from_cost c + n →
    from_cost (beside b x) ≡ from_cost (beside b c) + n
more_beside None c x n h = h
more_beside (Some b) c x n h = omega (arith, h)

grown_cost : (j : Joined) (i : Joining) → from_cost (closed (grown j i)) ≡ from_cost (closed j) +
    joining_cost i
grown_cost j (after_comma f) = omega arith
grown_cost j (crossing f) = more_beside j.before j.current (Cross j.current f) (from_cost f + 1)
    (omega arith)
grown_cost j (matching f on) = more_beside j.before j.current (Inner j.current f on)
    (from_cost f + costs on + 1) (omega arith)
grown_cost j (matching_or_nulls f on) = more_beside j.before j.current (LeftOuter j.current f on)
    (from_cost f + costs on + 1) (omega arith)

all_cost : (is : List Joining) (j : Joined) →
    from_cost (closed (all_grown j is)) ≡ from_cost (closed j) + joining_costs is
all_cost [] j = omega arith
all_cost (i ∷ is) j = omega (arith, all_cost is (grown j i), grown_cost j i)

itself_small : (i : Joining) → from_cost (itself i) ≤ joining_cost i
itself_small (after_comma f) = omega arith
itself_small (crossing f) = omega arith
itself_small (matching f on) = omega arith
itself_small (matching_or_nulls f on) = omega arith

-- ---- one item, and what is left over it

item_small : (j : Option JoinedRows) (i : Joining) (is : List Joining) →
    from_cost (itself i) ≤ left_cost j (i ∷ is)
item_small None i is = omega (arith, all_cost is (begun i))
item_small (Some j) i is = omega (arith, itself_small i)

step_small : (j : Option JoinedRows) (i : Joining) (is : List Joining) →
    step_cost j i ≤ left_cost j (i ∷ is)
step_small None i is = omega arith
step_small (Some j) i is = omega arith

others_small : (j : Option JoinedRows) (more : JoinedRows) (i : Joining) (is : List Joining) →
    left_cost (Some more) is ≤ left_cost j (i ∷ is)
others_small None more i is = omega (arith, all_cost is (begun i))
others_small (Some j) more i is = omega arith

module _ (k : Known) (xs : List BoundFromItem) (i : ℕ) (x : BoundFromItem) where
  left_at : (j : Option JoinedRows) → i < length xs → x ≡ get_or xs i x →
      left_cost j (map (item_in k) (drop i xs)) ≡ left_cost j
      (item_in k x ∷ map (item_in k) (drop (i + 1) xs))
  left_at j h is = ap (λ (ys : List BoundFromItem). left_cost j (map (item_in k) ys))
      (rest xs i x h is)

  pub source_small : (s : BoundSource) (j : Option JoinedRows) (n : ℕ) → i < length xs →
      x ≡ get_or xs i x → source_in k s ≡ itself (item_in k x) →
      left_cost j (map (item_in k) (drop i xs)) ≤ n →
      from_cost (source_in k s) ≤ n
  source_small s j n h is of small = omega (
    arith,
    small,
    left_at j h is,
    ap from_cost of,
    item_small j (item_in k x) (map (item_in k) (drop (i + 1) xs)),
  )

  pub join_small : (j : Option JoinedRows) (n : ℕ) → i < length xs → x ≡ get_or xs i x →
      left_cost j (map (item_in k) (drop i xs)) ≤ n → step_cost j (item_in k x) ≤ n
  join_small j n h is small = omega (
    arith,
    small,
    left_at j h is,
    step_small j (item_in k x)
        (map (item_in k) (drop (i + 1) xs)),
  )

  pub left_small : (j : Option JoinedRows) (more : JoinedRows) (n : ℕ) → i < length xs →
      x ≡ get_or xs i x → left_cost j (map (item_in k) (drop i xs)) ≤ n →
      left_cost (Some more) (map (item_in k) (drop (i + 1) xs)) ≤ n
  left_small j more n h is small = omega (
    arith,
    small,
    left_at j h is,
    others_small j more
        (item_in k x) (map (item_in k) (drop (i + 1) xs)),
  )

-- ---- the ON of an item

on_less : (o : Option JoinedRows) (j : JoinedRows) (i m : Joining) (on : Exprs) → o ≡ Some j →
    i ≡ m → costs on < joining_cost m → costs on < step_cost o i
on_less o j i m on there is h = omega (
  arith,
  ap (λ (x : Option JoinedRows). step_cost x i) there,
  ap joining_cost is,
  h,
)

pub inner_less : (k : Known) (x : BoundFromItem) (source : BoundSource) (on xs : List BoundExpr)
    (o : Option JoinedRows) (j : JoinedRows) → o ≡ Some j → x ≡ item.Inner source on → xs ≡ on →
    costs (exprs_in k xs) < step_cost o (item_in k x)
inner_less k x source on xs o j there is same =
    omega (
      arith,
      ap (λ (es : List BoundExpr). costs (exprs_in k es)) same,
      on_less o j (item_in k x) (matching (source_in k source) (exprs_in k on))
          (exprs_in k on) there (ap (item_in k) is ∙ item_in-Inner k source on) (omega arith),
    )

pub left_less : (k : Known) (x : BoundFromItem) (source : BoundSource) (on xs : List BoundExpr)
    (o : Option JoinedRows) (j : JoinedRows) → o ≡ Some j → x ≡ item.Left source on → xs ≡ on →
    costs (exprs_in k xs) < step_cost o (item_in k x)
left_less k x source on xs o j there is same =
    omega (
      arith,
      ap (λ (es : List BoundExpr). costs (exprs_in k es)) same,
      on_less o j (item_in k x) (matching_or_nulls (source_in k source) (exprs_in k on))
          (exprs_in k on) there (ap (item_in k) is ∙ item_in-Left k source on) (omega arith),
    )

-- ---- a SELECT

module _ (k : Known) (q : BoundSelect) (xs : List BoundFromItem) (list conjuncts : List BoundExpr)
    (from_is : xs ≡ (out-BoundSelect q).from) (list_is : list ≡ (out-BoundSelect q).items)
    (conjuncts_are : conjuncts ≡ (out-BoundSelect q).conjuncts) where
  abbrev with_grouping : Option Grouping → Query
  with_grouping g = selected g (exprs_in k list) (from_of (map (item_in k) xs))
      (exprs_in k conjuncts)

  select_is : (g : Option BoundGrouping) → g ≡ (out-BoundSelect q).grouping →
      query_cost (select_in k q) ≡ query_cost (with_grouping (option_map (grouping_in k) g))
  select_is g is =
      ap query_cost (select_in-parts k q ∙ sym
      (λ i. selected (option_map (grouping_in k) (is i)) (exprs_in k (list_is i))
      (from_of (map (item_in k) (from_is i))) (exprs_in k (conjuncts_are i))))

  from_within : (g : Option Grouping) → from_cost (from_of (map (item_in k) xs)) < query_cost
      (with_grouping g)
  from_within None = omega arith
  from_within (Some g) = omega arith

  -- FROM costs less than the whole
  pub from_less : from_cost (from_of (map (item_in k) xs)) < query_cost (select_in k q)
  from_less = omega (
    arith,
    select_is (out-BoundSelect q).grouping refl,
    from_within
        (option_map (grouping_in k) (out-BoundSelect q).grouping),
  )

  -- and so do the list and the conjuncts, and the parts of a grouping
  pub list_less : None ≡ (out-BoundSelect q).grouping →
      costs (exprs_in k list) + costs (exprs_in k conjuncts) < query_cost (select_in k q)
  list_less none = omega (arith, select_is None none)

  pub groups_less : (g : BoundGrouping) → Some g ≡ (out-BoundSelect q).grouping →
      costs (exprs_in k (out-BoundGrouping g).parts) + costs (exprs_in k conjuncts) + costs
      (exprs_in k (out-BoundGrouping g).having) + costs (exprs_in k list) < query_cost
      (select_in k q)
  groups_less g some =
      omega (
        arith,
        select_is (Some g) some,
        ap (λ (p : Grouping). costs p.parts)
            (grouping_in-parts k g),
        ap (λ (p : Grouping). costs p.having) (grouping_in-parts k g),
      )
