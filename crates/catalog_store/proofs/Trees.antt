-- A bound tree stands for the same plain tree in two catalogs where what it uses stands for the
-- same in both.
use Rattle.std.proofs.Common.{◌≡◌, ℕ, List, [], ◌∷◌, ◌++◌, map, Option, None, Some, refl, sym, ap}
use Rattle.std.proofs.Common.{◌∙◌, subst}
use Rattle.bound_trees.specs.declared.expr.BoundExpr.{BoundExpr, roll-BoundExpr}
use Rattle.bound_trees.specs.declared.expr.BoundLink.{BoundLink, roll-BoundLink}
use Rattle.bound_trees.specs.declared.query.BoundFromItem.{BoundFromItem, roll-BoundFromItem}
use Rattle.bound_trees.specs.declared.query.BoundGrouping.{BoundGrouping, roll-BoundGrouping}
use Rattle.bound_trees.specs.declared.query.BoundQuery.{BoundQuery, roll-BoundQuery}
use Rattle.bound_trees.specs.declared.query.BoundRow.{BoundRow, roll-BoundRow}
use Rattle.bound_trees.specs.declared.query.BoundSelect.{BoundSelect, roll-BoundSelect}
use Rattle.bound_trees.specs.declared.query.BoundSource.{BoundSource, roll-BoundSource}
use Rattle.bound_trees.specs.declared.expr.BoundExpr.TheOpen.{BoundExpr-F, BoundFromItem-F}
use Rattle.bound_trees.specs.declared.expr.BoundExpr.TheOpen.{BoundQuery-F, BoundRow-F}
use Rattle.bound_trees.specs.declared.expr.BoundExpr.TheOpen.{BoundSource-F, BoundLink-F}
use Rattle.bound_trees.specs.declared.expr.BoundExpr.TheOpen.{BoundGrouping-F, BoundSelect-F}
use Rattle.bound_trees.specs.declared.expr.BoundExpr.TheFolds.{map-BoundExpr, map-BoundFromItem}
use Rattle.bound_trees.specs.declared.expr.BoundExpr.TheFolds.{map-BoundQuery, map-BoundRow}
use Rattle.bound_trees.specs.declared.expr.BoundExpr.TheFolds.{map-BoundSource, map-BoundLink}
use Rattle.bound_trees.specs.declared.expr.BoundExpr.TheFolds.{map-BoundGrouping, map-BoundSelect}
use Rattle.bound_trees.specs.declared.expr.BoundExpr.TheFolds.{ind-BoundExpr, ind-BoundQuery}
use Rattle.rel_algebra.specs.Tree.{Chain, Call, Single, Exists, In, Values, Ordered, Derived}
use Rattle.catalog_store.specs.Catalog.{Catalog, object_named, routine_in}
use Rattle.catalog_store.specs.Uses.{calls, reads, name_used, Uses, AllFit, joined, expr_uses}
use Rattle.catalog_store.specs.Uses.{item_uses, query_uses, row_uses, source_uses, link_uses}
use Rattle.catalog_store.specs.Uses.{grouping_uses, select_uses, uses_in, uses_in_item}
use Rattle.catalog_store.specs.Uses.{uses_in_query, uses_in_row, uses_in_source, uses_in_link}
use Rattle.catalog_store.specs.Uses.{uses_in_grouping, uses_in_select}
use Rattle.catalog_store.specs.View.{Grouping, links, exprs, rows, operated, after_comma, crossing}
use Rattle.catalog_store.specs.View.{matching, matching_or_nulls, from_of, selected, expr_step}
use Rattle.catalog_store.specs.View.{item_step, query_step, row_step, source_step, link_step}
use Rattle.catalog_store.specs.View.{grouping_step, select_step, tree_of, item_of, query_of, row_of}
use Rattle.catalog_store.specs.View.{source_of, link_of, grouping_of, select_of}
use Rattle.catalog_store.proofs.Layers.{ExprLayer, ItemLayer, QueryLayer, RowLayer, SourceLayer}
use Rattle.catalog_store.proofs.Layers.{LinkLayer, GroupingLayer, SelectLayer, expr_used, item_used}
use Rattle.catalog_store.proofs.Layers.{query_used, row_used, source_used, link_used, grouping_used}
use Rattle.catalog_store.proofs.Layers.{select_used, expr_uses-at, item_uses-at, query_uses-at}
use Rattle.catalog_store.proofs.Layers.{row_uses-at, source_uses-at, link_uses-at, grouping_uses-at}
use Rattle.catalog_store.proofs.Layers.{select_uses-at, expr_seen, item_seen, query_seen, row_seen}
use Rattle.catalog_store.proofs.Layers.{source_seen, link_seen, grouping_seen, select_seen}
use Rattle.catalog_store.proofs.Layers.{tree_of-at, item_of-at, query_of-at, row_of-at}
use Rattle.catalog_store.proofs.Layers.{source_of-at, link_of-at, grouping_of-at, select_of-at}

-- each name that is used stands for the same in both catalogs
abbrev pub Same : Catalog → Catalog → Uses → Type 0
Same known more [] = Unit {0}
Same known more (u ∷ us) = (object_named (name_used u) more ≡ object_named (name_used u) known) ×
    Same known more us

pub fit_in_both : (known more : Catalog) (height : ℕ) (us : Uses) → Same known more us →
    AllFit known height us → AllFit more height us
fit_in_both known more height [] same fit = tt
fit_in_both known more height (calls name n ∷ us) same fit = (
  record {
    function = fit.0.function;
    stands = same.0 ∙ fit.0.stands;
    as_many = fit.0.as_many;
    lower = fit.0.lower;
  },
  fit_in_both known more height us same.1 fit.1,
)
fit_in_both known more height (reads name ∷ us) same fit = (
  record { row_type = fit.0.row_type; stands = same.0 ∙ fit.0.stands },
  fit_in_both known more
      height us same.1 fit.1,
)

pub same_back : (known more : Catalog) (us : Uses) → Same known more us → Same more known us
same_back known more [] same = tt
same_back known more (u ∷ us) same = (sym same.0, same_back known more us same.1)

module _ (known more : Catalog) where
  front : (xs ys : Uses) → Same known more (xs ++ ys) → Same known more xs
  front [] ys s = tt
  front (x ∷ xs) ys s = (s.0, front xs ys s.1)

  back : (xs ys : Uses) → Same known more (xs ++ ys) → Same known more ys
  back [] ys s = s
  back (x ∷ xs) ys s = back xs ys s.1

  -- a tree that stands for the same where its uses do
  abbrev IsSame : {A B : Type 0} → (A → Uses) → (Catalog → A → B) → A → Type 0
  IsSame uses seen x = Same known more (uses x) → seen more x ≡ seen known x

  same_each : {A B : Type 0} (uses : A → Uses) (seen : Catalog → A → B)
      (xs : List ((x : A) × IsSame uses seen x)) →
      Same known more (joined (map uses (map (λ x. x.0) xs))) →
      map (seen more) (map (λ x. x.0) xs) ≡ map (seen known) (map (λ x. x.0) xs)
  same_each uses seen [] s = refl
  same_each uses seen (x ∷ xs) s =
      let rest = joined (map uses (map (λ y. y.0) xs)) in
      λ i. x.1 (front (uses x.0) rest s) i ∷ same_each uses seen xs (back (uses x.0) rest s) i

  abbrev ShownExpr : Type 0
  ShownExpr = (x : BoundExpr) × IsSame uses_in tree_of x

  abbrev ShownItem : Type 0
  ShownItem = (x : BoundFromItem) × IsSame uses_in_item item_of x

  abbrev ShownQuery : Type 0
  ShownQuery = (x : BoundQuery) × IsSame uses_in_query query_of x

  abbrev ShownRow : Type 0
  ShownRow = (x : BoundRow) × IsSame uses_in_row row_of x

  abbrev ShownSource : Type 0
  ShownSource = (x : BoundSource) × IsSame uses_in_source source_of x

  abbrev ShownLink : Type 0
  ShownLink = (x : BoundLink) × IsSame uses_in_link link_of x

  abbrev ShownGrouping : Type 0
  ShownGrouping = (x : BoundGrouping) × IsSame uses_in_grouping grouping_of x

  abbrev ShownSelect : Type 0
  ShownSelect = (x : BoundSelect) × IsSame uses_in_select select_of x

  abbrev expr_shown : BoundExpr-F ShownExpr ShownItem ShownQuery ShownRow ShownSource ShownLink
      ShownGrouping ShownSelect → ExprLayer
  expr_shown y = map-BoundExpr ShownExpr ShownItem ShownQuery ShownRow ShownSource ShownLink
      ShownGrouping ShownSelect BoundExpr BoundFromItem BoundQuery BoundRow BoundSource BoundLink
      BoundGrouping BoundSelect (λ x. x.0) (λ x. x.0) (λ x. x.0) (λ x. x.0) (λ x. x.0) (λ x. x.0)
      (λ x. x.0) (λ x. x.0) y

  abbrev item_shown : BoundFromItem-F ShownExpr ShownItem ShownQuery ShownRow ShownSource ShownLink
      ShownGrouping ShownSelect → ItemLayer
  item_shown y = map-BoundFromItem ShownExpr ShownItem ShownQuery ShownRow ShownSource ShownLink
      ShownGrouping ShownSelect BoundExpr BoundFromItem BoundQuery BoundRow BoundSource BoundLink
      BoundGrouping BoundSelect (λ x. x.0) (λ x. x.0) (λ x. x.0) (λ x. x.0) (λ x. x.0) (λ x. x.0)
      (λ x. x.0) (λ x. x.0) y

  abbrev query_shown : BoundQuery-F ShownExpr ShownItem ShownQuery ShownRow ShownSource ShownLink
      ShownGrouping ShownSelect → QueryLayer
  query_shown y = map-BoundQuery ShownExpr ShownItem ShownQuery ShownRow ShownSource ShownLink
      ShownGrouping ShownSelect BoundExpr BoundFromItem BoundQuery BoundRow BoundSource BoundLink
      BoundGrouping BoundSelect (λ x. x.0) (λ x. x.0) (λ x. x.0) (λ x. x.0) (λ x. x.0) (λ x. x.0)
      (λ x. x.0) (λ x. x.0) y

  abbrev row_shown : BoundRow-F ShownExpr ShownItem ShownQuery ShownRow ShownSource ShownLink
      ShownGrouping ShownSelect → RowLayer
  row_shown y = map-BoundRow ShownExpr ShownItem ShownQuery ShownRow ShownSource ShownLink
      ShownGrouping ShownSelect BoundExpr BoundFromItem BoundQuery BoundRow BoundSource BoundLink
      BoundGrouping BoundSelect (λ x. x.0) (λ x. x.0) (λ x. x.0) (λ x. x.0) (λ x. x.0) (λ x. x.0)
      (λ x. x.0) (λ x. x.0) y

  abbrev source_shown : BoundSource-F ShownExpr ShownItem ShownQuery ShownRow ShownSource ShownLink
      ShownGrouping ShownSelect → SourceLayer
  source_shown y = map-BoundSource ShownExpr ShownItem ShownQuery ShownRow ShownSource ShownLink
      ShownGrouping ShownSelect BoundExpr BoundFromItem BoundQuery BoundRow BoundSource BoundLink
      BoundGrouping BoundSelect (λ x. x.0) (λ x. x.0) (λ x. x.0) (λ x. x.0) (λ x. x.0) (λ x. x.0)
      (λ x. x.0) (λ x. x.0) y

  abbrev link_shown : BoundLink-F ShownExpr ShownItem ShownQuery ShownRow ShownSource ShownLink
      ShownGrouping ShownSelect → LinkLayer
  link_shown y = map-BoundLink ShownExpr ShownItem ShownQuery ShownRow ShownSource ShownLink
      ShownGrouping ShownSelect BoundExpr BoundFromItem BoundQuery BoundRow BoundSource BoundLink
      BoundGrouping BoundSelect (λ x. x.0) (λ x. x.0) (λ x. x.0) (λ x. x.0) (λ x. x.0) (λ x. x.0)
      (λ x. x.0) (λ x. x.0) y

  abbrev grouping_shown : BoundGrouping-F ShownExpr ShownItem ShownQuery ShownRow ShownSource
      ShownLink ShownGrouping ShownSelect → GroupingLayer
  grouping_shown y = map-BoundGrouping ShownExpr ShownItem ShownQuery ShownRow ShownSource ShownLink
      ShownGrouping ShownSelect BoundExpr BoundFromItem BoundQuery BoundRow BoundSource BoundLink
      BoundGrouping BoundSelect (λ x. x.0) (λ x. x.0) (λ x. x.0) (λ x. x.0) (λ x. x.0) (λ x. x.0)
      (λ x. x.0) (λ x. x.0) y

  abbrev select_shown : BoundSelect-F ShownExpr ShownItem ShownQuery ShownRow ShownSource ShownLink
      ShownGrouping ShownSelect → SelectLayer
  select_shown y = map-BoundSelect ShownExpr ShownItem ShownQuery ShownRow ShownSource ShownLink
      ShownGrouping ShownSelect BoundExpr BoundFromItem BoundQuery BoundRow BoundSource BoundLink
      BoundGrouping BoundSelect (λ x. x.0) (λ x. x.0) (λ x. x.0) (λ x. x.0) (λ x. x.0) (λ x. x.0)
      (λ x. x.0) (λ x. x.0) y

  -- ---- one layer

  expr_layer : (y : BoundExpr-F ShownExpr ShownItem ShownQuery ShownRow ShownSource ShownLink
      ShownGrouping ShownSelect) → Same known more (expr_uses (expr_used (expr_shown y))) →
      expr_step more (expr_seen more (expr_shown y)) ≡ expr_step known
      (expr_seen known (expr_shown y))
  expr_layer (BoundExpr-F.Literal v) s = refl
  expr_layer (BoundExpr-F.Column level i) s = refl
  expr_layer (BoundExpr-F.Variable i) s = refl
  expr_layer (BoundExpr-F.Operation word operands) s =
      ap (operated word) (same_each uses_in tree_of operands s)
  expr_layer (BoundExpr-F.Chain first rest) s =
      let others = joined (map uses_in_link (map (λ x. x.0) rest)) in
      λ i. Chain (first.1 (front (uses_in first.0) others s) i)
      (links (same_each uses_in_link link_of rest (back (uses_in first.0) others s) i))
  expr_layer (BoundExpr-F.Call name args) s =
      λ i. Call name (routine_in (s.0 i)) (exprs (same_each uses_in tree_of args s.1 i))
  expr_layer (BoundExpr-F.Single q) s = λ i. Single (q.1 s i)
  expr_layer (BoundExpr-F.Exists q) s = λ i. Exists (q.1 s i)
  expr_layer (BoundExpr-F.In e q) s = λ i. In (e.1 (front (uses_in e.0) (uses_in_query q.0) s) i)
      (q.1 (back (uses_in e.0) (uses_in_query q.0) s) i)

  item_layer : (y : BoundFromItem-F ShownExpr ShownItem ShownQuery ShownRow ShownSource ShownLink
      ShownGrouping ShownSelect) → Same known more (item_uses (item_used (item_shown y))) →
      item_step (item_seen more (item_shown y)) ≡ item_step (item_seen known (item_shown y))
  item_layer (BoundFromItem-F.Comma f) s = λ i. after_comma (f.1 s i)
  item_layer (BoundFromItem-F.Cross f) s = λ i. crossing (f.1 s i)
  item_layer (BoundFromItem-F.Inner f on) s =
      let tests = joined (map uses_in (map (λ x. x.0) on)) in
      λ i. matching (f.1 (front (uses_in_source f.0) tests s) i)
      (exprs (same_each uses_in tree_of on (back (uses_in_source f.0) tests s) i))
  item_layer (BoundFromItem-F.Left f on) s =
      let tests = joined (map uses_in (map (λ x. x.0) on)) in
      λ i. matching_or_nulls (f.1 (front (uses_in_source f.0) tests s) i)
      (exprs (same_each uses_in tree_of on (back (uses_in_source f.0) tests s) i))

  query_layer : (y : BoundQuery-F ShownExpr ShownItem ShownQuery ShownRow ShownSource ShownLink
      ShownGrouping ShownSelect) → Same known more (query_uses (query_used (query_shown y))) →
      query_step (query_seen more (query_shown y)) ≡ query_step (query_seen known (query_shown y))
  query_layer (BoundQuery-F.Select select) s = select.1 s
  query_layer (BoundQuery-F.Values rs) s = λ i. Values (rows (same_each uses_in_row row_of rs s i))
  query_layer (BoundQuery-F.Ordered q keys) s = λ i. Ordered (q.1 s i) keys

  row_layer : (y : BoundRow-F ShownExpr ShownItem ShownQuery ShownRow ShownSource ShownLink
      ShownGrouping ShownSelect) → Same known more (row_uses (row_used (row_shown y))) →
      row_step (row_seen more (row_shown y)) ≡ row_step (row_seen known (row_shown y))
  row_layer (BoundRow-F.Row es) s = ap exprs (same_each uses_in tree_of es s)

  source_layer : (y : BoundSource-F ShownExpr ShownItem ShownQuery ShownRow ShownSource ShownLink
      ShownGrouping ShownSelect) → Same known more (source_uses (source_used (source_shown y))) →
      source_step (source_seen more (source_shown y)) ≡ source_step
      (source_seen known (source_shown y))
  source_layer (BoundSource-F.Table name) s = refl
  source_layer (BoundSource-F.Derived q) s = λ i. Derived (q.1 s i)

  link_layer : (y : BoundLink-F ShownExpr ShownItem ShownQuery ShownRow ShownSource ShownLink
      ShownGrouping ShownSelect) → Same known more (link_uses (link_used (link_shown y))) →
      link_step (link_seen more (link_shown y)) ≡ link_step (link_seen known (link_shown y))
  link_layer y s = λ i. record { operator = y.operator; operand = y.operand.1 s i }

  grouping_layer : (y : BoundGrouping-F ShownExpr ShownItem ShownQuery ShownRow ShownSource
      ShownLink ShownGrouping ShownSelect) → Same known more
      (grouping_uses (grouping_used (grouping_shown y))) →
      grouping_step (grouping_seen more (grouping_shown y)) ≡ grouping_step
      (grouping_seen known (grouping_shown y))
  grouping_layer y s =
      let parts = joined (map uses_in (map (λ x. x.0) y.parts)) in
      let having = joined (map uses_in (map (λ x. x.0) y.having)) in
      λ i. record {
        keys = y.keys;
        parts = exprs (same_each uses_in tree_of y.parts (front parts having s) i);
        aggregates = y.aggregates;
        having = exprs (same_each uses_in tree_of y.having (back parts having s) i);
      }

  same_parts : (items conjuncts : List ShownExpr) (from : List ShownItem) (grouping : Uses)
      (g h : Option Grouping)
      → Same known more (joined (map uses_in_item (map (λ x. x.0) from)) ++
      (joined (map uses_in (map (λ x. x.0) conjuncts)) ++
      (grouping ++ joined (map uses_in (map (λ x. x.0) items)))))
      → (Same known more grouping → g ≡ h)
      → selected g (exprs (map (tree_of more) (map (λ x. x.0) items)))
      (from_of (map (item_of more) (map (λ x. x.0) from)))
      (exprs (map (tree_of more) (map (λ x. x.0) conjuncts)))
      ≡ selected h (exprs (map (tree_of known) (map (λ x. x.0) items)))
      (from_of (map (item_of known) (map (λ x. x.0) from)))
      (exprs (map (tree_of known) (map (λ x. x.0) conjuncts)))
  same_parts items conjuncts from grouping g h s same =
      let listed = joined (map uses_in (map (λ x. x.0) items)) in
      let tests = joined (map uses_in (map (λ x. x.0) conjuncts)) in
      let tables = joined (map uses_in_item (map (λ x. x.0) from)) in
      let past = back tables (tests ++ (grouping ++ listed)) s in
      let past_tests = back tests (grouping ++ listed) past in
      λ i. selected (same (front grouping listed past_tests) i)
      (exprs (same_each uses_in tree_of items (back grouping listed past_tests) i))
      (from_of (same_each uses_in_item item_of from (front tables (tests ++ (grouping ++ listed)) s)
      i)) (exprs (same_each uses_in tree_of conjuncts (front tests (grouping ++ listed) past)
      i))

  select_made : (items : List ShownExpr) (from : List ShownItem) (conjuncts : List ShownExpr)
      (g : Option ShownGrouping) →
      let y : BoundSelect-F ShownExpr ShownItem ShownQuery ShownRow ShownSource ShownLink
      ShownGrouping ShownSelect = record {
        items = items;
        from = from;
        conjuncts = conjuncts;
        grouping = g;
      } in
      Same known more (select_uses (select_used (select_shown y))) →
      select_step (select_seen more (select_shown y)) ≡ select_step
      (select_seen known (select_shown y))
  select_made items from conjuncts None s = same_parts items conjuncts from [] None None s
      (λ h. refl)
  select_made items from conjuncts (Some g) s =
      same_parts items conjuncts from (uses_in_grouping g.0) (Some (grouping_of more g.0))
      (Some (grouping_of known g.0)) s (λ h i. Some (g.1 h i))

  select_layer : (y : BoundSelect-F ShownExpr ShownItem ShownQuery ShownRow ShownSource ShownLink
      ShownGrouping ShownSelect) → Same known more (select_uses (select_used (select_shown y))) →
      select_step (select_seen more (select_shown y)) ≡ select_step
      (select_seen known (select_shown y))
  select_layer y s = select_made y.items y.from y.conjuncts y.grouping s

  -- ---- whole trees

  expr_whole : (y : BoundExpr-F ShownExpr ShownItem ShownQuery ShownRow ShownSource ShownLink
      ShownGrouping ShownSelect) → IsSame uses_in tree_of (roll-BoundExpr (expr_shown y))
  expr_whole y s = tree_of-at more (expr_shown y) ∙
      expr_layer y (subst (Same known more) (expr_uses-at (expr_shown y)) s) ∙
      sym (tree_of-at known (expr_shown y))

  item_whole : (y : BoundFromItem-F ShownExpr ShownItem ShownQuery ShownRow ShownSource ShownLink
      ShownGrouping ShownSelect) → IsSame uses_in_item item_of (roll-BoundFromItem (item_shown y))
  item_whole y s = item_of-at more (item_shown y) ∙
      item_layer y (subst (Same known more) (item_uses-at (item_shown y)) s) ∙
      sym (item_of-at known (item_shown y))

  query_whole : (y : BoundQuery-F ShownExpr ShownItem ShownQuery ShownRow ShownSource ShownLink
      ShownGrouping ShownSelect) → IsSame uses_in_query query_of (roll-BoundQuery (query_shown y))
  query_whole y s = query_of-at more (query_shown y) ∙
      query_layer y (subst (Same known more) (query_uses-at (query_shown y)) s) ∙
      sym (query_of-at known (query_shown y))

  row_whole : (y : BoundRow-F ShownExpr ShownItem ShownQuery ShownRow ShownSource ShownLink
      ShownGrouping ShownSelect) → IsSame uses_in_row row_of (roll-BoundRow (row_shown y))
  row_whole y s = row_of-at more (row_shown y) ∙
      row_layer y (subst (Same known more) (row_uses-at (row_shown y)) s) ∙
      sym (row_of-at known (row_shown y))

  source_whole : (y : BoundSource-F ShownExpr ShownItem ShownQuery ShownRow ShownSource ShownLink
      ShownGrouping ShownSelect) → IsSame uses_in_source source_of
      (roll-BoundSource (source_shown y))
  source_whole y s = source_of-at more (source_shown y) ∙
      source_layer y (subst (Same known more) (source_uses-at (source_shown y)) s) ∙
      sym (source_of-at known (source_shown y))

  link_whole : (y : BoundLink-F ShownExpr ShownItem ShownQuery ShownRow ShownSource ShownLink
      ShownGrouping ShownSelect) → IsSame uses_in_link link_of (roll-BoundLink (link_shown y))
  link_whole y s = link_of-at more (link_shown y) ∙
      link_layer y (subst (Same known more) (link_uses-at (link_shown y)) s) ∙
      sym (link_of-at known (link_shown y))

  grouping_whole : (y : BoundGrouping-F ShownExpr ShownItem ShownQuery ShownRow ShownSource
      ShownLink ShownGrouping ShownSelect) → IsSame uses_in_grouping grouping_of
      (roll-BoundGrouping (grouping_shown y))
  grouping_whole y s = grouping_of-at more (grouping_shown y) ∙
      grouping_layer y (subst (Same known more) (grouping_uses-at (grouping_shown y)) s) ∙
      sym (grouping_of-at known (grouping_shown y))

  select_whole : (y : BoundSelect-F ShownExpr ShownItem ShownQuery ShownRow ShownSource ShownLink
      ShownGrouping ShownSelect) → IsSame uses_in_select select_of
      (roll-BoundSelect (select_shown y))
  select_whole y s = select_of-at more (select_shown y) ∙
      select_layer y (subst (Same known more) (select_uses-at (select_shown y)) s) ∙
      sym (select_of-at known (select_shown y))

  pub same_tree : (e : BoundExpr) → Same known more (uses_in e) → tree_of more e ≡ tree_of known e
  same_tree =
      ind-BoundExpr (IsSame uses_in tree_of) (IsSame uses_in_item item_of)
      (IsSame uses_in_query query_of) (IsSame uses_in_row row_of)
      (IsSame uses_in_source source_of) (IsSame uses_in_link link_of)
      (IsSame uses_in_grouping grouping_of) (IsSame uses_in_select select_of)
      (λ x y is. subst (λ z. IsSame uses_in tree_of (roll-BoundExpr z)) is (expr_whole y))
      (λ x y is. subst (λ z. IsSame uses_in_item item_of (roll-BoundFromItem z)) is (item_whole y))
      (λ x y is. subst (λ z. IsSame uses_in_query query_of (roll-BoundQuery z)) is (query_whole y))
      (λ x y is. subst (λ z. IsSame uses_in_row row_of (roll-BoundRow z)) is (row_whole y))
      (λ x y is. subst (λ z. IsSame uses_in_source source_of (roll-BoundSource z)) is
      (source_whole y))
      (λ x y is. subst (λ z. IsSame uses_in_link link_of (roll-BoundLink z)) is (link_whole y))
      (λ x y is. subst (λ z. IsSame uses_in_grouping grouping_of (roll-BoundGrouping z)) is
      (grouping_whole y))
      (λ x y is. subst (λ z. IsSame uses_in_select select_of (roll-BoundSelect z)) is
      (select_whole y))

  pub same_query : (q : BoundQuery) → Same known more (uses_in_query q) →
      query_of more q ≡ query_of known q
  same_query =
      ind-BoundQuery (IsSame uses_in tree_of) (IsSame uses_in_item item_of)
      (IsSame uses_in_query query_of) (IsSame uses_in_row row_of)
      (IsSame uses_in_source source_of) (IsSame uses_in_link link_of)
      (IsSame uses_in_grouping grouping_of) (IsSame uses_in_select select_of)
      (λ x y is. subst (λ z. IsSame uses_in tree_of (roll-BoundExpr z)) is (expr_whole y))
      (λ x y is. subst (λ z. IsSame uses_in_item item_of (roll-BoundFromItem z)) is (item_whole y))
      (λ x y is. subst (λ z. IsSame uses_in_query query_of (roll-BoundQuery z)) is (query_whole y))
      (λ x y is. subst (λ z. IsSame uses_in_row row_of (roll-BoundRow z)) is (row_whole y))
      (λ x y is. subst (λ z. IsSame uses_in_source source_of (roll-BoundSource z)) is
      (source_whole y))
      (λ x y is. subst (λ z. IsSame uses_in_link link_of (roll-BoundLink z)) is (link_whole y))
      (λ x y is. subst (λ z. IsSame uses_in_grouping grouping_of (roll-BoundGrouping z)) is
      (grouping_whole y))
      (λ x y is. subst (λ z. IsSame uses_in_select select_of (roll-BoundSelect z)) is
      (select_whole y))
