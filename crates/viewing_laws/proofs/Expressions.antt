-- Expressions and queries stand for the same where the names that they call do: by induction over
-- the trees.
use Rattle.std.proofs.Common.{◌≡◌, ℕ, Bool, true, false, cond, List, [], ◌∷◌, ◌++◌, map}
use Rattle.std.proofs.Common.{Option, None, Some, refl, sym, ap, ◌∙◌, subst}
use Rattle.std.specs.List.{AllByRecursion}
use Rattle.std.specs.Str.{bytes_eq}
use Rattle.bound_trees.specs.declared.expr.BoundExpr.{BoundExpr, roll-BoundExpr}
use Rattle.bound_trees.specs.declared.expr.BoundLink.{BoundLink, roll-BoundLink}
use Rattle.bound_trees.specs.declared.query.BoundFromItem.{BoundFromItem, roll-BoundFromItem}
use Rattle.bound_trees.specs.declared.query.BoundGrouping.{BoundGrouping, roll-BoundGrouping}
use Rattle.bound_trees.specs.declared.query.BoundQuery.{BoundQuery, roll-BoundQuery}
use Rattle.bound_trees.specs.declared.query.BoundRow.{BoundRow, roll-BoundRow}
use Rattle.bound_trees.specs.declared.query.BoundSelect.{BoundSelect, roll-BoundSelect}
use Rattle.bound_trees.specs.declared.query.BoundSource.{BoundSource, roll-BoundSource}
use Rattle.bound_trees.specs.declared.expr.BoundExpr.TheOpen.{BoundExpr-F, BoundFromItem-F}
use Rattle.bound_trees.specs.declared.expr.BoundExpr.TheOpen.{BoundQuery-F, BoundRow-F}
use Rattle.bound_trees.specs.declared.expr.BoundExpr.TheOpen.{BoundSource-F, BoundLink-F}
use Rattle.bound_trees.specs.declared.expr.BoundExpr.TheOpen.{BoundGrouping-F, BoundSelect-F}
use Rattle.bound_trees.specs.declared.expr.BoundExpr.TheFolds.{map-BoundExpr, map-BoundFromItem}
use Rattle.bound_trees.specs.declared.expr.BoundExpr.TheFolds.{map-BoundQuery, map-BoundRow}
use Rattle.bound_trees.specs.declared.expr.BoundExpr.TheFolds.{map-BoundSource, map-BoundLink}
use Rattle.bound_trees.specs.declared.expr.BoundExpr.TheFolds.{map-BoundGrouping, map-BoundSelect}
use Rattle.bound_trees.specs.declared.expr.BoundExpr.TheFolds.{ind-BoundExpr, ind-BoundQuery}
use Rattle.rel_algebra.specs.Tree.{Expr, Exprs, Chain, Call, CallSelf, Single, Exists, In, Values}
use Rattle.rel_algebra.specs.Tree.{Ordered, Derived, Routine}
use Rattle.catalog_store.specs.Uses.{calls, reads, Uses, joined, expr_uses}
use Rattle.catalog_store.specs.Uses.{item_uses, query_uses, row_uses, source_uses, link_uses}
use Rattle.catalog_store.specs.Uses.{grouping_uses, select_uses, uses_in, uses_in_item}
use Rattle.catalog_store.specs.Uses.{uses_in_query, uses_in_row, uses_in_source, uses_in_link}
use Rattle.catalog_store.specs.Uses.{uses_in_grouping, uses_in_select}
use Rattle.catalog_store.specs.View.{Grouping, links, exprs, rows, operated, after_comma, crossing}
use Rattle.catalog_store.specs.View.{matching, matching_or_nulls, from_of, selected}
use Rattle.catalog_store.specs.View.{item_step, query_step, row_step, source_step, link_step}
use Rattle.catalog_store.specs.View.{grouping_step, select_step}
use Rattle.catalog_store.proofs.Laws.{ExprLayer, ItemLayer, QueryLayer, RowLayer, SourceLayer}
use Rattle.catalog_store.proofs.Laws.{LinkLayer, GroupingLayer, SelectLayer, expr_used, item_used}
use Rattle.catalog_store.proofs.Laws.{query_used, row_used, source_used, link_used, grouping_used}
use Rattle.catalog_store.proofs.Laws.{select_used, expr_uses-at, item_uses-at, query_uses-at}
use Rattle.catalog_store.proofs.Laws.{row_uses-at, source_uses-at, link_uses-at, grouping_uses-at}
use Rattle.catalog_store.proofs.Laws.{select_uses-at}
use Rattle.routine_views.specs.Views.{Known, Own, called, types_of, expr_node, expr_in, query_in}
use Rattle.viewing_laws.specs.Calls.{names_called}
use Rattle.viewing_laws.specs.Deciding.{Callee, itself, another, callee}
use Rattle.viewing_laws.proofs.Layers.{item_in, row_in, source_in, link_in, grouping_in, select_in}
use Rattle.viewing_laws.proofs.Layers.{expr_seen, item_seen, query_seen, row_seen, source_seen}
use Rattle.viewing_laws.proofs.Layers.{link_seen, grouping_seen, select_seen, expr_in-at}
use Rattle.viewing_laws.proofs.Layers.{item_in-at, query_in-at, row_in-at, source_in-at}
use Rattle.viewing_laws.proofs.Layers.{link_in-at, grouping_in-at, select_in-at}

-- ---- calls

-- a call of what is called
abbrev call_of : List ℕ → Exprs → Callee → Expr
call_of name args (itself parameters) = CallSelf (types_of parameters) args
call_of name args (another r) = Call name r args

called-callee : (m : List ℕ → Routine) (own : Option Own) (name : List ℕ) (args : Exprs) →
    called (record { routines = m; own = own }) name args ≡
    call_of name args (callee (record { routines = m; own = own }) name)
called-callee m None name args = refl
called-callee m (Some own) name args = by (bytes_eq own.name name)
  where
    by : (b : Bool) →
        cond b (CallSelf (types_of own.parameters) args) (Call name (m name) args) ≡
        call_of name args (cond b (itself own.parameters) (another (m name)))
    by true = refl
    by false = refl

called-both : (k l : Known) (name : List ℕ) → callee k name ≡ callee l name → {xs ys : Exprs} →
    xs ≡ ys → called k name xs ≡ called l name ys
called-both k l name e {xs} {ys} p =
    called-callee k.routines k.own name xs ∙ (λ i. call_of name (p i) (e i)) ∙
    sym (called-callee l.routines l.own name ys)

module _ (k l : Known) where
  -- what these uses call is the same
  abbrev Called : Uses → Type 0
  Called us = AllByRecursion (λ name. callee k name ≡ callee l name) (names_called us)

  front : (xs ys : Uses) → Called (xs ++ ys) → Called xs
  front [] ys s = tt
  front (calls name n ∷ xs) ys s = (s.0, front xs ys s.1)
  front (reads name ∷ xs) ys s = front xs ys s

  back : (xs ys : Uses) → Called (xs ++ ys) → Called ys
  back [] ys s = s
  back (calls name n ∷ xs) ys s = back xs ys s.1
  back (reads name ∷ xs) ys s = back xs ys s

  -- a tree that stands for the same where its uses do
  abbrev IsSame : {A B : Type 0} → (A → Uses) → (Known → A → B) → A → Type 0
  IsSame uses seen x = Called (uses x) → seen k x ≡ seen l x

  same_each : {A B : Type 0} (uses : A → Uses) (seen : Known → A → B)
      (xs : List ((x : A) × IsSame uses seen x)) →
      Called (joined (map uses (map (λ x. x.0) xs))) →
      map (seen k) (map (λ x. x.0) xs) ≡ map (seen l) (map (λ x. x.0) xs)
  same_each uses seen [] s = refl
  same_each uses seen (x ∷ xs) s =
      let rest = joined (map uses (map (λ y. y.0) xs)) in
      λ i. x.1 (front (uses x.0) rest s) i ∷ same_each uses seen xs (back (uses x.0) rest s) i

  abbrev ShownExpr : Type 0
  ShownExpr = (x : BoundExpr) × IsSame uses_in expr_in x

  abbrev ShownItem : Type 0
  ShownItem = (x : BoundFromItem) × IsSame uses_in_item item_in x

  abbrev ShownQuery : Type 0
  ShownQuery = (x : BoundQuery) × IsSame uses_in_query query_in x

  abbrev ShownRow : Type 0
  ShownRow = (x : BoundRow) × IsSame uses_in_row row_in x

  abbrev ShownSource : Type 0
  ShownSource = (x : BoundSource) × IsSame uses_in_source source_in x

  abbrev ShownLink : Type 0
  ShownLink = (x : BoundLink) × IsSame uses_in_link link_in x

  abbrev ShownGrouping : Type 0
  ShownGrouping = (x : BoundGrouping) × IsSame uses_in_grouping grouping_in x

  abbrev ShownSelect : Type 0
  ShownSelect = (x : BoundSelect) × IsSame uses_in_select select_in x

  abbrev expr_shown : BoundExpr-F ShownExpr ShownItem ShownQuery ShownRow ShownSource ShownLink
      ShownGrouping ShownSelect → ExprLayer
  expr_shown y = map-BoundExpr ShownExpr ShownItem ShownQuery ShownRow ShownSource ShownLink
      ShownGrouping ShownSelect BoundExpr BoundFromItem BoundQuery BoundRow BoundSource BoundLink
      BoundGrouping BoundSelect (λ x. x.0) (λ x. x.0) (λ x. x.0) (λ x. x.0) (λ x. x.0) (λ x. x.0)
      (λ x. x.0) (λ x. x.0) y

  abbrev item_shown : BoundFromItem-F ShownExpr ShownItem ShownQuery ShownRow ShownSource ShownLink
      ShownGrouping ShownSelect → ItemLayer
  item_shown y = map-BoundFromItem ShownExpr ShownItem ShownQuery ShownRow ShownSource ShownLink
      ShownGrouping ShownSelect BoundExpr BoundFromItem BoundQuery BoundRow BoundSource BoundLink
      BoundGrouping BoundSelect (λ x. x.0) (λ x. x.0) (λ x. x.0) (λ x. x.0) (λ x. x.0) (λ x. x.0)
      (λ x. x.0) (λ x. x.0) y

  abbrev query_shown : BoundQuery-F ShownExpr ShownItem ShownQuery ShownRow ShownSource ShownLink
      ShownGrouping ShownSelect → QueryLayer
  query_shown y = map-BoundQuery ShownExpr ShownItem ShownQuery ShownRow ShownSource ShownLink
      ShownGrouping ShownSelect BoundExpr BoundFromItem BoundQuery BoundRow BoundSource BoundLink
      BoundGrouping BoundSelect (λ x. x.0) (λ x. x.0) (λ x. x.0) (λ x. x.0) (λ x. x.0) (λ x. x.0)
      (λ x. x.0) (λ x. x.0) y

  abbrev row_shown : BoundRow-F ShownExpr ShownItem ShownQuery ShownRow ShownSource ShownLink
      ShownGrouping ShownSelect → RowLayer
  row_shown y = map-BoundRow ShownExpr ShownItem ShownQuery ShownRow ShownSource ShownLink
      ShownGrouping ShownSelect BoundExpr BoundFromItem BoundQuery BoundRow BoundSource BoundLink
      BoundGrouping BoundSelect (λ x. x.0) (λ x. x.0) (λ x. x.0) (λ x. x.0) (λ x. x.0) (λ x. x.0)
      (λ x. x.0) (λ x. x.0) y

  abbrev source_shown : BoundSource-F ShownExpr ShownItem ShownQuery ShownRow ShownSource ShownLink
      ShownGrouping ShownSelect → SourceLayer
  source_shown y = map-BoundSource ShownExpr ShownItem ShownQuery ShownRow ShownSource ShownLink
      ShownGrouping ShownSelect BoundExpr BoundFromItem BoundQuery BoundRow BoundSource BoundLink
      BoundGrouping BoundSelect (λ x. x.0) (λ x. x.0) (λ x. x.0) (λ x. x.0) (λ x. x.0) (λ x. x.0)
      (λ x. x.0) (λ x. x.0) y

  abbrev link_shown : BoundLink-F ShownExpr ShownItem ShownQuery ShownRow ShownSource ShownLink
      ShownGrouping ShownSelect → LinkLayer
  link_shown y = map-BoundLink ShownExpr ShownItem ShownQuery ShownRow ShownSource ShownLink
      ShownGrouping ShownSelect BoundExpr BoundFromItem BoundQuery BoundRow BoundSource BoundLink
      BoundGrouping BoundSelect (λ x. x.0) (λ x. x.0) (λ x. x.0) (λ x. x.0) (λ x. x.0) (λ x. x.0)
      (λ x. x.0) (λ x. x.0) y

  abbrev grouping_shown : BoundGrouping-F ShownExpr ShownItem ShownQuery ShownRow ShownSource
      ShownLink ShownGrouping ShownSelect → GroupingLayer
  grouping_shown y = map-BoundGrouping ShownExpr ShownItem ShownQuery ShownRow ShownSource ShownLink
      ShownGrouping ShownSelect BoundExpr BoundFromItem BoundQuery BoundRow BoundSource BoundLink
      BoundGrouping BoundSelect (λ x. x.0) (λ x. x.0) (λ x. x.0) (λ x. x.0) (λ x. x.0) (λ x. x.0)
      (λ x. x.0) (λ x. x.0) y

  abbrev select_shown : BoundSelect-F ShownExpr ShownItem ShownQuery ShownRow ShownSource ShownLink
      ShownGrouping ShownSelect → SelectLayer
  select_shown y = map-BoundSelect ShownExpr ShownItem ShownQuery ShownRow ShownSource ShownLink
      ShownGrouping ShownSelect BoundExpr BoundFromItem BoundQuery BoundRow BoundSource BoundLink
      BoundGrouping BoundSelect (λ x. x.0) (λ x. x.0) (λ x. x.0) (λ x. x.0) (λ x. x.0) (λ x. x.0)
      (λ x. x.0) (λ x. x.0) y

  -- ---- one layer

  expr_layer : (y : BoundExpr-F ShownExpr ShownItem ShownQuery ShownRow ShownSource ShownLink
      ShownGrouping ShownSelect) → Called (expr_uses (expr_used (expr_shown y))) →
      expr_node k (expr_seen k (expr_shown y)) ≡ expr_node l
      (expr_seen l (expr_shown y))
  expr_layer (BoundExpr-F.Literal v) s = refl
  expr_layer (BoundExpr-F.Column level i) s = refl
  expr_layer (BoundExpr-F.Variable i) s = refl
  expr_layer (BoundExpr-F.Operation word operands) s =
      ap (operated word) (same_each uses_in expr_in operands s)
  expr_layer (BoundExpr-F.Chain first rest) s =
      let others = joined (map uses_in_link (map (λ x. x.0) rest)) in
      λ i. Chain (first.1 (front (uses_in first.0) others s) i)
      (links (same_each uses_in_link link_in rest (back (uses_in first.0) others s) i))
  expr_layer (BoundExpr-F.Call name args) s =
      called-both k l name s.0 (ap exprs (same_each uses_in expr_in args s.1))
  expr_layer (BoundExpr-F.Single q) s = λ i. Single (q.1 s i)
  expr_layer (BoundExpr-F.Exists q) s = λ i. Exists (q.1 s i)
  expr_layer (BoundExpr-F.In e q) s = λ i. In (e.1 (front (uses_in e.0) (uses_in_query q.0) s) i)
      (q.1 (back (uses_in e.0) (uses_in_query q.0) s) i)

  item_layer : (y : BoundFromItem-F ShownExpr ShownItem ShownQuery ShownRow ShownSource ShownLink
      ShownGrouping ShownSelect) → Called (item_uses (item_used (item_shown y))) →
      item_step (item_seen k (item_shown y)) ≡ item_step (item_seen l (item_shown y))
  item_layer (BoundFromItem-F.Comma f) s = λ i. after_comma (f.1 s i)
  item_layer (BoundFromItem-F.Cross f) s = λ i. crossing (f.1 s i)
  item_layer (BoundFromItem-F.Inner f on) s =
      let tests = joined (map uses_in (map (λ x. x.0) on)) in
      λ i. matching (f.1 (front (uses_in_source f.0) tests s) i)
      (exprs (same_each uses_in expr_in on (back (uses_in_source f.0) tests s) i))
  item_layer (BoundFromItem-F.Left f on) s =
      let tests = joined (map uses_in (map (λ x. x.0) on)) in
      λ i. matching_or_nulls (f.1 (front (uses_in_source f.0) tests s) i)
      (exprs (same_each uses_in expr_in on (back (uses_in_source f.0) tests s) i))

  query_layer : (y : BoundQuery-F ShownExpr ShownItem ShownQuery ShownRow ShownSource ShownLink
      ShownGrouping ShownSelect) → Called (query_uses (query_used (query_shown y))) →
      query_step (query_seen k (query_shown y)) ≡ query_step (query_seen l (query_shown y))
  query_layer (BoundQuery-F.Select select) s = select.1 s
  query_layer (BoundQuery-F.Values rs) s = λ i. Values (rows (same_each uses_in_row row_in rs s i))
  query_layer (BoundQuery-F.Ordered q keys) s = λ i. Ordered (q.1 s i) keys

  row_layer : (y : BoundRow-F ShownExpr ShownItem ShownQuery ShownRow ShownSource ShownLink
      ShownGrouping ShownSelect) → Called (row_uses (row_used (row_shown y))) →
      row_step (row_seen k (row_shown y)) ≡ row_step (row_seen l (row_shown y))
  row_layer (BoundRow-F.Row es) s = ap exprs (same_each uses_in expr_in es s)

  source_layer : (y : BoundSource-F ShownExpr ShownItem ShownQuery ShownRow ShownSource ShownLink
      ShownGrouping ShownSelect) → Called (source_uses (source_used (source_shown y))) →
      source_step (source_seen k (source_shown y)) ≡ source_step
      (source_seen l (source_shown y))
  source_layer (BoundSource-F.Table name) s = refl
  source_layer (BoundSource-F.Derived q) s = λ i. Derived (q.1 s i)

  link_layer : (y : BoundLink-F ShownExpr ShownItem ShownQuery ShownRow ShownSource ShownLink
      ShownGrouping ShownSelect) → Called (link_uses (link_used (link_shown y))) →
      link_step (link_seen k (link_shown y)) ≡ link_step (link_seen l (link_shown y))
  link_layer y s = λ i. record { operator = y.operator; operand = y.operand.1 s i }

  grouping_layer : (y : BoundGrouping-F ShownExpr ShownItem ShownQuery ShownRow ShownSource
      ShownLink ShownGrouping ShownSelect) → Called
      (grouping_uses (grouping_used (grouping_shown y))) →
      grouping_step (grouping_seen k (grouping_shown y)) ≡ grouping_step
      (grouping_seen l (grouping_shown y))
  grouping_layer y s =
      let parts = joined (map uses_in (map (λ x. x.0) y.parts)) in
      let having = joined (map uses_in (map (λ x. x.0) y.having)) in
      λ i. record {
        keys = y.keys;
        parts = exprs (same_each uses_in expr_in y.parts (front parts having s) i);
        aggregates = y.aggregates;
        having = exprs (same_each uses_in expr_in y.having (back parts having s) i);
      }

  same_parts : (items conjuncts : List ShownExpr) (from : List ShownItem) (grouping : Uses)
      (g h : Option Grouping)
      → Called (joined (map uses_in_item (map (λ x. x.0) from)) ++
      (joined (map uses_in (map (λ x. x.0) conjuncts)) ++
      (grouping ++ joined (map uses_in (map (λ x. x.0) items)))))
      → (Called grouping → g ≡ h)
      → selected g (exprs (map (expr_in k) (map (λ x. x.0) items)))
      (from_of (map (item_in k) (map (λ x. x.0) from)))
      (exprs (map (expr_in k) (map (λ x. x.0) conjuncts)))
      ≡ selected h (exprs (map (expr_in l) (map (λ x. x.0) items)))
      (from_of (map (item_in l) (map (λ x. x.0) from)))
      (exprs (map (expr_in l) (map (λ x. x.0) conjuncts)))
  same_parts items conjuncts from grouping g h s same =
      let listed = joined (map uses_in (map (λ x. x.0) items)) in
      let tests = joined (map uses_in (map (λ x. x.0) conjuncts)) in
      let tables = joined (map uses_in_item (map (λ x. x.0) from)) in
      let past = back tables (tests ++ (grouping ++ listed)) s in
      let past_tests = back tests (grouping ++ listed) past in
      λ i. selected (same (front grouping listed past_tests) i)
      (exprs (same_each uses_in expr_in items (back grouping listed past_tests) i))
      (from_of (same_each uses_in_item item_in from (front tables (tests ++ (grouping ++ listed)) s)
      i)) (exprs (same_each uses_in expr_in conjuncts (front tests (grouping ++ listed) past)
      i))

  select_made : (items : List ShownExpr) (from : List ShownItem) (conjuncts : List ShownExpr)
      (g : Option ShownGrouping) →
      let y : BoundSelect-F ShownExpr ShownItem ShownQuery ShownRow ShownSource ShownLink
      ShownGrouping ShownSelect = record {
        items = items;
        from = from;
        conjuncts = conjuncts;
        grouping = g;
      } in
      Called (select_uses (select_used (select_shown y))) →
      select_step (select_seen k (select_shown y)) ≡ select_step
      (select_seen l (select_shown y))
  select_made items from conjuncts None s = same_parts items conjuncts from [] None None s
      (λ h. refl)
  select_made items from conjuncts (Some g) s =
      same_parts items conjuncts from (uses_in_grouping g.0) (Some (grouping_in k g.0))
      (Some (grouping_in l g.0)) s (λ h i. Some (g.1 h i))

  select_layer : (y : BoundSelect-F ShownExpr ShownItem ShownQuery ShownRow ShownSource ShownLink
      ShownGrouping ShownSelect) → Called (select_uses (select_used (select_shown y))) →
      select_step (select_seen k (select_shown y)) ≡ select_step
      (select_seen l (select_shown y))
  select_layer y s = select_made y.items y.from y.conjuncts y.grouping s

  -- ---- whole trees

  expr_whole : (y : BoundExpr-F ShownExpr ShownItem ShownQuery ShownRow ShownSource ShownLink
      ShownGrouping ShownSelect) → IsSame uses_in expr_in (roll-BoundExpr (expr_shown y))
  expr_whole y s = expr_in-at k (expr_shown y) ∙
      expr_layer y (subst (Called) (expr_uses-at (expr_shown y)) s) ∙
      sym (expr_in-at l (expr_shown y))

  item_whole : (y : BoundFromItem-F ShownExpr ShownItem ShownQuery ShownRow ShownSource ShownLink
      ShownGrouping ShownSelect) → IsSame uses_in_item item_in (roll-BoundFromItem (item_shown y))
  item_whole y s = item_in-at k (item_shown y) ∙
      item_layer y (subst (Called) (item_uses-at (item_shown y)) s) ∙
      sym (item_in-at l (item_shown y))

  query_whole : (y : BoundQuery-F ShownExpr ShownItem ShownQuery ShownRow ShownSource ShownLink
      ShownGrouping ShownSelect) → IsSame uses_in_query query_in (roll-BoundQuery (query_shown y))
  query_whole y s = query_in-at k (query_shown y) ∙
      query_layer y (subst (Called) (query_uses-at (query_shown y)) s) ∙
      sym (query_in-at l (query_shown y))

  row_whole : (y : BoundRow-F ShownExpr ShownItem ShownQuery ShownRow ShownSource ShownLink
      ShownGrouping ShownSelect) → IsSame uses_in_row row_in (roll-BoundRow (row_shown y))
  row_whole y s = row_in-at k (row_shown y) ∙
      row_layer y (subst (Called) (row_uses-at (row_shown y)) s) ∙
      sym (row_in-at l (row_shown y))

  source_whole : (y : BoundSource-F ShownExpr ShownItem ShownQuery ShownRow ShownSource ShownLink
      ShownGrouping ShownSelect) → IsSame uses_in_source source_in
      (roll-BoundSource (source_shown y))
  source_whole y s = source_in-at k (source_shown y) ∙
      source_layer y (subst (Called) (source_uses-at (source_shown y)) s) ∙
      sym (source_in-at l (source_shown y))

  link_whole : (y : BoundLink-F ShownExpr ShownItem ShownQuery ShownRow ShownSource ShownLink
      ShownGrouping ShownSelect) → IsSame uses_in_link link_in (roll-BoundLink (link_shown y))
  link_whole y s = link_in-at k (link_shown y) ∙
      link_layer y (subst (Called) (link_uses-at (link_shown y)) s) ∙
      sym (link_in-at l (link_shown y))

  grouping_whole : (y : BoundGrouping-F ShownExpr ShownItem ShownQuery ShownRow ShownSource
      ShownLink ShownGrouping ShownSelect) → IsSame uses_in_grouping grouping_in
      (roll-BoundGrouping (grouping_shown y))
  grouping_whole y s = grouping_in-at k (grouping_shown y) ∙
      grouping_layer y (subst (Called) (grouping_uses-at (grouping_shown y)) s) ∙
      sym (grouping_in-at l (grouping_shown y))

  select_whole : (y : BoundSelect-F ShownExpr ShownItem ShownQuery ShownRow ShownSource ShownLink
      ShownGrouping ShownSelect) → IsSame uses_in_select select_in
      (roll-BoundSelect (select_shown y))
  select_whole y s = select_in-at k (select_shown y) ∙
      select_layer y (subst (Called) (select_uses-at (select_shown y)) s) ∙
      sym (select_in-at l (select_shown y))

  pub expr-same : (e : BoundExpr) → Called (uses_in e) → expr_in k e ≡ expr_in l e
  expr-same =
      ind-BoundExpr (IsSame uses_in expr_in) (IsSame uses_in_item item_in)
      (IsSame uses_in_query query_in) (IsSame uses_in_row row_in)
      (IsSame uses_in_source source_in) (IsSame uses_in_link link_in)
      (IsSame uses_in_grouping grouping_in) (IsSame uses_in_select select_in)
      (λ x y is. subst (λ z. IsSame uses_in expr_in (roll-BoundExpr z)) is (expr_whole y))
      (λ x y is. subst (λ z. IsSame uses_in_item item_in (roll-BoundFromItem z)) is (item_whole y))
      (λ x y is. subst (λ z. IsSame uses_in_query query_in (roll-BoundQuery z)) is (query_whole y))
      (λ x y is. subst (λ z. IsSame uses_in_row row_in (roll-BoundRow z)) is (row_whole y))
      (λ x y is. subst (λ z. IsSame uses_in_source source_in (roll-BoundSource z)) is
      (source_whole y))
      (λ x y is. subst (λ z. IsSame uses_in_link link_in (roll-BoundLink z)) is (link_whole y))
      (λ x y is. subst (λ z. IsSame uses_in_grouping grouping_in (roll-BoundGrouping z)) is
      (grouping_whole y))
      (λ x y is. subst (λ z. IsSame uses_in_select select_in (roll-BoundSelect z)) is
      (select_whole y))

  pub query-same : (q : BoundQuery) → Called (uses_in_query q) →
      query_in k q ≡ query_in l q
  query-same =
      ind-BoundQuery (IsSame uses_in expr_in) (IsSame uses_in_item item_in)
      (IsSame uses_in_query query_in) (IsSame uses_in_row row_in)
      (IsSame uses_in_source source_in) (IsSame uses_in_link link_in)
      (IsSame uses_in_grouping grouping_in) (IsSame uses_in_select select_in)
      (λ x y is. subst (λ z. IsSame uses_in expr_in (roll-BoundExpr z)) is (expr_whole y))
      (λ x y is. subst (λ z. IsSame uses_in_item item_in (roll-BoundFromItem z)) is (item_whole y))
      (λ x y is. subst (λ z. IsSame uses_in_query query_in (roll-BoundQuery z)) is (query_whole y))
      (λ x y is. subst (λ z. IsSame uses_in_row row_in (roll-BoundRow z)) is (row_whole y))
      (λ x y is. subst (λ z. IsSame uses_in_source source_in (roll-BoundSource z)) is
      (source_whole y))
      (λ x y is. subst (λ z. IsSame uses_in_link link_in (roll-BoundLink z)) is (link_whole y))
      (λ x y is. subst (λ z. IsSame uses_in_grouping grouping_in (roll-BoundGrouping z)) is
      (grouping_whole y))
      (λ x y is. subst (λ z. IsSame uses_in_select select_in (roll-BoundSelect z)) is
      (select_whole y))
