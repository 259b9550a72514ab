-- Well typed expressions and queries call what is a function around them: by induction over the
-- trees.
use Rattle.std.proofs.Common.{◌≡◌, ℕ, true, List, [], ◌∷◌, ◌++◌, map, Option, None}
use Rattle.std.proofs.Common.{Some, refl, sym, ◌∙◌, subst}
use Rattle.std.specs.List.{AllByRecursion}
use Rattle.bound_trees.specs.declared.expr.BoundExpr.{BoundExpr, roll-BoundExpr}
use Rattle.bound_trees.specs.declared.expr.BoundLink.{BoundLink, roll-BoundLink}
use Rattle.bound_trees.specs.declared.query.BoundFromItem.{BoundFromItem, roll-BoundFromItem}
use Rattle.bound_trees.specs.declared.query.BoundGrouping.{BoundGrouping, roll-BoundGrouping}
use Rattle.bound_trees.specs.declared.query.BoundQuery.{BoundQuery, roll-BoundQuery}
use Rattle.bound_trees.specs.declared.query.BoundRow.{BoundRow, roll-BoundRow}
use Rattle.bound_trees.specs.declared.query.BoundSelect.{BoundSelect, roll-BoundSelect}
use Rattle.bound_trees.specs.declared.query.BoundSource.{BoundSource, roll-BoundSource}
use Rattle.bound_trees.specs.declared.expr.BoundExpr.TheOpen.{BoundExpr-F, BoundFromItem-F}
use Rattle.bound_trees.specs.declared.expr.BoundExpr.TheOpen.{BoundQuery-F, BoundRow-F}
use Rattle.bound_trees.specs.declared.expr.BoundExpr.TheOpen.{BoundSource-F, BoundLink-F}
use Rattle.bound_trees.specs.declared.expr.BoundExpr.TheOpen.{BoundGrouping-F, BoundSelect-F}
use Rattle.bound_trees.specs.declared.expr.BoundExpr.TheFolds.{map-BoundExpr, map-BoundFromItem}
use Rattle.bound_trees.specs.declared.expr.BoundExpr.TheFolds.{map-BoundQuery, map-BoundRow}
use Rattle.bound_trees.specs.declared.expr.BoundExpr.TheFolds.{map-BoundSource, map-BoundLink}
use Rattle.bound_trees.specs.declared.expr.BoundExpr.TheFolds.{map-BoundGrouping, map-BoundSelect}
use Rattle.bound_trees.specs.declared.expr.BoundExpr.TheFolds.{ind-BoundExpr, ind-BoundQuery}
use Rattle.bind_kinds.specs.declared.kind.Kind.{Kind}
use Rattle.bind_kinds.specs.Chains.{kind_of_operator}
use Rattle.catalog_store.specs.declared.entry.FunctionHead.{FunctionHead}
use Rattle.catalog_store.specs.Uses.{calls, reads, Uses, joined, expr_uses, item_uses, query_uses}
use Rattle.catalog_store.specs.Uses.{row_uses, source_uses, link_uses, grouping_uses, select_uses}
use Rattle.catalog_store.specs.Uses.{uses_in, uses_in_item, uses_in_query, uses_in_row}
use Rattle.catalog_store.specs.Uses.{uses_in_source, uses_in_link, uses_in_grouping, uses_in_select}
use Rattle.catalog_store.proofs.Laws.{ExprLayer, ItemLayer, QueryLayer, RowLayer, SourceLayer}
use Rattle.catalog_store.proofs.Laws.{LinkLayer, GroupingLayer, SelectLayer, expr_used, item_used}
use Rattle.catalog_store.proofs.Laws.{query_used, row_used, source_used, link_used, grouping_used}
use Rattle.catalog_store.proofs.Laws.{select_used, expr_uses-at, item_uses-at, query_uses-at}
use Rattle.catalog_store.proofs.Laws.{row_uses-at, source_uses-at, link_uses-at, grouping_uses-at}
use Rattle.catalog_store.proofs.Laws.{select_uses-at}
use Rattle.typing_trees.specs.Kinds.{operator_allows}
use Rattle.typing_trees.specs.Around.{Around, with_row, then}
use Rattle.typing_trees.specs.Queries.{ExprKind, FromRow, FromKinds, LinkKind}
use Rattle.typing_trees.specs.Queries.{GroupKinds, kinds_of, is_true_value, tests, chain_kind}
use Rattle.typing_trees.specs.Queries.{only_column, call_kind, row_kinds, more_rows, kinds_of_rows}
use Rattle.typing_trees.specs.Queries.{nothing_joined, joined_with, whole_row, items_joined}
use Rattle.typing_trees.specs.Queries.{group_row, list_kinds, selected, expr_kind, item_kinds}
use Rattle.typing_trees.specs.Queries.{query_kinds, row_exprs, source_kinds, link_kind, group_kinds}
use Rattle.typing_trees.specs.Queries.{select_kinds, kind_of, kinds_of_item, kinds_of_query}
use Rattle.typing_trees.specs.Queries.{exprs_of_row, kinds_of_source, kind_of_link}
use Rattle.typing_trees.specs.Queries.{kinds_of_grouping, kinds_of_select}
use Rattle.typing_trees.proofs.Laws.{expr_kinded, item_kinded, query_kinded, row_kinded, source_kinded}
use Rattle.typing_trees.proofs.Laws.{link_kinded, grouping_kinded, select_kinded, kind_of-at}
use Rattle.typing_trees.proofs.Laws.{kinds_of_item-at, kinds_of_query-at, exprs_of_row-at}
use Rattle.typing_trees.proofs.Laws.{kinds_of_source-at, kind_of_link-at, kinds_of_grouping-at}
use Rattle.typing_trees.proofs.Laws.{kinds_of_select-at}
use Rattle.typing_plans.proofs.Laws.{pair}
use Rattle.typing_plans.proofs.Laws.{then_some, only_some, value_some, halves}
use Rattle.viewing_laws.specs.Calls.{names_called}

-- a call that has a kind is of a function that is there
head_some : (o : Option FunctionHead) (ks : List Kind) (k : Kind) → call_kind o ks ≡ Some k →
    (h : FunctionHead) × (o ≡ Some h)
head_some None ks k h = absurd cc
head_some (Some f) ks k h = (f, refl)

module _ (F : List ℕ → Option FunctionHead) (P : List ℕ → Type 0)
    (good : (name : List ℕ) (h : FunctionHead) → F name ≡ Some h → P name) where
  -- what these uses call is such
  abbrev Called : Uses → Type 0
  Called us = AllByRecursion P (names_called us)

  one-after : (xs ys : Uses) → Called xs → Called ys → Called (xs ++ ys)
  one-after [] ys s t = t
  one-after (calls name n ∷ xs) ys s t = (s.0, one-after xs ys s.1 t)
  one-after (reads name ∷ xs) ys s t = one-after xs ys s t

  -- where these are the functions around, what has a kind calls such
  abbrev Good : {K : Type 0} → (Around → Option K) → Uses → Type 0
  Good {K} seen us = (a : Around) (k : K) → a.functions ≡ F → seen a ≡ Some k → Called us

  -- the same of an item of FROM, which goes on with a row
  abbrev GoodItem : FromKinds → Uses → Type 0
  GoodItem seen us = (a : Around) (row more : FromRow) → a.functions ≡ F →
      seen a row ≡ Some more → Called us

  abbrev GoodRow : List ExprKind → Uses → Type 0
  GoodRow es us = Good (λ a. kinds_of a es) us

  abbrev GoodLink : LinkKind → Uses → Type 0
  GoodLink l us = Good l.operand us

  -- the parts stand over one row, and HAVING over another
  abbrev GoodGroup : GroupKinds → Uses → Type 0
  GoodGroup g us = (a b : Around) (ks : List Kind) → a.functions ≡ F → b.functions ≡ F →
      kinds_of a g.parts ≡ Some ks → tests b g.having ≡ true → Called us

  abbrev ShownExpr : Type 0
  ShownExpr = (x : BoundExpr) × Good (kind_of x) (uses_in x)

  abbrev ShownItem : Type 0
  ShownItem = (x : BoundFromItem) × GoodItem (kinds_of_item x) (uses_in_item x)

  abbrev ShownQuery : Type 0
  ShownQuery = (x : BoundQuery) × Good (kinds_of_query x) (uses_in_query x)

  abbrev ShownRow : Type 0
  ShownRow = (x : BoundRow) × GoodRow (exprs_of_row x) (uses_in_row x)

  abbrev ShownSource : Type 0
  ShownSource = (x : BoundSource) × Good (kinds_of_source x) (uses_in_source x)

  abbrev ShownLink : Type 0
  ShownLink = (x : BoundLink) × GoodLink (kind_of_link x) (uses_in_link x)

  abbrev ShownGrouping : Type 0
  ShownGrouping = (x : BoundGrouping) × GoodGroup (kinds_of_grouping x) (uses_in_grouping x)

  abbrev ShownSelect : Type 0
  ShownSelect = (x : BoundSelect) × Good (kinds_of_select x) (uses_in_select x)

  abbrev expr_shown : BoundExpr-F ShownExpr ShownItem ShownQuery ShownRow ShownSource ShownLink
      ShownGrouping ShownSelect → ExprLayer
  expr_shown y = map-BoundExpr ShownExpr ShownItem ShownQuery ShownRow ShownSource ShownLink
      ShownGrouping ShownSelect BoundExpr BoundFromItem BoundQuery BoundRow BoundSource BoundLink
      BoundGrouping BoundSelect (λ x. x.0) (λ x. x.0) (λ x. x.0) (λ x. x.0) (λ x. x.0) (λ x. x.0)
      (λ x. x.0) (λ x. x.0) y

  abbrev item_shown : BoundFromItem-F ShownExpr ShownItem ShownQuery ShownRow ShownSource ShownLink
      ShownGrouping ShownSelect → ItemLayer
  item_shown y = map-BoundFromItem ShownExpr ShownItem ShownQuery ShownRow ShownSource ShownLink
      ShownGrouping ShownSelect BoundExpr BoundFromItem BoundQuery BoundRow BoundSource BoundLink
      BoundGrouping BoundSelect (λ x. x.0) (λ x. x.0) (λ x. x.0) (λ x. x.0) (λ x. x.0) (λ x. x.0)
      (λ x. x.0) (λ x. x.0) y

  abbrev query_shown : BoundQuery-F ShownExpr ShownItem ShownQuery ShownRow ShownSource ShownLink
      ShownGrouping ShownSelect → QueryLayer
  query_shown y = map-BoundQuery ShownExpr ShownItem ShownQuery ShownRow ShownSource ShownLink
      ShownGrouping ShownSelect BoundExpr BoundFromItem BoundQuery BoundRow BoundSource BoundLink
      BoundGrouping BoundSelect (λ x. x.0) (λ x. x.0) (λ x. x.0) (λ x. x.0) (λ x. x.0) (λ x. x.0)
      (λ x. x.0) (λ x. x.0) y

  abbrev row_shown : BoundRow-F ShownExpr ShownItem ShownQuery ShownRow ShownSource ShownLink
      ShownGrouping ShownSelect → RowLayer
  row_shown y = map-BoundRow ShownExpr ShownItem ShownQuery ShownRow ShownSource ShownLink
      ShownGrouping ShownSelect BoundExpr BoundFromItem BoundQuery BoundRow BoundSource BoundLink
      BoundGrouping BoundSelect (λ x. x.0) (λ x. x.0) (λ x. x.0) (λ x. x.0) (λ x. x.0) (λ x. x.0)
      (λ x. x.0) (λ x. x.0) y

  abbrev source_shown : BoundSource-F ShownExpr ShownItem ShownQuery ShownRow ShownSource ShownLink
      ShownGrouping ShownSelect → SourceLayer
  source_shown y = map-BoundSource ShownExpr ShownItem ShownQuery ShownRow ShownSource ShownLink
      ShownGrouping ShownSelect BoundExpr BoundFromItem BoundQuery BoundRow BoundSource BoundLink
      BoundGrouping BoundSelect (λ x. x.0) (λ x. x.0) (λ x. x.0) (λ x. x.0) (λ x. x.0) (λ x. x.0)
      (λ x. x.0) (λ x. x.0) y

  abbrev link_shown : BoundLink-F ShownExpr ShownItem ShownQuery ShownRow ShownSource ShownLink
      ShownGrouping ShownSelect → LinkLayer
  link_shown y = map-BoundLink ShownExpr ShownItem ShownQuery ShownRow ShownSource ShownLink
      ShownGrouping ShownSelect BoundExpr BoundFromItem BoundQuery BoundRow BoundSource BoundLink
      BoundGrouping BoundSelect (λ x. x.0) (λ x. x.0) (λ x. x.0) (λ x. x.0) (λ x. x.0) (λ x. x.0)
      (λ x. x.0) (λ x. x.0) y

  abbrev grouping_shown : BoundGrouping-F ShownExpr ShownItem ShownQuery ShownRow ShownSource
      ShownLink ShownGrouping ShownSelect → GroupingLayer
  grouping_shown y = map-BoundGrouping ShownExpr ShownItem ShownQuery ShownRow ShownSource ShownLink
      ShownGrouping ShownSelect BoundExpr BoundFromItem BoundQuery BoundRow BoundSource BoundLink
      BoundGrouping BoundSelect (λ x. x.0) (λ x. x.0) (λ x. x.0) (λ x. x.0) (λ x. x.0) (λ x. x.0)
      (λ x. x.0) (λ x. x.0) y

  abbrev select_shown : BoundSelect-F ShownExpr ShownItem ShownQuery ShownRow ShownSource ShownLink
      ShownGrouping ShownSelect → SelectLayer
  select_shown y = map-BoundSelect ShownExpr ShownItem ShownQuery ShownRow ShownSource ShownLink
      ShownGrouping ShownSelect BoundExpr BoundFromItem BoundQuery BoundRow BoundSource BoundLink
      BoundGrouping BoundSelect (λ x. x.0) (λ x. x.0) (λ x. x.0) (λ x. x.0) (λ x. x.0) (λ x. x.0)
      (λ x. x.0) (λ x. x.0) y

  -- ---- lists of parts

  all-called : (es : List ShownExpr) → GoodRow (map kind_of (map (λ x. x.0) es))
      (joined (map uses_in (map (λ x. x.0) es)))
  all-called [] a ks q h = tt
  all-called (e ∷ es) a ks q h =
      let first = then_some (kind_of e.0 a) _ ks h in
      let rest = then_some (kinds_of a (map kind_of (map (λ x. x.0) es))) _ ks first.2 in
      one-after (uses_in e.0) (joined (map uses_in (map (λ x. x.0) es)))
      (e.1 a first.0 q first.1) (all-called es a rest.0 q rest.1)

  tests-called : (es : List ShownExpr) (a : Around) → a.functions ≡ F →
      tests a (map kind_of (map (λ x. x.0) es)) ≡ true →
      Called (joined (map uses_in (map (λ x. x.0) es)))
  tests-called [] a q h = tt
  tests-called (e ∷ es) a q h =
      let each = halves (is_true_value (kind_of e.0 a)) _ h in
      let first = value_some (kind_of e.0 a) each.0 in
      one-after (uses_in e.0) (joined (map uses_in (map (λ x. x.0) es)))
      (e.1 a first.0 q first.1) (tests-called es a q each.1)

  links-called : (ls : List ShownLink) (a : Around) (k j : Kind) → a.functions ≡ F →
      chain_kind a k (map kind_of_link (map (λ x. x.0) ls)) ≡ Some j →
      Called (joined (map uses_in_link (map (λ x. x.0) ls)))
  links-called [] a k j q h = tt
  links-called (l ∷ ls) a k j q h =
      let link = kind_of_link l.0 in
      let first = then_some (link.operand a) _ j h in
      let fit = only_some (operator_allows link.operator k first.0)
      (chain_kind a (kind_of_operator link.operator) (map kind_of_link (map (λ x. x.0) ls))) j
      first.2 in
      one-after (uses_in_link l.0) (joined (map uses_in_link (map (λ x. x.0) ls)))
      (l.1 a first.0 q first.1) (links-called ls a (kind_of_operator link.operator) j q fit.1)

  more-called : (rs : List ShownRow) (a : Around) (cs js : List Kind) → a.functions ≡ F →
      more_rows a cs (map exprs_of_row (map (λ x. x.0) rs)) ≡ Some js →
      Called (joined (map uses_in_row (map (λ x. x.0) rs)))
  more-called [] a cs js q h = tt
  more-called (r ∷ rs) a cs js q h =
      let row = then_some (kinds_of a (exprs_of_row r.0)) _ js h in
      let columns = then_some (row_kinds cs row.0) _ js row.2 in
      one-after (uses_in_row r.0) (joined (map uses_in_row (map (λ x. x.0) rs)))
      (r.1 a row.0 q row.1) (more-called rs a columns.0 js q columns.2)

  rows-called : (rs : List ShownRow) → Good
      (λ a. kinds_of_rows a (map exprs_of_row (map (λ x. x.0) rs)))
      (joined (map uses_in_row (map (λ x. x.0) rs)))
  rows-called [] a ks q h = tt
  rows-called (r ∷ rs) a ks q h =
      let row = then_some (kinds_of a (exprs_of_row r.0)) _ ks h in
      one-after (uses_in_row r.0) (joined (map uses_in_row (map (λ x. x.0) rs)))
      (r.1 a row.0 q row.1) (more-called rs a row.0 ks q row.2)

  items-called : (is : List ShownItem) (a : Around) (row more : FromRow) → a.functions ≡ F →
      items_joined a row (map kinds_of_item (map (λ x. x.0) is)) ≡ Some more →
      Called (joined (map uses_in_item (map (λ x. x.0) is)))
  items-called [] a row more q h = tt
  items-called (x ∷ xs) a row more q h =
      let next = then_some (kinds_of_item x.0 a row) _ more h in
      one-after (uses_in_item x.0) (joined (map uses_in_item (map (λ y. y.0) xs)))
      (x.1 a row next.0 q next.1) (items-called xs a next.0 more q next.2)

  -- ---- one layer

  expr_layer : (y : BoundExpr-F ShownExpr ShownItem ShownQuery ShownRow ShownSource ShownLink
      ShownGrouping
      ShownSelect) →
      Good (expr_kind (expr_kinded (expr_shown y))) (expr_uses (expr_used (expr_shown y)))
  expr_layer (BoundExpr-F.Literal v) a k q h = tt
  expr_layer (BoundExpr-F.Column level i) a k q h = tt
  expr_layer (BoundExpr-F.Variable i) a k q h = tt
  expr_layer (BoundExpr-F.Operation word es) a k q h =
      let ks = then_some (kinds_of a (map kind_of (map (λ x. x.0) es))) _ k h in
      all-called es a ks.0 q ks.1
  expr_layer (BoundExpr-F.Chain first rest) a k q h =
      let one = then_some (kind_of first.0 a) _ k h in
      one-after (uses_in first.0) (joined (map uses_in_link (map (λ x. x.0) rest)))
      (first.1 a one.0 q one.1) (links-called rest a one.0 k q one.2)
  expr_layer (BoundExpr-F.Call name args) a k q h =
      let ks = then_some (kinds_of a (map kind_of (map (λ x. x.0) args))) _ k h in
      let there = head_some (a.functions name) ks.0 k ks.2 in
      (good name there.0 ((λ i. sym q i name) ∙ there.1), all-called args a ks.0 q ks.1)
  expr_layer (BoundExpr-F.Single x) a k q h =
      let ks = then_some (kinds_of_query x.0 a) _ k h in x.1 a ks.0 q ks.1
  expr_layer (BoundExpr-F.Exists x) a k q h =
      let ks = then_some (kinds_of_query x.0 a) _ k h in x.1 a ks.0 q ks.1
  expr_layer (BoundExpr-F.In e x) a k q h =
      let one = then_some (kind_of e.0 a) _ k h in
      let column = then_some (then (kinds_of_query x.0 a) only_column) _ k one.2 in
      let ks = then_some (kinds_of_query x.0 a) only_column column.0 column.1 in
      one-after (uses_in e.0) (uses_in_query x.0) (e.1 a one.0 q one.1) (x.1 a ks.0 q ks.1)

  item_layer : (y : BoundFromItem-F ShownExpr ShownItem ShownQuery ShownRow ShownSource ShownLink
      ShownGrouping
      ShownSelect) →
      GoodItem (item_kinds (item_kinded (item_shown y))) (item_uses (item_used (item_shown y)))
  item_layer (BoundFromItem-F.Comma f) a row more q h =
      let ks = then_some (kinds_of_source f.0 a) _ more h in f.1 a ks.0 q ks.1
  item_layer (BoundFromItem-F.Cross f) a row more q h =
      let ks = then_some (kinds_of_source f.0 a) _ more h in f.1 a ks.0 q ks.1
  item_layer (BoundFromItem-F.Inner f on) a row more q h =
      let ks = then_some (kinds_of_source f.0 a) _ more h in
      let seen = joined_with row ks.0 in
      let held = only_some (tests (with_row seen.joined a) (map kind_of (map (λ x. x.0) on)))
      (Some seen) more ks.2 in
      one-after (uses_in_source f.0) (joined (map uses_in (map (λ x. x.0) on)))
      (f.1 a ks.0 q ks.1) (tests-called on (with_row seen.joined a) q held.0)
  item_layer (BoundFromItem-F.Left f on) a row more q h =
      let ks = then_some (kinds_of_source f.0 a) _ more h in
      let seen = joined_with row ks.0 in
      let held = only_some (tests (with_row seen.joined a) (map kind_of (map (λ x. x.0) on)))
      (Some seen) more ks.2 in
      one-after (uses_in_source f.0) (joined (map uses_in (map (λ x. x.0) on)))
      (f.1 a ks.0 q ks.1) (tests-called on (with_row seen.joined a) q held.0)

  query_layer : (y : BoundQuery-F ShownExpr ShownItem ShownQuery ShownRow ShownSource ShownLink
      ShownGrouping
      ShownSelect) →
      Good (query_kinds (query_kinded (query_shown y))) (query_uses (query_used (query_shown y)))
  query_layer (BoundQuery-F.Select select) a ks q h = select.1 a ks q h
  query_layer (BoundQuery-F.Values rs) a ks q h = rows-called rs a ks q h
  query_layer (BoundQuery-F.Ordered x keys) a ks q h =
      let inner = then_some (kinds_of_query x.0 a) _ ks h in x.1 a inner.0 q inner.1

  row_layer : (y : BoundRow-F ShownExpr ShownItem ShownQuery ShownRow ShownSource ShownLink
      ShownGrouping
      ShownSelect) →
      GoodRow (row_exprs (row_kinded (row_shown y))) (row_uses (row_used (row_shown y)))
  row_layer (BoundRow-F.Row es) a ks q h = all-called es a ks q h

  source_layer : (y : BoundSource-F ShownExpr ShownItem ShownQuery ShownRow ShownSource ShownLink
      ShownGrouping
      ShownSelect) →
      Good (source_kinds (source_kinded (source_shown y))) (source_uses (source_used (source_shown
      y)))
  source_layer (BoundSource-F.Table name) a ks q h = tt
  source_layer (BoundSource-F.Derived x) a ks q h = x.1 a ks q h

  link_layer : (y : BoundLink-F ShownExpr ShownItem ShownQuery ShownRow ShownSource ShownLink
      ShownGrouping
      ShownSelect) →
      GoodLink (link_kind (link_kinded (link_shown y))) (link_uses (link_used (link_shown y)))
  link_layer y a k q h = y.operand.1 a k q h

  grouping_layer : (y : BoundGrouping-F ShownExpr ShownItem ShownQuery ShownRow ShownSource
      ShownLink ShownGrouping
      ShownSelect) →
      GoodGroup (group_kinds (grouping_kinded (grouping_shown y)))
      (grouping_uses (grouping_used (grouping_shown y)))
  grouping_layer y a b ks q r h t =
      one-after (joined (map uses_in (map (λ x. x.0) y.parts)))
      (joined (map uses_in (map (λ x. x.0) y.having))) (all-called y.parts a ks q h)
      (tests-called y.having b r t)

  -- what stands over the row of FROM
  over-called : (items conjuncts : List ShownExpr) (from : List ShownItem) (grouping : Uses)
      (g : Option GroupKinds) →
      ((a : Around) (row ks : List Kind) → a.functions ≡ F →
      list_kinds a row (map kind_of (map (λ x. x.0) items)) g ≡ Some ks →
      Called (grouping ++ joined (map uses_in (map (λ x. x.0) items)))) →
      Good (λ a. then (items_joined a nothing_joined (map kinds_of_item (map (λ x. x.0) from)))
      (λ so. selected a (whole_row so) (map kind_of (map (λ x. x.0) items))
      (map kind_of (map (λ x. x.0) conjuncts)) g))
      (joined (map uses_in_item (map (λ x. x.0) from)) ++
      (joined (map uses_in (map (λ x. x.0) conjuncts)) ++
      (grouping ++ joined (map uses_in (map (λ x. x.0) items)))))
  over-called items conjuncts from grouping g list a ks q h =
      let row = then_some (items_joined a nothing_joined
      (map kinds_of_item (map (λ x. x.0) from))) _ ks h in
      let r = whole_row row.0 in
      let held = only_some (tests (with_row r a) (map kind_of (map (λ x. x.0) conjuncts)))
      (list_kinds a r (map kind_of (map (λ x. x.0) items)) g) ks row.2 in
      let rest = grouping ++ joined (map uses_in (map (λ x. x.0) items)) in
      let tested = joined (map uses_in (map (λ x. x.0) conjuncts)) in
      one-after (joined (map uses_in_item (map (λ x. x.0) from))) (tested ++ rest)
      (items-called from a nothing_joined row.0 q row.1)
      (one-after tested rest (tests-called conjuncts (with_row r a) q held.0)
      (list a r ks q held.1))

  group-called : (items : List ShownExpr) (g : ShownGrouping) (a : Around) (row ks : List Kind) →
      a.functions ≡ F →
      list_kinds a row (map kind_of (map (λ x. x.0) items)) (Some (kinds_of_grouping g.0)) ≡
      Some ks →
      Called (uses_in_grouping g.0 ++ joined (map uses_in (map (λ x. x.0) items)))
  group-called items g a row ks q h =
      let group = kinds_of_grouping g.0 in
      let parts = then_some (kinds_of (with_row row a) group.parts) _ ks h in
      let made = then_some (group_row group.keys parts.0 group.aggregates) _ ks parts.2 in
      let list = only_some (tests (with_row made.0 a) group.having)
      (kinds_of (with_row made.0 a) (map kind_of (map (λ x. x.0) items))) ks made.2 in
      one-after (uses_in_grouping g.0) (joined (map uses_in (map (λ x. x.0) items)))
      (g.1 (with_row row a) (with_row made.0 a) parts.0 q q parts.1 list.0)
      (all-called items (with_row made.0 a) ks q list.1)

  select_made : (items conjuncts : List ShownExpr) (from : List ShownItem)
      (g : Option ShownGrouping) →
      let y : BoundSelect-F ShownExpr ShownItem ShownQuery ShownRow ShownSource ShownLink
      ShownGrouping
      ShownSelect = record {
        items = items;
        from = from;
        conjuncts = conjuncts;
        grouping = g;
      } in
      Good (select_kinds (select_kinded (select_shown y))) (select_uses (select_used (select_shown
      y)))
  select_made items conjuncts from None =
      over-called items conjuncts from [] None
      (λ a row ks q h. all-called items (with_row row a) ks q h)
  select_made items conjuncts from (Some g) =
      over-called items conjuncts from (uses_in_grouping g.0) (Some (kinds_of_grouping g.0))
      (group-called items g)

  -- ---- whole trees

  expr_whole : (y : BoundExpr-F ShownExpr ShownItem ShownQuery ShownRow ShownSource ShownLink
      ShownGrouping
      ShownSelect) →
      Good (kind_of (roll-BoundExpr (expr_shown y))) (uses_in (roll-BoundExpr (expr_shown y)))
  expr_whole y = pair Good _ _ _ _ (kind_of-at (expr_shown y)) (expr_uses-at (expr_shown y))
      (expr_layer y)

  item_whole : (y : BoundFromItem-F ShownExpr ShownItem ShownQuery ShownRow ShownSource ShownLink
      ShownGrouping
      ShownSelect) →
      GoodItem (kinds_of_item (roll-BoundFromItem (item_shown y))) (uses_in_item
      (roll-BoundFromItem (item_shown y)))
  item_whole y = pair GoodItem _ _ _ _ (kinds_of_item-at (item_shown y)) (item_uses-at (item_shown
      y)) (item_layer y)

  query_whole : (y : BoundQuery-F ShownExpr ShownItem ShownQuery ShownRow ShownSource ShownLink
      ShownGrouping
      ShownSelect) →
      Good (kinds_of_query (roll-BoundQuery (query_shown y))) (uses_in_query (roll-BoundQuery
      (query_shown y)))
  query_whole y = pair Good _ _ _ _ (kinds_of_query-at (query_shown y)) (query_uses-at (query_shown
      y)) (query_layer y)

  row_whole : (y : BoundRow-F ShownExpr ShownItem ShownQuery ShownRow ShownSource ShownLink
      ShownGrouping
      ShownSelect) →
      GoodRow (exprs_of_row (roll-BoundRow (row_shown y))) (uses_in_row (roll-BoundRow (row_shown
      y)))
  row_whole y = pair GoodRow _ _ _ _ (exprs_of_row-at (row_shown y)) (row_uses-at (row_shown y))
      (row_layer y)

  source_whole : (y : BoundSource-F ShownExpr ShownItem ShownQuery ShownRow ShownSource ShownLink
      ShownGrouping
      ShownSelect) →
      Good (kinds_of_source (roll-BoundSource (source_shown y))) (uses_in_source (roll-BoundSource
      (source_shown y)))
  source_whole y = pair Good _ _ _ _ (kinds_of_source-at (source_shown y)) (source_uses-at
      (source_shown y)) (source_layer y)

  link_whole : (y : BoundLink-F ShownExpr ShownItem ShownQuery ShownRow ShownSource ShownLink
      ShownGrouping
      ShownSelect) →
      GoodLink (kind_of_link (roll-BoundLink (link_shown y))) (uses_in_link (roll-BoundLink
      (link_shown y)))
  link_whole y = pair GoodLink _ _ _ _ (kind_of_link-at (link_shown y)) (link_uses-at (link_shown
      y)) (link_layer y)

  grouping_whole : (y : BoundGrouping-F ShownExpr ShownItem ShownQuery ShownRow ShownSource
      ShownLink ShownGrouping
      ShownSelect) →
      GoodGroup (kinds_of_grouping (roll-BoundGrouping (grouping_shown y))) (uses_in_grouping
      (roll-BoundGrouping (grouping_shown y)))
  grouping_whole y = pair GoodGroup _ _ _ _ (kinds_of_grouping-at (grouping_shown y))
      (grouping_uses-at (grouping_shown y)) (grouping_layer y)

  select_whole : (y : BoundSelect-F ShownExpr ShownItem ShownQuery ShownRow ShownSource ShownLink
      ShownGrouping
      ShownSelect) →
      Good (kinds_of_select (roll-BoundSelect (select_shown y))) (uses_in_select (roll-BoundSelect
      (select_shown y)))
  select_whole y = pair Good _ _ _ _ (kinds_of_select-at (select_shown y)) (select_uses-at
      (select_shown y)) (select_made y.items y.conjuncts y.from y.grouping)

  pub expr-calls : (e : BoundExpr) → Good (kind_of e) (uses_in e)
  expr-calls =
      ind-BoundExpr
      (λ z. Good (kind_of z) (uses_in z))
      (λ z. GoodItem (kinds_of_item z) (uses_in_item z))
      (λ z. Good (kinds_of_query z) (uses_in_query z))
      (λ z. GoodRow (exprs_of_row z) (uses_in_row z))
      (λ z. Good (kinds_of_source z) (uses_in_source z))
      (λ z. GoodLink (kind_of_link z) (uses_in_link z))
      (λ z. GoodGroup (kinds_of_grouping z) (uses_in_grouping z))
      (λ z. Good (kinds_of_select z) (uses_in_select z))
      (λ x y is. subst (λ z. Good (kind_of (roll-BoundExpr z)) (uses_in (roll-BoundExpr z))) is
      (expr_whole y))
      (λ x y is. subst (λ z. GoodItem (kinds_of_item (roll-BoundFromItem z)) (uses_in_item
      (roll-BoundFromItem z))) is
      (item_whole y))
      (λ x y is. subst (λ z. Good (kinds_of_query (roll-BoundQuery z)) (uses_in_query
      (roll-BoundQuery z))) is
      (query_whole y))
      (λ x y is. subst (λ z. GoodRow (exprs_of_row (roll-BoundRow z)) (uses_in_row (roll-BoundRow
      z))) is
      (row_whole y))
      (λ x y is. subst (λ z. Good (kinds_of_source (roll-BoundSource z)) (uses_in_source
      (roll-BoundSource z))) is
      (source_whole y))
      (λ x y is. subst (λ z. GoodLink (kind_of_link (roll-BoundLink z)) (uses_in_link
      (roll-BoundLink z))) is
      (link_whole y))
      (λ x y is. subst (λ z. GoodGroup (kinds_of_grouping (roll-BoundGrouping z)) (uses_in_grouping
      (roll-BoundGrouping z))) is
      (grouping_whole y))
      (λ x y is. subst (λ z. Good (kinds_of_select (roll-BoundSelect z)) (uses_in_select
      (roll-BoundSelect z))) is
      (select_whole y))

  pub query-calls : (q : BoundQuery) → Good (kinds_of_query q) (uses_in_query q)
  query-calls =
      ind-BoundQuery
      (λ z. Good (kind_of z) (uses_in z))
      (λ z. GoodItem (kinds_of_item z) (uses_in_item z))
      (λ z. Good (kinds_of_query z) (uses_in_query z))
      (λ z. GoodRow (exprs_of_row z) (uses_in_row z))
      (λ z. Good (kinds_of_source z) (uses_in_source z))
      (λ z. GoodLink (kind_of_link z) (uses_in_link z))
      (λ z. GoodGroup (kinds_of_grouping z) (uses_in_grouping z))
      (λ z. Good (kinds_of_select z) (uses_in_select z))
      (λ x y is. subst (λ z. Good (kind_of (roll-BoundExpr z)) (uses_in (roll-BoundExpr z))) is
      (expr_whole y))
      (λ x y is. subst (λ z. GoodItem (kinds_of_item (roll-BoundFromItem z)) (uses_in_item
      (roll-BoundFromItem z))) is
      (item_whole y))
      (λ x y is. subst (λ z. Good (kinds_of_query (roll-BoundQuery z)) (uses_in_query
      (roll-BoundQuery z))) is
      (query_whole y))
      (λ x y is. subst (λ z. GoodRow (exprs_of_row (roll-BoundRow z)) (uses_in_row (roll-BoundRow
      z))) is
      (row_whole y))
      (λ x y is. subst (λ z. Good (kinds_of_source (roll-BoundSource z)) (uses_in_source
      (roll-BoundSource z))) is
      (source_whole y))
      (λ x y is. subst (λ z. GoodLink (kind_of_link (roll-BoundLink z)) (uses_in_link
      (roll-BoundLink z))) is
      (link_whole y))
      (λ x y is. subst (λ z. GoodGroup (kinds_of_grouping (roll-BoundGrouping z)) (uses_in_grouping
      (roll-BoundGrouping z))) is
      (grouping_whole y))
      (λ x y is. subst (λ z. Good (kinds_of_select (roll-BoundSelect z)) (uses_in_select
      (roll-BoundSelect z))) is
      (select_whole y))
