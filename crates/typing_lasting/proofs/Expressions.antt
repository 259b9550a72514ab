-- Expressions and queries are typed the same where the names that they use stand for the same: by
-- induction over the trees.
use Rattle.std.proofs.Common.{◌≡◌, ◌&&◌, List, [], ◌∷◌, ◌++◌, map, Option, None, Some}
use Rattle.std.proofs.Common.{refl, sym, subst, length}
use Rattle.bound_trees.specs.declared.expr.BoundExpr.{BoundExpr, roll-BoundExpr}
use Rattle.bound_trees.specs.declared.expr.BoundLink.{BoundLink, roll-BoundLink}
use Rattle.bound_trees.specs.declared.query.BoundFromItem.{BoundFromItem, roll-BoundFromItem}
use Rattle.bound_trees.specs.declared.query.BoundGrouping.{BoundGrouping, roll-BoundGrouping}
use Rattle.bound_trees.specs.declared.query.BoundQuery.{BoundQuery, roll-BoundQuery}
use Rattle.bound_trees.specs.declared.query.BoundRow.{BoundRow, roll-BoundRow}
use Rattle.bound_trees.specs.declared.query.BoundSelect.{BoundSelect, roll-BoundSelect}
use Rattle.bound_trees.specs.declared.query.BoundSource.{BoundSource, roll-BoundSource}
use Rattle.bound_trees.specs.declared.expr.BoundExpr.TheOpen.{BoundExpr-F, BoundFromItem-F}
use Rattle.bound_trees.specs.declared.expr.BoundExpr.TheOpen.{BoundQuery-F, BoundRow-F}
use Rattle.bound_trees.specs.declared.expr.BoundExpr.TheOpen.{BoundSource-F, BoundLink-F}
use Rattle.bound_trees.specs.declared.expr.BoundExpr.TheOpen.{BoundGrouping-F, BoundSelect-F}
use Rattle.bound_trees.specs.declared.expr.BoundExpr.TheFolds.{map-BoundExpr, map-BoundFromItem}
use Rattle.bound_trees.specs.declared.expr.BoundExpr.TheFolds.{map-BoundQuery, map-BoundRow}
use Rattle.bound_trees.specs.declared.expr.BoundExpr.TheFolds.{map-BoundSource, map-BoundLink}
use Rattle.bound_trees.specs.declared.expr.BoundExpr.TheFolds.{map-BoundGrouping, map-BoundSelect}
use Rattle.bound_trees.specs.declared.expr.BoundExpr.TheFolds.{ind-BoundExpr, ind-BoundQuery}
use Rattle.catalog_store.specs.Uses.{Uses, joined, names_used, expr_uses, item_uses}
use Rattle.catalog_store.specs.Uses.{query_uses, row_uses, source_uses, link_uses, grouping_uses}
use Rattle.catalog_store.specs.Uses.{select_uses, uses_in, uses_in_item, uses_in_query}
use Rattle.catalog_store.specs.Uses.{uses_in_row, uses_in_source, uses_in_link, uses_in_grouping}
use Rattle.catalog_store.specs.Uses.{uses_in_select}
use Rattle.catalog_store.proofs.Laws.{expr_uses-at, item_uses-at, query_uses-at, row_uses-at}
use Rattle.catalog_store.proofs.Laws.{source_uses-at, link_uses-at, grouping_uses-at}
use Rattle.catalog_store.proofs.Laws.{select_uses-at}
use Rattle.bind_kinds.specs.declared.kind.Kind.{Kind}
use Rattle.bind_kinds.specs.declared.kind.Kind.TheVariants.{Boolean}
use Rattle.bind_kinds.specs.Kinds.{fits}
use Rattle.bind_kinds.specs.Chains.{kind_of_operator}
use Rattle.typing_trees.specs.Kinds.{allows, gives, operator_allows}
use Rattle.typing_trees.specs.Around.{Around, with_row, then, only_if}
use Rattle.typing_trees.specs.Queries.{ExprKind, QueryKinds, FromRow, FromKinds, LinkKind}
use Rattle.typing_trees.specs.Queries.{GroupKinds, kinds_of, is_true_value, tests, chain_kind}
use Rattle.typing_trees.specs.Queries.{only_column, call_kind, row_kinds, more_rows, kinds_of_rows}
use Rattle.typing_trees.specs.Queries.{columns_of_table, nothing_joined, past_comma, joined_with}
use Rattle.typing_trees.specs.Queries.{whole_row, joined_on, items_joined, group_row, listed}
use Rattle.typing_trees.specs.Queries.{list_kinds, keys_within, expr_kind, item_kinds}
use Rattle.typing_trees.specs.Queries.{query_kinds, row_exprs, source_kinds, link_kind, group_kinds}
use Rattle.typing_trees.specs.Queries.{select_kinds, kind_of, kinds_of_item, kinds_of_query}
use Rattle.typing_trees.specs.Queries.{exprs_of_row, kinds_of_source, kind_of_link}
use Rattle.typing_trees.specs.Queries.{kinds_of_grouping, kinds_of_select}
use Rattle.typing_lasting.specs.Lasting.{Objects, around_with, AllSame}
use Rattle.typing_lasting.proofs.Layers.{ExprLayer, ItemLayer, QueryLayer, RowLayer, SourceLayer}
use Rattle.typing_lasting.proofs.Layers.{LinkLayer, GroupingLayer, SelectLayer, expr_kinded}
use Rattle.typing_lasting.proofs.Layers.{item_kinded, query_kinded, row_kinded, source_kinded, link_kinded}
use Rattle.typing_lasting.proofs.Layers.{grouping_kinded, select_kinded, kind_of-at, kinds_of_item-at}
use Rattle.typing_lasting.proofs.Layers.{kinds_of_query-at, exprs_of_row-at, kinds_of_source-at}
use Rattle.typing_lasting.proofs.Layers.{kind_of_link-at, kinds_of_grouping-at, kinds_of_select-at}
use Rattle.typing_lasting.proofs.Layers.{expr_uses_seen, item_uses_seen, query_uses_seen}
use Rattle.typing_lasting.proofs.Layers.{row_uses_seen, source_uses_seen, link_uses_seen}
use Rattle.typing_lasting.proofs.Layers.{grouping_uses_seen, select_uses_seen}

-- of each of several
abbrev pub Each : {A : Type 0} → (A → Type 0) → List A → Type 0
Each P [] = Unit {0}
Each P (x ∷ xs) = P x × Each P xs

-- of one that may be left out
abbrev pub IfThere : {A : Type 0} → (A → Type 0) → Option A → Type 0
IfThere P None = Unit {0}
IfThere P (Some x) = P x

module _ (m n : Objects) where
  -- the names of these uses stand for the same
  abbrev Same : Uses → Type 0
  Same us = AllSame m n (names_used us)

  front : (xs ys : Uses) → Same (xs ++ ys) → Same xs
  front [] ys s = tt
  front (x ∷ xs) ys s = (s.0, front xs ys s.1)

  back : (xs ys : Uses) → Same (xs ++ ys) → Same ys
  back [] ys s = s
  back (x ∷ xs) ys s = back xs ys s.1

  -- ---- what is the same by both

  abbrev pub SameKind : ExprKind → Type 0
  SameKind e = (a : Around) → e (around_with m a) ≡ e (around_with n a)

  abbrev SameColumns : QueryKinds → Type 0
  SameColumns q = (a : Around) → q (around_with m a) ≡ q (around_with n a)

  abbrev SameFrom : FromKinds → Type 0
  SameFrom f = (a : Around) (so : FromRow) → f (around_with m a) so ≡ f (around_with n a) so

  abbrev SameLink : LinkKind → Type 0
  SameLink l = SameKind l.operand

  record SameGroups (g : GroupKinds) : Type 0 where
    pub parts : Each SameKind g.parts
    pub having : Each SameKind g.having

  -- ---- several expressions

  kinds-same : (es : List ExprKind) → Each SameKind es → (a : Around) →
      kinds_of (around_with m a) es ≡ kinds_of (around_with n a) es
  kinds-same [] s a = refl
  kinds-same (e ∷ es) s a =
      λ i. then (s.0 a i) (λ k. then (kinds-same es s.1 a i) (λ ks. Some (k ∷ ks)))

  tests-same : (es : List ExprKind) → Each SameKind es → (a : Around) →
      tests (around_with m a) es ≡ tests (around_with n a) es
  tests-same [] s a = refl
  tests-same (e ∷ es) s a = λ i. is_true_value (s.0 a i) && tests-same es s.1 a i

  chain-same : (ls : List LinkKind) → Each SameLink ls → (a : Around) (k : Kind) →
      chain_kind (around_with m a) k ls ≡ chain_kind (around_with n a) k ls
  chain-same [] s a k = refl
  chain-same (l ∷ ls) s a k = λ i. then (s.0 a i) (λ j. only_if (operator_allows l.operator k j)
      (chain-same ls s.1 a (kind_of_operator l.operator) i))

  more_rows-same : (rs : List (List ExprKind)) → Each (Each SameKind) rs → (a : Around)
      (cs : List Kind) → more_rows (around_with m a) cs rs ≡ more_rows (around_with n a) cs rs
  more_rows-same [] s a cs = refl
  more_rows-same (r ∷ rs) s a cs = λ i. then (kinds-same r s.0 a i)
      (λ ks. then (row_kinds cs ks) (λ js. more_rows-same rs s.1 a js i))

  rows-same : (rs : List (List ExprKind)) → Each (Each SameKind) rs → (a : Around) →
      kinds_of_rows (around_with m a) rs ≡ kinds_of_rows (around_with n a) rs
  rows-same [] s a = refl
  rows-same (r ∷ rs) s a = λ i. then (kinds-same r s.0 a i)
      (λ ks. more_rows-same rs s.1 a ks i)

  -- ---- FROM, groups and the list

  on-same : (on : List ExprKind) → Each SameKind on → (a : Around) (so : FromRow) →
      joined_on (around_with m a) on so ≡ joined_on (around_with n a) on so
  on-same on s a so = λ i. only_if (tests-same on s (with_row so.joined a) i) (Some so)

  items-same : (fs : List FromKinds) → Each SameFrom fs → (a : Around) (so : FromRow) →
      items_joined (around_with m a) so fs ≡ items_joined (around_with n a) so fs
  items-same [] s a so = refl
  items-same (f ∷ fs) s a so = λ i. then (s.0 a so i) (λ more. items-same fs s.1 a more i)

  listed-same : (conditions items : List ExprKind) → Each SameKind conditions →
      Each SameKind items → (a : Around) →
      listed (around_with m a) conditions items ≡ listed (around_with n a) conditions items
  listed-same conditions items c s a =
      λ i. only_if (tests-same conditions c a i) (kinds-same items s a i)

  list-same : (g : Option GroupKinds) (items : List ExprKind) → IfThere SameGroups g →
      Each SameKind items → (row : List Kind) (a : Around) →
      list_kinds (around_with m a) row items g ≡ list_kinds (around_with n a) row items g
  list-same None items gs s row a = kinds-same items s (with_row row a)
  list-same (Some g) items gs s row a =
      λ i. then (kinds-same g.parts gs.parts (with_row row a) i)
      (λ ks. then (group_row g.keys ks g.aggregates)
      (λ group. listed-same g.having items gs.having s (with_row group a) i))

  select-same : (items conjuncts : List ExprKind) (from : List FromKinds)
      (g : Option GroupKinds) → Each SameKind items → Each SameKind conjuncts →
      Each SameFrom from → IfThere SameGroups g →
      SameColumns (select_kinds (record {
        items = items;
        from = from;
        conjuncts = conjuncts;
        grouping = g;
      }))
  select-same items conjuncts from g s c f gs a =
      λ i. then (items-same from f a nothing_joined i)
      (λ so. only_if (tests-same conjuncts c (with_row (whole_row so) a) i)
      (list-same g items gs s (whole_row so) a i))

  -- ---- trees

  -- a tree that is typed the same where its uses stand for the same
  abbrev Lasts : {A V : Type 0} → (A → Uses) → (A → V) → (V → Type 0) → A → Type 0
  Lasts uses seen P x = Same (uses x) → P (seen x)

  each-shown : {A V : Type 0} (uses : A → Uses) (seen : A → V) (P : V → Type 0)
      (xs : List ((x : A) × Lasts uses seen P x)) →
      Same (joined (map uses (map (λ x. x.0) xs))) → Each P (map seen (map (λ x. x.0) xs))
  each-shown uses seen P [] s = tt
  each-shown uses seen P (x ∷ xs) s =
      let rest = joined (map uses (map (λ y. y.0) xs)) in (
        x.1 (front (uses x.0) rest s),
        each-shown uses seen P xs (back (uses x.0) rest s),
      )

  abbrev ShownExpr : Type 0
  ShownExpr = (x : BoundExpr) × Lasts uses_in kind_of SameKind x

  abbrev ShownItem : Type 0
  ShownItem = (x : BoundFromItem) × Lasts uses_in_item kinds_of_item SameFrom x

  abbrev ShownQuery : Type 0
  ShownQuery = (x : BoundQuery) × Lasts uses_in_query kinds_of_query SameColumns x

  abbrev ShownRow : Type 0
  ShownRow = (x : BoundRow) × Lasts uses_in_row exprs_of_row (Each SameKind) x

  abbrev ShownSource : Type 0
  ShownSource = (x : BoundSource) × Lasts uses_in_source kinds_of_source SameColumns x

  abbrev ShownLink : Type 0
  ShownLink = (x : BoundLink) × Lasts uses_in_link kind_of_link SameLink x

  abbrev ShownGrouping : Type 0
  ShownGrouping = (x : BoundGrouping) × Lasts uses_in_grouping kinds_of_grouping SameGroups x

  abbrev ShownSelect : Type 0
  ShownSelect = (x : BoundSelect) × Lasts uses_in_select kinds_of_select SameColumns x

  abbrev expr_shown : BoundExpr-F ShownExpr ShownItem ShownQuery ShownRow ShownSource ShownLink
      ShownGrouping ShownSelect → ExprLayer
  expr_shown y = map-BoundExpr ShownExpr ShownItem ShownQuery ShownRow ShownSource ShownLink
      ShownGrouping ShownSelect
      BoundExpr BoundFromItem BoundQuery BoundRow BoundSource BoundLink
      BoundGrouping BoundSelect (λ x. x.0) (λ x. x.0) (λ x. x.0) (λ x. x.0) (λ x. x.0) (λ x. x.0)
      (λ x. x.0) (λ x. x.0) y

  abbrev item_shown : BoundFromItem-F ShownExpr ShownItem ShownQuery ShownRow ShownSource ShownLink
      ShownGrouping ShownSelect → ItemLayer
  item_shown y = map-BoundFromItem ShownExpr ShownItem ShownQuery ShownRow ShownSource ShownLink
      ShownGrouping ShownSelect
      BoundExpr BoundFromItem BoundQuery BoundRow BoundSource BoundLink
      BoundGrouping BoundSelect (λ x. x.0) (λ x. x.0) (λ x. x.0) (λ x. x.0) (λ x. x.0) (λ x. x.0)
      (λ x. x.0) (λ x. x.0) y

  abbrev query_shown : BoundQuery-F ShownExpr ShownItem ShownQuery ShownRow ShownSource ShownLink
      ShownGrouping ShownSelect → QueryLayer
  query_shown y = map-BoundQuery ShownExpr ShownItem ShownQuery ShownRow ShownSource ShownLink
      ShownGrouping ShownSelect
      BoundExpr BoundFromItem BoundQuery BoundRow BoundSource BoundLink
      BoundGrouping BoundSelect (λ x. x.0) (λ x. x.0) (λ x. x.0) (λ x. x.0) (λ x. x.0) (λ x. x.0)
      (λ x. x.0) (λ x. x.0) y

  abbrev row_shown : BoundRow-F ShownExpr ShownItem ShownQuery ShownRow ShownSource ShownLink
      ShownGrouping ShownSelect → RowLayer
  row_shown y = map-BoundRow ShownExpr ShownItem ShownQuery ShownRow ShownSource ShownLink
      ShownGrouping ShownSelect
      BoundExpr BoundFromItem BoundQuery BoundRow BoundSource BoundLink
      BoundGrouping BoundSelect (λ x. x.0) (λ x. x.0) (λ x. x.0) (λ x. x.0) (λ x. x.0) (λ x. x.0)
      (λ x. x.0) (λ x. x.0) y

  abbrev source_shown : BoundSource-F ShownExpr ShownItem ShownQuery ShownRow ShownSource ShownLink
      ShownGrouping ShownSelect → SourceLayer
  source_shown y = map-BoundSource ShownExpr ShownItem ShownQuery ShownRow ShownSource ShownLink
      ShownGrouping ShownSelect
      BoundExpr BoundFromItem BoundQuery BoundRow BoundSource BoundLink
      BoundGrouping BoundSelect (λ x. x.0) (λ x. x.0) (λ x. x.0) (λ x. x.0) (λ x. x.0) (λ x. x.0)
      (λ x. x.0) (λ x. x.0) y

  abbrev link_shown : BoundLink-F ShownExpr ShownItem ShownQuery ShownRow ShownSource ShownLink
      ShownGrouping ShownSelect → LinkLayer
  link_shown y = map-BoundLink ShownExpr ShownItem ShownQuery ShownRow ShownSource ShownLink
      ShownGrouping ShownSelect
      BoundExpr BoundFromItem BoundQuery BoundRow BoundSource BoundLink
      BoundGrouping BoundSelect (λ x. x.0) (λ x. x.0) (λ x. x.0) (λ x. x.0) (λ x. x.0) (λ x. x.0)
      (λ x. x.0) (λ x. x.0) y

  abbrev grouping_shown : BoundGrouping-F ShownExpr ShownItem ShownQuery ShownRow ShownSource
      ShownLink ShownGrouping ShownSelect → GroupingLayer
  grouping_shown y = map-BoundGrouping ShownExpr ShownItem ShownQuery ShownRow ShownSource ShownLink
      ShownGrouping ShownSelect
      BoundExpr BoundFromItem BoundQuery BoundRow BoundSource BoundLink
      BoundGrouping BoundSelect (λ x. x.0) (λ x. x.0) (λ x. x.0) (λ x. x.0) (λ x. x.0) (λ x. x.0)
      (λ x. x.0) (λ x. x.0) y

  abbrev select_shown : BoundSelect-F ShownExpr ShownItem ShownQuery ShownRow ShownSource ShownLink
      ShownGrouping ShownSelect → SelectLayer
  select_shown y = map-BoundSelect ShownExpr ShownItem ShownQuery ShownRow ShownSource ShownLink
      ShownGrouping ShownSelect
      BoundExpr BoundFromItem BoundQuery BoundRow BoundSource BoundLink
      BoundGrouping BoundSelect (λ x. x.0) (λ x. x.0) (λ x. x.0) (λ x. x.0) (λ x. x.0) (λ x. x.0)
      (λ x. x.0) (λ x. x.0) y

  -- ---- one layer

  expr-layer : (y : BoundExpr-F ShownExpr ShownItem ShownQuery ShownRow ShownSource ShownLink
      ShownGrouping ShownSelect) →
      Same (expr_uses (expr_uses_seen (expr_shown y))) →
      SameKind (expr_kind (expr_kinded (expr_shown y)))
  expr-layer (BoundExpr-F.Literal v) s a = refl
  expr-layer (BoundExpr-F.Column level place) s a = refl
  expr-layer (BoundExpr-F.Variable slot) s a = refl
  expr-layer (BoundExpr-F.Operation word operands) s a =
      λ i. then (kinds-same (map kind_of (map (λ x. x.0) operands))
      (each-shown uses_in kind_of SameKind operands s) a i)
      (λ ks. only_if (allows word ks) (Some (gives word ks)))
  expr-layer (BoundExpr-F.Chain first rest) s a =
      let others = joined (map uses_in_link (map (λ x. x.0) rest)) in
      λ i. then (first.1 (front (uses_in first.0) others s) a i)
      (λ k. chain-same (map kind_of_link (map (λ x. x.0) rest))
      (each-shown uses_in_link kind_of_link SameLink rest (back (uses_in first.0) others s)) a k i)
  expr-layer (BoundExpr-F.Call name args) s a =
      λ i. then (kinds-same (map kind_of (map (λ x. x.0) args))
      (each-shown uses_in kind_of SameKind args s.1) a i)
      (λ ks. call_kind (s.0.functions i) ks)
  expr-layer (BoundExpr-F.Single q) s a = λ i. then (q.1 s a i) only_column
  expr-layer (BoundExpr-F.Exists q) s a = λ i. then (q.1 s a i) (λ ks. Some Boolean)
  expr-layer (BoundExpr-F.In e q) s a =
      λ i. then (e.1 (front (uses_in e.0) (uses_in_query q.0) s) a i)
      (λ k. then (then (q.1 (back (uses_in e.0) (uses_in_query q.0) s) a i) only_column)
      (λ j. only_if (fits k j) (Some Boolean)))

  item-layer : (y : BoundFromItem-F ShownExpr ShownItem ShownQuery ShownRow ShownSource ShownLink
      ShownGrouping ShownSelect) →
      Same (item_uses (item_uses_seen (item_shown y))) →
      SameFrom (item_kinds (item_kinded (item_shown y)))
  item-layer (BoundFromItem-F.Comma f) s a so =
      λ i. then (f.1 s a i) (λ ks. Some (past_comma so ks))
  item-layer (BoundFromItem-F.Cross f) s a so =
      λ i. then (f.1 s a i) (λ ks. Some (joined_with so ks))
  item-layer (BoundFromItem-F.Inner f on) s a so =
      let conditions = joined (map uses_in (map (λ x. x.0) on)) in
      λ i. then (f.1 (front (uses_in_source f.0) conditions s) a i)
      (λ ks. on-same (map kind_of (map (λ x. x.0) on))
      (each-shown uses_in kind_of SameKind on (back (uses_in_source f.0) conditions s)) a
      (joined_with so ks) i)
  item-layer (BoundFromItem-F.Left f on) s a so =
      let conditions = joined (map uses_in (map (λ x. x.0) on)) in
      λ i. then (f.1 (front (uses_in_source f.0) conditions s) a i)
      (λ ks. on-same (map kind_of (map (λ x. x.0) on))
      (each-shown uses_in kind_of SameKind on (back (uses_in_source f.0) conditions s)) a
      (joined_with so ks) i)

  query-layer : (y : BoundQuery-F ShownExpr ShownItem ShownQuery ShownRow ShownSource ShownLink
      ShownGrouping ShownSelect) →
      Same (query_uses (query_uses_seen (query_shown y))) →
      SameColumns (query_kinds (query_kinded (query_shown y)))
  query-layer (BoundQuery-F.Select select) s a = select.1 s a
  query-layer (BoundQuery-F.Values rs) s a = rows-same (map exprs_of_row (map (λ x. x.0) rs))
      (each-shown uses_in_row exprs_of_row (Each SameKind) rs s) a
  query-layer (BoundQuery-F.Ordered q keys) s a =
      λ i. then (q.1 s a i) (λ ks. only_if (keys_within (length ks) keys) (Some ks))

  row-layer : (y : BoundRow-F ShownExpr ShownItem ShownQuery ShownRow ShownSource ShownLink
      ShownGrouping ShownSelect) →
      Same (row_uses (row_uses_seen (row_shown y))) →
      Each SameKind (row_exprs (row_kinded (row_shown y)))
  row-layer (BoundRow-F.Row es) s = each-shown uses_in kind_of SameKind es s

  source-layer : (y : BoundSource-F ShownExpr ShownItem ShownQuery ShownRow ShownSource ShownLink
      ShownGrouping ShownSelect) →
      Same (source_uses (source_uses_seen (source_shown y))) →
      SameColumns (source_kinds (source_kinded (source_shown y)))
  source-layer (BoundSource-F.Table name) s a = λ i. columns_of_table (s.0.tables i)
  source-layer (BoundSource-F.Derived q) s a = q.1 s a

  link-layer : (y : BoundLink-F ShownExpr ShownItem ShownQuery ShownRow ShownSource ShownLink
      ShownGrouping ShownSelect) →
      Same (link_uses (link_uses_seen (link_shown y))) →
      SameLink (link_kind (link_kinded (link_shown y)))
  link-layer y s = y.operand.1 s

  grouping-layer : (y : BoundGrouping-F ShownExpr ShownItem ShownQuery ShownRow ShownSource
      ShownLink ShownGrouping ShownSelect) →
      Same (grouping_uses (grouping_uses_seen (grouping_shown y))) →
      SameGroups (group_kinds (grouping_kinded (grouping_shown y)))
  grouping-layer y s =
      let parts = joined (map uses_in (map (λ x. x.0) y.parts)) in
      let having = joined (map uses_in (map (λ x. x.0) y.having)) in
      record {
        parts = each-shown uses_in kind_of SameKind y.parts (front parts having s);
        having = each-shown uses_in kind_of SameKind y.having (back parts having s);
      }

  select-parts : (items conjuncts : List ShownExpr) (from : List ShownItem) (grouping : Uses)
      (g : Option GroupKinds)
      → Same (joined (map uses_in_item (map (λ x. x.0) from)) ++
      (joined (map uses_in (map (λ x. x.0) conjuncts)) ++
      (grouping ++ joined (map uses_in (map (λ x. x.0) items)))))
      → (Same grouping → IfThere SameGroups g)
      → SameColumns (select_kinds (record {
        items = map kind_of (map (λ x. x.0) items);
        from = map kinds_of_item (map (λ x. x.0) from);
        conjuncts = map kind_of (map (λ x. x.0) conjuncts);
        grouping = g;
      }))
  select-parts items conjuncts from grouping g s same =
      let list = joined (map uses_in (map (λ x. x.0) items)) in
      let where_uses = joined (map uses_in (map (λ x. x.0) conjuncts)) in
      let tables = joined (map uses_in_item (map (λ x. x.0) from)) in
      let past = back tables (where_uses ++ (grouping ++ list)) s in
      let past_where = back where_uses (grouping ++ list) past in
      select-same (map kind_of (map (λ x. x.0) items)) (map kind_of (map (λ x. x.0) conjuncts))
      (map kinds_of_item (map (λ x. x.0) from)) g
      (each-shown uses_in kind_of SameKind items (back grouping list past_where))
      (each-shown uses_in kind_of SameKind conjuncts (front where_uses (grouping ++ list) past))
      (each-shown uses_in_item kinds_of_item SameFrom from
      (front tables (where_uses ++ (grouping ++ list)) s))
      (same (front grouping list past_where))

  select-made : (items : List ShownExpr) (from : List ShownItem) (conjuncts : List ShownExpr)
      (g : Option ShownGrouping) →
      let y : BoundSelect-F ShownExpr ShownItem ShownQuery ShownRow ShownSource ShownLink
      ShownGrouping ShownSelect =
      record { items = items; from = from; conjuncts = conjuncts; grouping = g } in
      Same (select_uses (select_uses_seen (select_shown y))) →
      SameColumns (select_kinds (select_kinded (select_shown y)))
  select-made items from conjuncts None s =
      select-parts items conjuncts from [] None s (λ h. tt)
  select-made items from conjuncts (Some g) s =
      select-parts items conjuncts from (uses_in_grouping g.0) (Some (kinds_of_grouping g.0)) s g.1

  select-layer : (y : BoundSelect-F ShownExpr ShownItem ShownQuery ShownRow ShownSource ShownLink
      ShownGrouping ShownSelect) →
      Same (select_uses (select_uses_seen (select_shown y))) →
      SameColumns (select_kinds (select_kinded (select_shown y)))
  select-layer y s = select-made y.items y.from y.conjuncts y.grouping s

  -- ---- whole trees

  expr-whole : (y : BoundExpr-F ShownExpr ShownItem ShownQuery ShownRow ShownSource ShownLink
      ShownGrouping ShownSelect) →
      Lasts uses_in kind_of SameKind (roll-BoundExpr (expr_shown y))
  expr-whole y s = subst SameKind (sym (kind_of-at (expr_shown y)))
      (expr-layer y (subst Same (expr_uses-at (expr_shown y)) s))

  item-whole : (y : BoundFromItem-F ShownExpr ShownItem ShownQuery ShownRow ShownSource ShownLink
      ShownGrouping ShownSelect) →
      Lasts uses_in_item kinds_of_item SameFrom (roll-BoundFromItem (item_shown y))
  item-whole y s = subst SameFrom (sym (kinds_of_item-at (item_shown y)))
      (item-layer y (subst Same (item_uses-at (item_shown y)) s))

  query-whole : (y : BoundQuery-F ShownExpr ShownItem ShownQuery ShownRow ShownSource ShownLink
      ShownGrouping ShownSelect) →
      Lasts uses_in_query kinds_of_query SameColumns (roll-BoundQuery (query_shown y))
  query-whole y s = subst SameColumns (sym (kinds_of_query-at (query_shown y)))
      (query-layer y (subst Same (query_uses-at (query_shown y)) s))

  row-whole : (y : BoundRow-F ShownExpr ShownItem ShownQuery ShownRow ShownSource ShownLink
      ShownGrouping ShownSelect) →
      Lasts uses_in_row exprs_of_row (Each SameKind) (roll-BoundRow (row_shown y))
  row-whole y s = subst (Each SameKind) (sym (exprs_of_row-at (row_shown y)))
      (row-layer y (subst Same (row_uses-at (row_shown y)) s))

  source-whole : (y : BoundSource-F ShownExpr ShownItem ShownQuery ShownRow ShownSource ShownLink
      ShownGrouping ShownSelect) →
      Lasts uses_in_source kinds_of_source SameColumns (roll-BoundSource (source_shown y))
  source-whole y s = subst SameColumns (sym (kinds_of_source-at (source_shown y)))
      (source-layer y (subst Same (source_uses-at (source_shown y)) s))

  link-whole : (y : BoundLink-F ShownExpr ShownItem ShownQuery ShownRow ShownSource ShownLink
      ShownGrouping ShownSelect) →
      Lasts uses_in_link kind_of_link SameLink (roll-BoundLink (link_shown y))
  link-whole y s = subst SameLink (sym (kind_of_link-at (link_shown y)))
      (link-layer y (subst Same (link_uses-at (link_shown y)) s))

  grouping-whole : (y : BoundGrouping-F ShownExpr ShownItem ShownQuery ShownRow ShownSource
      ShownLink ShownGrouping ShownSelect) →
      Lasts uses_in_grouping kinds_of_grouping SameGroups (roll-BoundGrouping (grouping_shown y))
  grouping-whole y s = subst SameGroups (sym (kinds_of_grouping-at (grouping_shown y)))
      (grouping-layer y (subst Same (grouping_uses-at (grouping_shown y)) s))

  select-whole : (y : BoundSelect-F ShownExpr ShownItem ShownQuery ShownRow ShownSource ShownLink
      ShownGrouping ShownSelect) →
      Lasts uses_in_select kinds_of_select SameColumns (roll-BoundSelect (select_shown y))
  select-whole y s = subst SameColumns (sym (kinds_of_select-at (select_shown y)))
      (select-layer y (subst Same (select_uses-at (select_shown y)) s))

  pub expr-same : (x : BoundExpr) → Lasts uses_in kind_of SameKind x
  expr-same =
      ind-BoundExpr (Lasts uses_in kind_of SameKind)
      (Lasts uses_in_item kinds_of_item SameFrom)
      (Lasts uses_in_query kinds_of_query SameColumns)
      (Lasts uses_in_row exprs_of_row (Each SameKind))
      (Lasts uses_in_source kinds_of_source SameColumns)
      (Lasts uses_in_link kind_of_link SameLink)
      (Lasts uses_in_grouping kinds_of_grouping SameGroups)
      (Lasts uses_in_select kinds_of_select SameColumns)
      (λ x y is. subst (λ z. Lasts uses_in kind_of SameKind (roll-BoundExpr z)) is
      (expr-whole y))
      (λ x y is. subst (λ z. Lasts uses_in_item kinds_of_item SameFrom (roll-BoundFromItem z)) is
      (item-whole y))
      (λ x y is. subst (λ z. Lasts uses_in_query kinds_of_query SameColumns (roll-BoundQuery z)) is
      (query-whole y))
      (λ x y is. subst (λ z. Lasts uses_in_row exprs_of_row (Each SameKind) (roll-BoundRow z)) is
      (row-whole y))
      (λ x y is. subst (λ z. Lasts uses_in_source kinds_of_source SameColumns (roll-BoundSource z))
      is (source-whole y))
      (λ x y is. subst (λ z. Lasts uses_in_link kind_of_link SameLink (roll-BoundLink z)) is
      (link-whole y))
      (λ x y is. subst (λ z. Lasts uses_in_grouping kinds_of_grouping SameGroups
      (roll-BoundGrouping z)) is
      (grouping-whole y))
      (λ x y is. subst (λ z. Lasts uses_in_select kinds_of_select SameColumns (roll-BoundSelect z))
      is (select-whole y))

  pub query-same : (x : BoundQuery) → Lasts uses_in_query kinds_of_query SameColumns x
  query-same =
      ind-BoundQuery (Lasts uses_in kind_of SameKind)
      (Lasts uses_in_item kinds_of_item SameFrom)
      (Lasts uses_in_query kinds_of_query SameColumns)
      (Lasts uses_in_row exprs_of_row (Each SameKind))
      (Lasts uses_in_source kinds_of_source SameColumns)
      (Lasts uses_in_link kind_of_link SameLink)
      (Lasts uses_in_grouping kinds_of_grouping SameGroups)
      (Lasts uses_in_select kinds_of_select SameColumns)
      (λ x y is. subst (λ z. Lasts uses_in kind_of SameKind (roll-BoundExpr z)) is
      (expr-whole y))
      (λ x y is. subst (λ z. Lasts uses_in_item kinds_of_item SameFrom (roll-BoundFromItem z)) is
      (item-whole y))
      (λ x y is. subst (λ z. Lasts uses_in_query kinds_of_query SameColumns (roll-BoundQuery z)) is
      (query-whole y))
      (λ x y is. subst (λ z. Lasts uses_in_row exprs_of_row (Each SameKind) (roll-BoundRow z)) is
      (row-whole y))
      (λ x y is. subst (λ z. Lasts uses_in_source kinds_of_source SameColumns (roll-BoundSource z))
      is (source-whole y))
      (λ x y is. subst (λ z. Lasts uses_in_link kind_of_link SameLink (roll-BoundLink z)) is
      (link-whole y))
      (λ x y is. subst (λ z. Lasts uses_in_grouping kinds_of_grouping SameGroups
      (roll-BoundGrouping z)) is
      (grouping-whole y))
      (λ x y is. subst (λ z. Lasts uses_in_select kinds_of_select SameColumns (roll-BoundSelect z))
      is (select-whole y))
