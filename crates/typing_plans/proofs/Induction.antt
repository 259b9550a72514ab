-- Each well typed tree is shaped: by induction over bound trees.
use Rattle.std.proofs.Common.{◌≡◌, ℕ, true, List, [], ◌∷◌, map, Option, Some, None, sym, subst}
use Rattle.std.proofs.Common.{◌∙◌, ◌&&◌, refl, ap, length}
use Rattle.std.proofs.lemmas.List.{length-map}
use Rattle.row_types.specs.declared.RowType.{RowType}
use Rattle.bound_trees.specs.declared.expr.BoundExpr.{BoundExpr, roll-BoundExpr}
use Rattle.bound_trees.specs.declared.query.BoundFromItem.{BoundFromItem, roll-BoundFromItem}
use Rattle.bound_trees.specs.declared.query.BoundQuery.{BoundQuery, roll-BoundQuery}
use Rattle.bound_trees.specs.declared.query.BoundRow.{BoundRow, roll-BoundRow}
use Rattle.bound_trees.specs.declared.query.BoundSource.{BoundSource, roll-BoundSource}
use Rattle.bound_trees.specs.declared.expr.BoundLink.{BoundLink, roll-BoundLink}
use Rattle.bound_trees.specs.declared.query.BoundGrouping.{BoundGrouping, roll-BoundGrouping}
use Rattle.bound_trees.specs.declared.query.BoundSelect.{BoundSelect, roll-BoundSelect}
use Rattle.bound_trees.specs.declared.expr.BoundExpr.TheOpen.{BoundExpr-F, BoundFromItem-F}
use Rattle.bound_trees.specs.declared.expr.BoundExpr.TheOpen.{BoundQuery-F, BoundRow-F}
use Rattle.bound_trees.specs.declared.expr.BoundExpr.TheOpen.{BoundSource-F, BoundLink-F}
use Rattle.bound_trees.specs.declared.expr.BoundExpr.TheOpen.{BoundGrouping-F, BoundSelect-F}
use Rattle.bound_trees.specs.declared.expr.BoundExpr.TheFolds.{map-BoundExpr, map-BoundFromItem}
use Rattle.bound_trees.specs.declared.expr.BoundExpr.TheFolds.{map-BoundQuery, map-BoundRow}
use Rattle.bound_trees.specs.declared.expr.BoundExpr.TheFolds.{map-BoundSource, map-BoundLink}
use Rattle.bound_trees.specs.declared.expr.BoundExpr.TheFolds.{map-BoundGrouping, map-BoundSelect}
use Rattle.bound_trees.specs.declared.expr.BoundExpr.TheFolds.{ind-BoundExpr, ind-BoundQuery}
use Rattle.rel_algebra.specs.Plain.{planned_expr, planned_all, planned_links, planned_routine}
use Rattle.rel_algebra.specs.Plain.{as_many, planned}
use Rattle.rel_algebra.specs.Tree.{count}
use Rattle.catalog_store.specs.Catalog.{Catalog, routine_named}
use Rattle.catalog_store.specs.View.{exprs, links, rows, tree_of, item_of, query_of, row_of}
use Rattle.catalog_store.specs.View.{source_of, link_of, grouping_of, select_of, expr_step}
use Rattle.catalog_store.specs.View.{item_step, query_step, row_step, source_step, link_step}
use Rattle.catalog_store.specs.View.{grouping_step, select_step}
use Rattle.catalog_store.proofs.Laws.{tree_of-at, item_of-at, query_of-at, row_of-at, source_of-at}
use Rattle.catalog_store.proofs.Laws.{link_of-at, grouping_of-at, select_of-at}
use Rattle.bind_kinds.specs.Kinds.{kind_of_type}
use Rattle.typing_trees.specs.Around.{then}
use Rattle.typing_trees.specs.Queries.{kinds_of, only_column, columns_of_table, expr_kind}
use Rattle.typing_trees.specs.Queries.{item_kinds, query_kinds}
use Rattle.typing_trees.specs.Queries.{row_exprs, source_kinds, link_kind, group_kinds}
use Rattle.typing_trees.specs.Queries.{select_kinds, kind_of, kinds_of_item, kinds_of_query}
use Rattle.typing_trees.specs.Queries.{exprs_of_row, kinds_of_source, kind_of_link}
use Rattle.typing_trees.specs.Queries.{kinds_of_grouping, kinds_of_select}
use Rattle.typing_plans.specs.Shaping.{BodiesShaped}
use Rattle.typing_plans.proofs.Parts.{then_some, halves, one_column, some_same}
use Rattle.typing_plans.proofs.Shapes.{ExprGood, QueryGood, SourceGood, AllGood, LinksGood}
use Rattle.typing_plans.proofs.Shapes.{RowsGood, GroupGood, all_shaped, links_shaped}
use Rattle.typing_plans.proofs.Shapes.{operated_shaped, values_good, ordered_good}
use Rattle.typing_plans.proofs.Froms.{ItemGood, FromsGood, comma_good, cross_good}
use Rattle.typing_plans.proofs.Froms.{inner_good, left_good, select_good}
use Rattle.typing_plans.proofs.Layers.{expr_kinded, item_kinded, query_kinded, row_kinded}
use Rattle.typing_plans.proofs.Layers.{source_kinded, link_kinded, grouping_kinded, select_kinded}
use Rattle.typing_plans.proofs.Layers.{kind_of-at, kinds_of_item-at, kinds_of_query-at}
use Rattle.typing_plans.proofs.Layers.{exprs_of_row-at, kinds_of_source-at, kind_of_link-at}
use Rattle.typing_plans.proofs.Layers.{kinds_of_grouping-at, kinds_of_select-at, expr_seen}
use Rattle.typing_plans.proofs.Layers.{item_seen, query_seen, row_seen, source_seen, link_seen}
use Rattle.typing_plans.proofs.Layers.{grouping_seen, select_seen}

-- what holds of two things holds of two that are equal to them
pub pair : {A B : Type 0} (R : A → B → Type 0) (a a' : A) (b b' : B) → a ≡ a' → b ≡ b' → R a' b' →
    R a b
pair R a a' b b' p q r = subst (λ x. R x b) (sym p) (subst (R a') (sym q) r)

module _ (known : Catalog) (widths : List ℕ → ℕ) (bodies : BodiesShaped known widths) where
  abbrev ExprHolds : BoundExpr → Type 0
  ExprHolds x = ExprGood widths (kind_of x) (tree_of known x)

  abbrev ItemHolds : BoundFromItem → Type 0
  ItemHolds x = ItemGood widths (kinds_of_item x) (item_of known x)

  abbrev QueryHolds : BoundQuery → Type 0
  QueryHolds x = QueryGood widths (kinds_of_query x) (query_of known x)

  abbrev RowHolds : BoundRow → Type 0
  RowHolds x = AllGood widths (exprs_of_row x) (row_of known x)

  abbrev SourceHolds : BoundSource → Type 0
  SourceHolds x = SourceGood widths (kinds_of_source x) (source_of known x)

  abbrev LinkHolds : BoundLink → Type 0
  LinkHolds x = ExprGood widths (kind_of_link x).operand (link_of known x).operand

  abbrev GroupingHolds : BoundGrouping → Type 0
  GroupingHolds x = GroupGood widths (kinds_of_grouping x) (grouping_of known x)

  abbrev SelectHolds : BoundSelect → Type 0
  SelectHolds x = QueryGood widths (kinds_of_select x) (select_of known x)

  abbrev ShownExpr : Type 0
  ShownExpr = (x : BoundExpr) × ExprHolds x

  abbrev ShownItem : Type 0
  ShownItem = (x : BoundFromItem) × ItemHolds x

  abbrev ShownQuery : Type 0
  ShownQuery = (x : BoundQuery) × QueryHolds x

  abbrev ShownRow : Type 0
  ShownRow = (x : BoundRow) × RowHolds x

  abbrev ShownSource : Type 0
  ShownSource = (x : BoundSource) × SourceHolds x

  abbrev ShownLink : Type 0
  ShownLink = (x : BoundLink) × LinkHolds x

  abbrev ShownGrouping : Type 0
  ShownGrouping = (x : BoundGrouping) × GroupingHolds x

  abbrev ShownSelect : Type 0
  ShownSelect = (x : BoundSelect) × SelectHolds x

  abbrev expr_shown : BoundExpr-F ShownExpr ShownItem ShownQuery ShownRow ShownSource ShownLink
      ShownGrouping ShownSelect → BoundExpr-F BoundExpr BoundFromItem BoundQuery BoundRow
      BoundSource BoundLink BoundGrouping BoundSelect
  expr_shown y = map-BoundExpr ShownExpr ShownItem ShownQuery ShownRow ShownSource ShownLink
      ShownGrouping ShownSelect BoundExpr BoundFromItem BoundQuery BoundRow BoundSource BoundLink
      BoundGrouping BoundSelect (λ x. x.0) (λ x. x.0) (λ x. x.0) (λ x. x.0) (λ x. x.0) (λ x. x.0) (λ
      x. x.0) (λ x. x.0) y

  abbrev item_shown : BoundFromItem-F ShownExpr ShownItem ShownQuery ShownRow ShownSource ShownLink
      ShownGrouping ShownSelect → BoundFromItem-F BoundExpr BoundFromItem BoundQuery BoundRow
      BoundSource BoundLink BoundGrouping BoundSelect
  item_shown y = map-BoundFromItem ShownExpr ShownItem ShownQuery ShownRow ShownSource ShownLink
      ShownGrouping ShownSelect BoundExpr BoundFromItem BoundQuery BoundRow BoundSource BoundLink
      BoundGrouping BoundSelect (λ x. x.0) (λ x. x.0) (λ x. x.0) (λ x. x.0) (λ x. x.0) (λ x. x.0) (λ
      x. x.0) (λ x. x.0) y

  abbrev query_shown : BoundQuery-F ShownExpr ShownItem ShownQuery ShownRow ShownSource ShownLink
      ShownGrouping ShownSelect → BoundQuery-F BoundExpr BoundFromItem BoundQuery BoundRow
      BoundSource BoundLink BoundGrouping BoundSelect
  query_shown y = map-BoundQuery ShownExpr ShownItem ShownQuery ShownRow ShownSource ShownLink
      ShownGrouping ShownSelect BoundExpr BoundFromItem BoundQuery BoundRow BoundSource BoundLink
      BoundGrouping BoundSelect (λ x. x.0) (λ x. x.0) (λ x. x.0) (λ x. x.0) (λ x. x.0) (λ x. x.0) (λ
      x. x.0) (λ x. x.0) y

  abbrev row_shown : BoundRow-F ShownExpr ShownItem ShownQuery ShownRow ShownSource ShownLink
      ShownGrouping ShownSelect → BoundRow-F BoundExpr BoundFromItem BoundQuery BoundRow BoundSource
      BoundLink BoundGrouping BoundSelect
  row_shown y = map-BoundRow ShownExpr ShownItem ShownQuery ShownRow ShownSource ShownLink
      ShownGrouping ShownSelect BoundExpr BoundFromItem BoundQuery BoundRow BoundSource BoundLink
      BoundGrouping BoundSelect (λ x. x.0) (λ x. x.0) (λ x. x.0) (λ x. x.0) (λ x. x.0) (λ x. x.0) (λ
      x. x.0) (λ x. x.0) y

  abbrev source_shown : BoundSource-F ShownExpr ShownItem ShownQuery ShownRow ShownSource ShownLink
      ShownGrouping ShownSelect → BoundSource-F BoundExpr BoundFromItem BoundQuery BoundRow
      BoundSource BoundLink BoundGrouping BoundSelect
  source_shown y = map-BoundSource ShownExpr ShownItem ShownQuery ShownRow ShownSource ShownLink
      ShownGrouping ShownSelect BoundExpr BoundFromItem BoundQuery BoundRow BoundSource BoundLink
      BoundGrouping BoundSelect (λ x. x.0) (λ x. x.0) (λ x. x.0) (λ x. x.0) (λ x. x.0) (λ x. x.0) (λ
      x. x.0) (λ x. x.0) y

  abbrev link_shown : BoundLink-F ShownExpr ShownItem ShownQuery ShownRow ShownSource ShownLink
      ShownGrouping ShownSelect → BoundLink-F BoundExpr BoundFromItem BoundQuery BoundRow
      BoundSource BoundLink BoundGrouping BoundSelect
  link_shown y = map-BoundLink ShownExpr ShownItem ShownQuery ShownRow ShownSource ShownLink
      ShownGrouping ShownSelect BoundExpr BoundFromItem BoundQuery BoundRow BoundSource BoundLink
      BoundGrouping BoundSelect (λ x. x.0) (λ x. x.0) (λ x. x.0) (λ x. x.0) (λ x. x.0) (λ x. x.0) (λ
      x. x.0) (λ x. x.0) y

  abbrev grouping_shown : BoundGrouping-F ShownExpr ShownItem ShownQuery ShownRow ShownSource
      ShownLink ShownGrouping ShownSelect → BoundGrouping-F BoundExpr BoundFromItem BoundQuery
      BoundRow BoundSource BoundLink BoundGrouping BoundSelect
  grouping_shown y = map-BoundGrouping ShownExpr ShownItem ShownQuery ShownRow ShownSource ShownLink
      ShownGrouping ShownSelect BoundExpr BoundFromItem BoundQuery BoundRow BoundSource BoundLink
      BoundGrouping BoundSelect (λ x. x.0) (λ x. x.0) (λ x. x.0) (λ x. x.0) (λ x. x.0) (λ x. x.0) (λ
      x. x.0) (λ x. x.0) y

  abbrev select_shown : BoundSelect-F ShownExpr ShownItem ShownQuery ShownRow ShownSource ShownLink
      ShownGrouping ShownSelect → BoundSelect-F BoundExpr BoundFromItem BoundQuery BoundRow
      BoundSource BoundLink BoundGrouping BoundSelect
  select_shown y = map-BoundSelect ShownExpr ShownItem ShownQuery ShownRow ShownSource ShownLink
      ShownGrouping ShownSelect BoundExpr BoundFromItem BoundQuery BoundRow BoundSource BoundLink
      BoundGrouping BoundSelect (λ x. x.0) (λ x. x.0) (λ x. x.0) (λ x. x.0) (λ x. x.0) (λ x. x.0) (λ
      x. x.0) (λ x. x.0) y

  -- ---- lists

  all_of : (xs : List ShownExpr) → AllGood widths (map kind_of (map (λ x. x.0) xs))
      (exprs (map (tree_of known) (map (λ x. x.0) xs)))
  all_of [] = tt
  all_of (x ∷ xs) = (x.1, all_of xs)

  links_of_all : (xs : List ShownLink) → LinksGood widths (map kind_of_link (map (λ x. x.0) xs))
      (links (map (link_of known) (map (λ x. x.0) xs)))
  links_of_all [] = tt
  links_of_all (x ∷ xs) = (x.1, links_of_all xs)

  rows_of_all : (xs : List ShownRow) → RowsGood widths (map exprs_of_row (map (λ x. x.0) xs))
      (rows (map (row_of known) (map (λ x. x.0) xs)))
  rows_of_all [] = tt
  rows_of_all (x ∷ xs) = (x.1, rows_of_all xs)

  froms_of : (xs : List ShownItem) → FromsGood widths (map kinds_of_item (map (λ x. x.0) xs))
      (map (item_of known) (map (λ x. x.0) xs))
  froms_of [] = tt
  froms_of (x ∷ xs) = (x.1, froms_of xs)

  -- ---- one layer

  expr_layer : (y : BoundExpr-F ShownExpr ShownItem ShownQuery ShownRow ShownSource ShownLink
      ShownGrouping ShownSelect) → ExprGood widths (expr_kind (expr_kinded (expr_shown y)))
      (expr_step known (expr_seen known (expr_shown y)))
  expr_layer (BoundExpr-F.Literal v) a k w h p = tt
  expr_layer (BoundExpr-F.Column level i) a k w h p = tt
  expr_layer (BoundExpr-F.Variable i) a k w h p = tt
  expr_layer (BoundExpr-F.Operation word operands) a k w h p =
      let es = map kind_of (map (λ x. x.0) operands) in
      let ts = map (tree_of known) (map (λ x. x.0) operands) in
      let kinds = then_some (kinds_of a es) _ k h in
      operated_shaped widths word ts
      (all_shaped widths es (exprs ts) (all_of operands) a kinds.0 w kinds.1) p
  expr_layer (BoundExpr-F.Chain first rest) a k w h p =
      let ls = map kind_of_link (map (λ x. x.0) rest) in
      let ts = links (map (link_of known) (map (λ x. x.0) rest)) in
      let both = halves (planned_expr (tree_of known first.0)) (planned_links ts) p in
      let one = then_some (kind_of first.0 a) _ k h in (
        first.1 a one.0 w one.1 both.0,
        links_shaped widths ls ts (links_of_all rest) a one.0 k w one.2 both.1,
      )
  expr_layer (BoundExpr-F.Call name args) a k w h p =
      let es = map kind_of (map (λ x. x.0) args) in
      let ts = exprs (map (tree_of known) (map (λ x. x.0) args)) in
      let r = routine_named name known in
      let both = halves (planned_routine r) (planned_all ts && as_many r (count ts)) p in
      let values = halves (planned_all ts) (as_many r (count ts)) both.1 in
      let kinds = then_some (kinds_of a es) _ k h in
      (bodies name both.0, all_shaped widths es ts (all_of args) a kinds.0 w kinds.1 values.0)
  expr_layer (BoundExpr-F.Single q) a k w h p =
      let kinds = then_some (kinds_of_query q.0 a) only_column k h in
      let one = q.1 a kinds.0 w kinds.1 in (one.0 ∙ one_column kinds.0 k kinds.2, one.1 p)
  expr_layer (BoundExpr-F.Exists q) a k w h p =
      let kinds = then_some (kinds_of_query q.0 a) _ k h in (q.1 a kinds.0 w kinds.1).1 p
  expr_layer (BoundExpr-F.In e q) a k w h p =
      let both = halves (planned_expr (tree_of known e.0)) (planned (query_of known q.0)) p in
      let left = then_some (kind_of e.0 a) _ k h in
      let column = then_some (then (kinds_of_query q.0 a) only_column) _ k left.2 in
      let kinds = then_some (kinds_of_query q.0 a) only_column column.0 column.1 in
      let one = q.1 a kinds.0 w kinds.1 in
      (e.1 a left.0 w left.1 both.0, one.0 ∙ one_column kinds.0 column.0 kinds.2, one.1 both.1)

  item_layer : (y : BoundFromItem-F ShownExpr ShownItem ShownQuery ShownRow ShownSource ShownLink
      ShownGrouping ShownSelect) → ItemGood widths (item_kinds (item_kinded (item_shown y)))
      (item_step (item_seen known (item_shown y)))
  item_layer (BoundFromItem-F.Comma f) =
      comma_good widths (kinds_of_source f.0) (source_of known f.0) f.1
  item_layer (BoundFromItem-F.Cross f) =
      cross_good widths (kinds_of_source f.0) (source_of known f.0) f.1
  item_layer (BoundFromItem-F.Inner f on) =
      inner_good widths (kinds_of_source f.0) (source_of known f.0)
      (map kind_of (map (λ x. x.0) on)) (exprs (map (tree_of known) (map (λ x. x.0) on))) f.1
      (all_of on)
  item_layer (BoundFromItem-F.Left f on) =
      left_good widths (kinds_of_source f.0) (source_of known f.0)
      (map kind_of (map (λ x. x.0) on)) (exprs (map (tree_of known) (map (λ x. x.0) on))) f.1
      (all_of on)

  query_layer : (y : BoundQuery-F ShownExpr ShownItem ShownQuery ShownRow ShownSource ShownLink
      ShownGrouping ShownSelect) → QueryGood widths (query_kinds (query_kinded (query_shown y)))
      (query_step (query_seen known (query_shown y)))
  query_layer (BoundQuery-F.Select select) a ks w h = select.1 a ks w h
  query_layer (BoundQuery-F.Values rs) a ks w h =
      values_good widths (map exprs_of_row (map (λ x. x.0) rs))
      (rows (map (row_of known) (map (λ x. x.0) rs))) (rows_of_all rs) a ks w h
  query_layer (BoundQuery-F.Ordered q keys) a ks w h =
      ordered_good widths (kinds_of_query q.0) (query_of known q.0) keys q.1 a ks w h

  row_layer : (y : BoundRow-F ShownExpr ShownItem ShownQuery ShownRow ShownSource ShownLink
      ShownGrouping ShownSelect) → AllGood widths (row_exprs (row_kinded (row_shown y))) (row_step
      (row_seen known (row_shown y)))
  row_layer (BoundRow-F.Row es) = all_of es

  source_layer : (y : BoundSource-F ShownExpr ShownItem ShownQuery ShownRow ShownSource ShownLink
      ShownGrouping ShownSelect) → SourceGood widths (source_kinds (source_kinded (source_shown y)))
      (source_step (source_seen known (source_shown y)))
  source_layer (BoundSource-F.Table name) a ks w h = table_wide (a.tables name) refl h
    where
      table_wide : (t : Option RowType) → a.tables name ≡ t → columns_of_table t ≡ Some ks →
          (widths name ≡ length ks) × (true ≡ true → Unit {0})
      table_wide None e h = absurd cc
      table_wide (Some t) e h = (
        w name t e ∙ sym (length-map t.columns (λ c. kind_of_type c.data_type)) ∙
            ap length (some_same _ ks h),
        λ p. tt,
      )
  source_layer (BoundSource-F.Derived q) a ks w h = q.1 a ks w h

  grouping_layer : (y : BoundGrouping-F ShownExpr ShownItem ShownQuery ShownRow ShownSource
      ShownLink ShownGrouping ShownSelect) → GroupGood widths (group_kinds (grouping_kinded
      (grouping_shown y))) (grouping_step (grouping_seen known (grouping_shown y)))
  grouping_layer y = record {
    keys = refl;
    aggregates = refl;
    parts = all_of y.parts;
    having = all_of y.having;
  }

  select_made : (items : List ShownExpr) (from : List ShownItem) (conjuncts : List ShownExpr) (g :
      Option ShownGrouping) → let y : BoundSelect-F ShownExpr ShownItem ShownQuery ShownRow
      ShownSource ShownLink ShownGrouping ShownSelect = record {
        items = items;
        from = from;
        conjuncts = conjuncts;
        grouping = g;
      } in QueryGood widths (select_kinds (select_kinded
      (select_shown y))) (select_step (select_seen known (select_shown y)))
  select_made items from conjuncts None =
      select_good widths (map kinds_of_item (map (λ x. x.0) from))
      (map (item_of known) (map (λ x. x.0) from)) (map kind_of (map (λ x. x.0) items))
      (map kind_of (map (λ x. x.0) conjuncts)) (exprs (map (tree_of known) (map (λ x. x.0) items)))
      (exprs (map (tree_of known) (map (λ x. x.0) conjuncts))) None None (froms_of from)
      (all_of items) (all_of conjuncts) tt
  select_made items from conjuncts (Some g) =
      select_good widths (map kinds_of_item (map (λ x. x.0) from))
      (map (item_of known) (map (λ x. x.0) from)) (map kind_of (map (λ x. x.0) items))
      (map kind_of (map (λ x. x.0) conjuncts)) (exprs (map (tree_of known) (map (λ x. x.0) items)))
      (exprs (map (tree_of known) (map (λ x. x.0) conjuncts))) (Some (kinds_of_grouping g.0))
      (Some (grouping_of known g.0)) (froms_of from) (all_of items) (all_of conjuncts) g.1

  select_layer : (y : BoundSelect-F ShownExpr ShownItem ShownQuery ShownRow ShownSource ShownLink
      ShownGrouping ShownSelect) → QueryGood widths (select_kinds (select_kinded (select_shown y)))
      (select_step (select_seen known (select_shown y)))
  select_layer y = select_made y.items y.from y.conjuncts y.grouping

  -- ---- whole trees

  expr_whole : (y : BoundExpr-F ShownExpr ShownItem ShownQuery ShownRow ShownSource ShownLink
      ShownGrouping ShownSelect) → ExprHolds (roll-BoundExpr (expr_shown y))
  expr_whole y = pair (ExprGood widths) (kind_of (roll-BoundExpr (expr_shown y))) (expr_kind
      (expr_kinded (expr_shown y))) (tree_of known (roll-BoundExpr (expr_shown y))) (expr_step known
      (expr_seen known (expr_shown y))) (kind_of-at (expr_shown y)) (tree_of-at known (expr_shown
      y)) (expr_layer y)

  item_whole : (y : BoundFromItem-F ShownExpr ShownItem ShownQuery ShownRow ShownSource ShownLink
      ShownGrouping ShownSelect) → ItemHolds (roll-BoundFromItem (item_shown y))
  item_whole y = pair (ItemGood widths) (kinds_of_item (roll-BoundFromItem (item_shown y)))
      (item_kinds (item_kinded (item_shown y))) (item_of known (roll-BoundFromItem (item_shown y)))
      (item_step (item_seen known (item_shown y))) (kinds_of_item-at (item_shown y)) (item_of-at
      known (item_shown y)) (item_layer y)

  query_whole : (y : BoundQuery-F ShownExpr ShownItem ShownQuery ShownRow ShownSource ShownLink
      ShownGrouping ShownSelect) → QueryHolds (roll-BoundQuery (query_shown y))
  query_whole y = pair (QueryGood widths) (kinds_of_query (roll-BoundQuery (query_shown y)))
      (query_kinds (query_kinded (query_shown y))) (query_of known (roll-BoundQuery (query_shown
      y))) (query_step (query_seen known (query_shown y))) (kinds_of_query-at (query_shown y))
      (query_of-at known (query_shown y)) (query_layer y)

  row_whole : (y : BoundRow-F ShownExpr ShownItem ShownQuery ShownRow ShownSource ShownLink
      ShownGrouping ShownSelect) → RowHolds (roll-BoundRow (row_shown y))
  row_whole y = pair (AllGood widths) (exprs_of_row (roll-BoundRow (row_shown y))) (row_exprs
      (row_kinded (row_shown y))) (row_of known (roll-BoundRow (row_shown y))) (row_step (row_seen
      known (row_shown y))) (exprs_of_row-at (row_shown y)) (row_of-at known (row_shown y))
      (row_layer y)

  source_whole : (y : BoundSource-F ShownExpr ShownItem ShownQuery ShownRow ShownSource ShownLink
      ShownGrouping ShownSelect) → SourceHolds (roll-BoundSource (source_shown y))
  source_whole y = pair (SourceGood widths) (kinds_of_source (roll-BoundSource (source_shown y)))
      (source_kinds (source_kinded (source_shown y))) (source_of known (roll-BoundSource
      (source_shown y))) (source_step (source_seen known (source_shown y))) (kinds_of_source-at
      (source_shown y)) (source_of-at known (source_shown y)) (source_layer y)

  link_whole : (y : BoundLink-F ShownExpr ShownItem ShownQuery ShownRow ShownSource ShownLink
      ShownGrouping ShownSelect) → LinkHolds (roll-BoundLink (link_shown y))
  link_whole y = pair (λ l t. ExprGood widths l.operand t.operand) (kind_of_link (roll-BoundLink
      (link_shown y))) (link_kind (link_kinded (link_shown y))) (link_of known (roll-BoundLink
      (link_shown y))) (link_step (link_seen known (link_shown y))) (kind_of_link-at (link_shown y))
      (link_of-at known (link_shown y)) y.operand.1

  grouping_whole : (y : BoundGrouping-F ShownExpr ShownItem ShownQuery ShownRow ShownSource
      ShownLink ShownGrouping ShownSelect) → GroupingHolds (roll-BoundGrouping (grouping_shown y))
  grouping_whole y = pair (GroupGood widths) (kinds_of_grouping (roll-BoundGrouping (grouping_shown
      y))) (group_kinds (grouping_kinded (grouping_shown y))) (grouping_of known (roll-BoundGrouping
      (grouping_shown y))) (grouping_step (grouping_seen known (grouping_shown y)))
      (kinds_of_grouping-at (grouping_shown y)) (grouping_of-at known (grouping_shown y))
      (grouping_layer y)

  select_whole : (y : BoundSelect-F ShownExpr ShownItem ShownQuery ShownRow ShownSource ShownLink
      ShownGrouping ShownSelect) → SelectHolds (roll-BoundSelect (select_shown y))
  select_whole y = pair (QueryGood widths) (kinds_of_select (roll-BoundSelect (select_shown y)))
      (select_kinds (select_kinded (select_shown y))) (select_of known (roll-BoundSelect
      (select_shown y))) (select_step (select_seen known (select_shown y))) (kinds_of_select-at
      (select_shown y)) (select_of-at known (select_shown y)) (select_layer y)

  pub expr_holds : (x : BoundExpr) → ExprHolds x
  expr_holds =
      ind-BoundExpr ExprHolds ItemHolds QueryHolds RowHolds
      SourceHolds LinkHolds GroupingHolds SelectHolds
      (λ x y is. subst (λ z. ExprHolds (roll-BoundExpr z)) is (expr_whole y))
      (λ x y is. subst (λ z. ItemHolds (roll-BoundFromItem z)) is (item_whole y))
      (λ x y is. subst (λ z. QueryHolds (roll-BoundQuery z)) is (query_whole y))
      (λ x y is. subst (λ z. RowHolds (roll-BoundRow z)) is (row_whole y))
      (λ x y is. subst (λ z. SourceHolds (roll-BoundSource z)) is (source_whole y))
      (λ x y is. subst (λ z. LinkHolds (roll-BoundLink z)) is (link_whole y))
      (λ x y is. subst (λ z. GroupingHolds (roll-BoundGrouping z)) is (grouping_whole y))
      (λ x y is. subst (λ z. SelectHolds (roll-BoundSelect z)) is (select_whole y))

  pub query_holds : (x : BoundQuery) → QueryHolds x
  query_holds =
      ind-BoundQuery ExprHolds ItemHolds QueryHolds RowHolds
      SourceHolds LinkHolds GroupingHolds SelectHolds
      (λ x y is. subst (λ z. ExprHolds (roll-BoundExpr z)) is (expr_whole y))
      (λ x y is. subst (λ z. ItemHolds (roll-BoundFromItem z)) is (item_whole y))
      (λ x y is. subst (λ z. QueryHolds (roll-BoundQuery z)) is (query_whole y))
      (λ x y is. subst (λ z. RowHolds (roll-BoundRow z)) is (row_whole y))
      (λ x y is. subst (λ z. SourceHolds (roll-BoundSource z)) is (source_whole y))
      (λ x y is. subst (λ z. LinkHolds (roll-BoundLink z)) is (link_whole y))
      (λ x y is. subst (λ z. GroupingHolds (roll-BoundGrouping z)) is (grouping_whole y))
      (λ x y is. subst (λ z. SelectHolds (roll-BoundSelect z)) is (select_whole y))
