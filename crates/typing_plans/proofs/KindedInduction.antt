-- Each well typed tree is typed in a plan: by induction over bound trees.
use Rattle.std.proofs.Common.{◌≡◌, inl, ℕ, List, [], ◌∷◌, map, Option, Some, None, subst}
use Rattle.std.proofs.Common.{◌&&◌, refl}
use Rattle.row_types.specs.declared.RowType.{RowType}
use Rattle.bound_trees.specs.declared.expr.BoundExpr.{BoundExpr, roll-BoundExpr}
use Rattle.bound_trees.specs.declared.query.BoundFromItem.{BoundFromItem, roll-BoundFromItem}
use Rattle.bound_trees.specs.declared.query.BoundQuery.{BoundQuery, roll-BoundQuery}
use Rattle.bound_trees.specs.declared.query.BoundRow.{BoundRow, roll-BoundRow}
use Rattle.bound_trees.specs.declared.query.BoundSource.{BoundSource, roll-BoundSource}
use Rattle.bound_trees.specs.declared.expr.BoundLink.{BoundLink, roll-BoundLink}
use Rattle.bound_trees.specs.declared.query.BoundGrouping.{BoundGrouping, roll-BoundGrouping}
use Rattle.bound_trees.specs.declared.query.BoundSelect.{BoundSelect, roll-BoundSelect}
use Rattle.bound_trees.specs.declared.expr.BoundExpr.TheOpen.{BoundExpr-F, BoundFromItem-F}
use Rattle.bound_trees.specs.declared.expr.BoundExpr.TheOpen.{BoundQuery-F, BoundRow-F}
use Rattle.bound_trees.specs.declared.expr.BoundExpr.TheOpen.{BoundSource-F, BoundLink-F}
use Rattle.bound_trees.specs.declared.expr.BoundExpr.TheOpen.{BoundGrouping-F, BoundSelect-F}
use Rattle.bound_trees.specs.declared.expr.BoundExpr.TheFolds.{map-BoundExpr, map-BoundFromItem}
use Rattle.bound_trees.specs.declared.expr.BoundExpr.TheFolds.{map-BoundQuery, map-BoundRow}
use Rattle.bound_trees.specs.declared.expr.BoundExpr.TheFolds.{map-BoundSource, map-BoundLink}
use Rattle.bound_trees.specs.declared.expr.BoundExpr.TheFolds.{map-BoundGrouping, map-BoundSelect}
use Rattle.bound_trees.specs.declared.expr.BoundExpr.TheFolds.{ind-BoundExpr, ind-BoundQuery}
use Rattle.rel_algebra.specs.Plain.{planned_expr, planned_all, planned_links, planned_routine}
use Rattle.rel_algebra.specs.Plain.{as_many, planned}
use Rattle.rel_algebra.specs.Tree.{count}
use Rattle.catalog_store.specs.Catalog.{Catalog, routine_named}
use Rattle.catalog_store.specs.View.{exprs, links, rows, tree_of, item_of, query_of, row_of}
use Rattle.catalog_store.specs.View.{source_of, link_of, grouping_of, select_of, expr_step}
use Rattle.catalog_store.specs.View.{item_step, query_step, row_step, source_step, link_step}
use Rattle.catalog_store.specs.View.{grouping_step, select_step}
use Rattle.catalog_store.proofs.Laws.{tree_of-at, item_of-at, query_of-at, row_of-at, source_of-at}
use Rattle.catalog_store.proofs.Laws.{link_of-at, grouping_of-at, select_of-at}
use Rattle.typing_trees.specs.Around.{then}
use Rattle.typing_trees.specs.Queries.{kinds_of, only_column, columns_of_table, expr_kind}
use Rattle.typing_trees.specs.Queries.{item_kinds, query_kinds}
use Rattle.typing_trees.specs.Queries.{row_exprs, source_kinds, link_kind, group_kinds}
use Rattle.typing_trees.specs.Queries.{select_kinds, kind_of, kinds_of_item, kinds_of_query}
use Rattle.typing_trees.specs.Queries.{exprs_of_row, kinds_of_source, kind_of_link}
use Rattle.typing_trees.specs.Queries.{kinds_of_grouping, kinds_of_select}
use Rattle.sql_values.specs.declared.value.Value.{Value}
use Rattle.sql_values.specs.declared.value.Value.TheVariants as value
use Rattle.bind_kinds.specs.declared.kind.Kind.{Kind}
use Rattle.bind_kinds.specs.declared.kind.Kind.TheVariants.{Boolean}
use Rattle.bind_kinds.specs.Kinds.{fits}
use Rattle.rel_algebra.specs.Kinds.{Kinds, BooleanKind, value_kind, kind_at}
use Rattle.rel_algebra.specs.Kinds.{expr_kind as expr_kind_in, query_kinds as query_kinds_in}
use Rattle.catalog_store.specs.View.{Link, operated}
use Rattle.typing_trees.specs.Kinds.{allows, gives, kind_of_value}
use Rattle.typing_trees.specs.Queries.{LinkKind}
use Rattle.typing_plans.specs.Kinding.{Lower, AllLower}
use Rattle.typing_plans.proofs.Parts.{then_some, only_some, halves, some_same}
use Rattle.typing_plans.proofs.Lower.{agree_fit}
use Rattle.typing_plans.proofs.Words.{operated_kinds}
use Rattle.typing_plans.proofs.Columns.{outer_lower, slot_lower}
use Rattle.typing_plans.proofs.Kinded.{ExprTyped, QueryTyped, SourceTyped, AllTyped, LinksTyped}
use Rattle.typing_plans.proofs.Kinded.{RowsTyped, all_typed, links_typed, call_typed, values_typed}
use Rattle.typing_plans.proofs.Kinded.{ordered_typed}
use Rattle.typing_plans.proofs.KindedFroms.{ItemTyped, FromsTyped, GroupTyped, comma_typed}
use Rattle.typing_plans.proofs.KindedFroms.{cross_typed, inner_typed, left_typed, select_typed}
use Rattle.typing_plans.proofs.Layers.{expr_kinded, item_kinded, query_kinded, row_kinded}
use Rattle.typing_plans.proofs.Layers.{source_kinded, link_kinded, grouping_kinded, select_kinded}
use Rattle.typing_plans.proofs.Layers.{kind_of-at, kinds_of_item-at, kinds_of_query-at}
use Rattle.typing_plans.proofs.Layers.{exprs_of_row-at, kinds_of_source-at, kind_of_link-at}
use Rattle.typing_plans.proofs.Layers.{kinds_of_grouping-at, kinds_of_select-at, expr_seen}
use Rattle.typing_plans.proofs.Layers.{item_seen, query_seen, row_seen, source_seen, link_seen}
use Rattle.typing_plans.proofs.Layers.{grouping_seen, select_seen}
use Rattle.typing_plans.proofs.Induction.{pair}

value_lower : (v : Value) → Lower (value_kind v) (kind_of_value v)
value_lower value.Null = inl refl
value_lower (value.Int n) = inl refl
value_lower (value.Str t) = inl refl
value_lower (value.Bool b) = inl refl

-- the kind of the one column
first_column : (ds : Kinds) (ks : List Kind) (k : Kind) → AllLower ds ks →
    only_column ks ≡ Some k → Lower (kind_at ds 0) k
first_column ds [] k l h = absurd cc
first_column [] (j ∷ []) k l h = absurd l
first_column (d ∷ ds) (j ∷ []) k l h = subst (Lower d) (some_same j k h) l.0
first_column ds (j ∷ i ∷ ks) k l h = absurd cc

module _ (known : Catalog) (T : List ℕ → Kinds) where
  -- an operator with its operand
  abbrev LinkTyped : LinkKind → Link → Type 0
  LinkTyped l t = (l.operator ≡ t.operator) × ExprTyped known T l.operand t.operand

  abbrev ExprHolds : BoundExpr → Type 0
  ExprHolds x = ExprTyped known T (kind_of x) (tree_of known x)

  abbrev ItemHolds : BoundFromItem → Type 0
  ItemHolds x = ItemTyped known T (kinds_of_item x) (item_of known x)

  abbrev QueryHolds : BoundQuery → Type 0
  QueryHolds x = QueryTyped known T (kinds_of_query x) (query_of known x)

  abbrev RowHolds : BoundRow → Type 0
  RowHolds x = AllTyped known T (exprs_of_row x) (row_of known x)

  abbrev SourceHolds : BoundSource → Type 0
  SourceHolds x = SourceTyped known T (kinds_of_source x) (source_of known x)

  abbrev LinkHolds : BoundLink → Type 0
  LinkHolds x = LinkTyped (kind_of_link x) (link_of known x)

  abbrev GroupingHolds : BoundGrouping → Type 0
  GroupingHolds x = GroupTyped known T (kinds_of_grouping x) (grouping_of known x)

  abbrev SelectHolds : BoundSelect → Type 0
  SelectHolds x = QueryTyped known T (kinds_of_select x) (select_of known x)

  abbrev ShownExpr : Type 0
  ShownExpr = (x : BoundExpr) × ExprHolds x

  abbrev ShownItem : Type 0
  ShownItem = (x : BoundFromItem) × ItemHolds x

  abbrev ShownQuery : Type 0
  ShownQuery = (x : BoundQuery) × QueryHolds x

  abbrev ShownRow : Type 0
  ShownRow = (x : BoundRow) × RowHolds x

  abbrev ShownSource : Type 0
  ShownSource = (x : BoundSource) × SourceHolds x

  abbrev ShownLink : Type 0
  ShownLink = (x : BoundLink) × LinkHolds x

  abbrev ShownGrouping : Type 0
  ShownGrouping = (x : BoundGrouping) × GroupingHolds x

  abbrev ShownSelect : Type 0
  ShownSelect = (x : BoundSelect) × SelectHolds x

  abbrev expr_shown : BoundExpr-F ShownExpr ShownItem ShownQuery ShownRow ShownSource ShownLink
      ShownGrouping ShownSelect → BoundExpr-F BoundExpr BoundFromItem BoundQuery BoundRow
      BoundSource BoundLink BoundGrouping BoundSelect
  expr_shown y = map-BoundExpr ShownExpr ShownItem ShownQuery ShownRow ShownSource ShownLink
      ShownGrouping ShownSelect BoundExpr BoundFromItem BoundQuery BoundRow BoundSource BoundLink
      BoundGrouping BoundSelect (λ x. x.0) (λ x. x.0) (λ x. x.0) (λ x. x.0) (λ x. x.0) (λ x. x.0) (λ
      x. x.0) (λ x. x.0) y

  abbrev item_shown : BoundFromItem-F ShownExpr ShownItem ShownQuery ShownRow ShownSource ShownLink
      ShownGrouping ShownSelect → BoundFromItem-F BoundExpr BoundFromItem BoundQuery BoundRow
      BoundSource BoundLink BoundGrouping BoundSelect
  item_shown y = map-BoundFromItem ShownExpr ShownItem ShownQuery ShownRow ShownSource ShownLink
      ShownGrouping ShownSelect BoundExpr BoundFromItem BoundQuery BoundRow BoundSource BoundLink
      BoundGrouping BoundSelect (λ x. x.0) (λ x. x.0) (λ x. x.0) (λ x. x.0) (λ x. x.0) (λ x. x.0) (λ
      x. x.0) (λ x. x.0) y

  abbrev query_shown : BoundQuery-F ShownExpr ShownItem ShownQuery ShownRow ShownSource ShownLink
      ShownGrouping ShownSelect → BoundQuery-F BoundExpr BoundFromItem BoundQuery BoundRow
      BoundSource BoundLink BoundGrouping BoundSelect
  query_shown y = map-BoundQuery ShownExpr ShownItem ShownQuery ShownRow ShownSource ShownLink
      ShownGrouping ShownSelect BoundExpr BoundFromItem BoundQuery BoundRow BoundSource BoundLink
      BoundGrouping BoundSelect (λ x. x.0) (λ x. x.0) (λ x. x.0) (λ x. x.0) (λ x. x.0) (λ x. x.0) (λ
      x. x.0) (λ x. x.0) y

  abbrev row_shown : BoundRow-F ShownExpr ShownItem ShownQuery ShownRow ShownSource ShownLink
      ShownGrouping ShownSelect → BoundRow-F BoundExpr BoundFromItem BoundQuery BoundRow BoundSource
      BoundLink BoundGrouping BoundSelect
  row_shown y = map-BoundRow ShownExpr ShownItem ShownQuery ShownRow ShownSource ShownLink
      ShownGrouping ShownSelect BoundExpr BoundFromItem BoundQuery BoundRow BoundSource BoundLink
      BoundGrouping BoundSelect (λ x. x.0) (λ x. x.0) (λ x. x.0) (λ x. x.0) (λ x. x.0) (λ x. x.0) (λ
      x. x.0) (λ x. x.0) y

  abbrev source_shown : BoundSource-F ShownExpr ShownItem ShownQuery ShownRow ShownSource ShownLink
      ShownGrouping ShownSelect → BoundSource-F BoundExpr BoundFromItem BoundQuery BoundRow
      BoundSource BoundLink BoundGrouping BoundSelect
  source_shown y = map-BoundSource ShownExpr ShownItem ShownQuery ShownRow ShownSource ShownLink
      ShownGrouping ShownSelect BoundExpr BoundFromItem BoundQuery BoundRow BoundSource BoundLink
      BoundGrouping BoundSelect (λ x. x.0) (λ x. x.0) (λ x. x.0) (λ x. x.0) (λ x. x.0) (λ x. x.0) (λ
      x. x.0) (λ x. x.0) y

  abbrev link_shown : BoundLink-F ShownExpr ShownItem ShownQuery ShownRow ShownSource ShownLink
      ShownGrouping ShownSelect → BoundLink-F BoundExpr BoundFromItem BoundQuery BoundRow
      BoundSource BoundLink BoundGrouping BoundSelect
  link_shown y = map-BoundLink ShownExpr ShownItem ShownQuery ShownRow ShownSource ShownLink
      ShownGrouping ShownSelect BoundExpr BoundFromItem BoundQuery BoundRow BoundSource BoundLink
      BoundGrouping BoundSelect (λ x. x.0) (λ x. x.0) (λ x. x.0) (λ x. x.0) (λ x. x.0) (λ x. x.0) (λ
      x. x.0) (λ x. x.0) y

  abbrev grouping_shown : BoundGrouping-F ShownExpr ShownItem ShownQuery ShownRow ShownSource
      ShownLink ShownGrouping ShownSelect → BoundGrouping-F BoundExpr BoundFromItem BoundQuery
      BoundRow BoundSource BoundLink BoundGrouping BoundSelect
  grouping_shown y = map-BoundGrouping ShownExpr ShownItem ShownQuery ShownRow ShownSource ShownLink
      ShownGrouping ShownSelect BoundExpr BoundFromItem BoundQuery BoundRow BoundSource BoundLink
      BoundGrouping BoundSelect (λ x. x.0) (λ x. x.0) (λ x. x.0) (λ x. x.0) (λ x. x.0) (λ x. x.0) (λ
      x. x.0) (λ x. x.0) y

  abbrev select_shown : BoundSelect-F ShownExpr ShownItem ShownQuery ShownRow ShownSource ShownLink
      ShownGrouping ShownSelect → BoundSelect-F BoundExpr BoundFromItem BoundQuery BoundRow
      BoundSource BoundLink BoundGrouping BoundSelect
  select_shown y = map-BoundSelect ShownExpr ShownItem ShownQuery ShownRow ShownSource ShownLink
      ShownGrouping ShownSelect BoundExpr BoundFromItem BoundQuery BoundRow BoundSource BoundLink
      BoundGrouping BoundSelect (λ x. x.0) (λ x. x.0) (λ x. x.0) (λ x. x.0) (λ x. x.0) (λ x. x.0) (λ
      x. x.0) (λ x. x.0) y

  -- ---- lists

  all_of : (xs : List ShownExpr) → AllTyped known T (map kind_of (map (λ x. x.0) xs))
      (exprs (map (tree_of known) (map (λ x. x.0) xs)))
  all_of [] = tt
  all_of (x ∷ xs) = (x.1, all_of xs)

  links_of_all : (xs : List ShownLink) → LinksTyped known T (map kind_of_link (map (λ x. x.0) xs))
      (links (map (link_of known) (map (λ x. x.0) xs)))
  links_of_all [] = tt
  links_of_all (x ∷ xs) = (x.1.0, x.1.1, links_of_all xs)

  rows_of_all : (xs : List ShownRow) → RowsTyped known T (map exprs_of_row (map (λ x. x.0) xs))
      (rows (map (row_of known) (map (λ x. x.0) xs)))
  rows_of_all [] = tt
  rows_of_all (x ∷ xs) = (x.1, rows_of_all xs)

  froms_of : (xs : List ShownItem) → FromsTyped known T (map kinds_of_item (map (λ x. x.0) xs))
      (map (item_of known) (map (λ x. x.0) xs))
  froms_of [] = tt
  froms_of (x ∷ xs) = (x.1, froms_of xs)

  -- ---- one layer

  expr_layer : (y : BoundExpr-F ShownExpr ShownItem ShownQuery ShownRow ShownSource ShownLink
      ShownGrouping ShownSelect) → ExprTyped known T (expr_kind (expr_kinded (expr_shown y)))
      (expr_step known (expr_seen known (expr_shown y)))
  expr_layer (BoundExpr-F.Literal v) a g p k s h q =
      (tt, subst (Lower (value_kind v)) (some_same (kind_of_value v) k h) (value_lower v))
  expr_layer (BoundExpr-F.Column level i) a g p k s h q =
      (tt, outer_lower g a.rows level i k s.rows h)
  expr_layer (BoundExpr-F.Variable i) a g p k s h q = (tt, slot_lower p a.slots i k s.slots h)
  expr_layer (BoundExpr-F.Operation word operands) a g p k s h q =
      let es = map kind_of (map (λ x. x.0) operands) in
      let ts = map (tree_of known) (map (λ x. x.0) operands) in
      let kinds = then_some (kinds_of a es) _ k h in
      let fit = only_some (allows word kinds.0) (Some (gives word kinds.0)) k kinds.2 in
      let one = operated_kinds T g p word ts kinds.0
      (all_typed known T es (exprs ts) (all_of operands) a g p kinds.0 s kinds.1) fit.0 q in (
        one.0,
        subst (Lower (expr_kind_in (operated word ts) T g p))
            (some_same (gives word kinds.0) k fit.1) one.1,
      )
  expr_layer (BoundExpr-F.Chain first rest) a g p k s h q =
      let ls = map kind_of_link (map (λ x. x.0) rest) in
      let ts = links (map (link_of known) (map (λ x. x.0) rest)) in
      let both = halves (planned_expr (tree_of known first.0)) (planned_links ts) q in
      let left = then_some (kind_of first.0 a) _ k h in
      let one = first.1 a g p left.0 s left.1 both.0 in
      let all = links_typed known T ls ts (links_of_all rest) a g p
      (expr_kind_in (tree_of known first.0) T g p) left.0 k s one.1 left.2 both.1 in
      ((one.0, all.0), all.1)
  expr_layer (BoundExpr-F.Call name args) a g p k s h q =
      let es = map kind_of (map (λ x. x.0) args) in
      let ts = exprs (map (tree_of known) (map (λ x. x.0) args)) in
      let r = routine_named name known in
      let both = halves (planned_routine r) (planned_all ts && as_many r (count ts)) q in
      let values = halves (planned_all ts) (as_many r (count ts)) both.1 in
      let kinds = then_some (kinds_of a es) _ k h in
      let all = all_typed known T es ts (all_of args) a g p kinds.0 s kinds.1 values.0 in
      call_typed known T r (a.functions name) ts g p kinds.0 k
      (λ f e. s.functions name f e both.0) all.0 all.1 kinds.2
  expr_layer (BoundExpr-F.Single query) a g p k s h q =
      let kinds = then_some (kinds_of_query query.0 a) only_column k h in
      let one = query.1 a g p kinds.0 s kinds.1 q in
      (one.0, first_column (query_kinds_in (query_of known query.0) T g p) kinds.0 k one.1 kinds.2)
  expr_layer (BoundExpr-F.Exists query) a g p k s h q =
      let kinds = then_some (kinds_of_query query.0 a) _ k h in (
        (query.1 a g p kinds.0 s kinds.1 q).0,
        subst (Lower BooleanKind) (some_same Boolean k kinds.2)
            (inl refl),
      )
  expr_layer (BoundExpr-F.In e query) a g p k s h q =
      let both = halves (planned_expr (tree_of known e.0)) (planned (query_of known query.0)) q in
      let left = then_some (kind_of e.0 a) _ k h in
      let column = then_some (then (kinds_of_query query.0 a) only_column) _ k left.2 in
      let fit = only_some (fits left.0 column.0) (Some Boolean) k column.2 in
      let kinds = then_some (kinds_of_query query.0 a) only_column column.0 column.1 in
      let one = e.1 a g p left.0 s left.1 both.0 in
      let inside = query.1 a g p kinds.0 s kinds.1 both.1 in
      let ds = query_kinds_in (query_of known query.0) T g p in (
        (
          one.0,
          inside.0,
          agree_fit (expr_kind_in (tree_of known e.0) T g p) (kind_at ds 0) left.0
              column.0 one.1 (first_column ds kinds.0 column.0 inside.1 kinds.2) fit.0,
        ),
        subst (Lower BooleanKind) (some_same Boolean k fit.1) (inl refl),
      )

  item_layer : (y : BoundFromItem-F ShownExpr ShownItem ShownQuery ShownRow ShownSource ShownLink
      ShownGrouping ShownSelect) → ItemTyped known T (item_kinds (item_kinded (item_shown y)))
      (item_step (item_seen known (item_shown y)))
  item_layer (BoundFromItem-F.Comma f) =
      comma_typed known T (kinds_of_source f.0) (source_of known f.0) f.1
  item_layer (BoundFromItem-F.Cross f) =
      cross_typed known T (kinds_of_source f.0) (source_of known f.0) f.1
  item_layer (BoundFromItem-F.Inner f on) =
      inner_typed known T (kinds_of_source f.0) (source_of known f.0)
      (map kind_of (map (λ x. x.0) on)) (exprs (map (tree_of known) (map (λ x. x.0) on))) f.1
      (all_of on)
  item_layer (BoundFromItem-F.Left f on) =
      left_typed known T (kinds_of_source f.0) (source_of known f.0)
      (map kind_of (map (λ x. x.0) on)) (exprs (map (tree_of known) (map (λ x. x.0) on))) f.1
      (all_of on)

  query_layer : (y : BoundQuery-F ShownExpr ShownItem ShownQuery ShownRow ShownSource ShownLink
      ShownGrouping ShownSelect) → QueryTyped known T (query_kinds (query_kinded (query_shown y)))
      (query_step (query_seen known (query_shown y)))
  query_layer (BoundQuery-F.Select select) = select.1
  query_layer (BoundQuery-F.Values rs) =
      values_typed known T (map exprs_of_row (map (λ x. x.0) rs))
      (rows (map (row_of known) (map (λ x. x.0) rs))) (rows_of_all rs)
  query_layer (BoundQuery-F.Ordered q keys) =
      ordered_typed known T (kinds_of_query q.0) (query_of known q.0) keys q.1

  row_layer : (y : BoundRow-F ShownExpr ShownItem ShownQuery ShownRow ShownSource ShownLink
      ShownGrouping ShownSelect) → AllTyped known T (row_exprs (row_kinded (row_shown y))) (row_step
      (row_seen known (row_shown y)))
  row_layer (BoundRow-F.Row es) = all_of es

  source_layer : (y : BoundSource-F ShownExpr ShownItem ShownQuery ShownRow ShownSource ShownLink
      ShownGrouping ShownSelect) →
      SourceTyped known T (source_kinds (source_kinded (source_shown y)))
      (source_step (source_seen known (source_shown y)))
  source_layer (BoundSource-F.Table name) a g p ks s h q = (tt, by (a.tables name) refl h)
    where
      by : (t : Option RowType) → a.tables name ≡ t → columns_of_table t ≡ Some ks →
          AllLower (T name) ks
      by None e h = absurd cc
      by (Some t) e h = subst (AllLower (T name)) (some_same _ ks h) (s.tables name t e)
  source_layer (BoundSource-F.Derived query) a g p ks s h q = query.1 a g p ks s h q

  grouping_layer : (y : BoundGrouping-F ShownExpr ShownItem ShownQuery ShownRow ShownSource
      ShownLink ShownGrouping ShownSelect) → GroupTyped known T (group_kinds (grouping_kinded
      (grouping_shown y))) (grouping_step (grouping_seen known (grouping_shown y)))
  grouping_layer y = record {
    keys = refl;
    aggregates = refl;
    parts = all_of y.parts;
    having = all_of y.having;
  }

  select_made : (items : List ShownExpr) (from : List ShownItem) (conjuncts : List ShownExpr) (g :
      Option ShownGrouping) → let y : BoundSelect-F ShownExpr ShownItem ShownQuery ShownRow
      ShownSource ShownLink ShownGrouping ShownSelect = record {
        items = items;
        from = from;
        conjuncts = conjuncts;
        grouping = g;
      } in QueryTyped known T (select_kinds (select_kinded
      (select_shown y))) (select_step (select_seen known (select_shown y)))
  select_made items from conjuncts None =
      select_typed known T (map kinds_of_item (map (λ x. x.0) from))
      (map (item_of known) (map (λ x. x.0) from)) (map kind_of (map (λ x. x.0) items))
      (map kind_of (map (λ x. x.0) conjuncts)) (exprs (map (tree_of known) (map (λ x. x.0) items)))
      (exprs (map (tree_of known) (map (λ x. x.0) conjuncts))) None None (froms_of from)
      (all_of items) (all_of conjuncts) tt
  select_made items from conjuncts (Some g) =
      select_typed known T (map kinds_of_item (map (λ x. x.0) from))
      (map (item_of known) (map (λ x. x.0) from)) (map kind_of (map (λ x. x.0) items))
      (map kind_of (map (λ x. x.0) conjuncts)) (exprs (map (tree_of known) (map (λ x. x.0) items)))
      (exprs (map (tree_of known) (map (λ x. x.0) conjuncts))) (Some (kinds_of_grouping g.0))
      (Some (grouping_of known g.0)) (froms_of from) (all_of items) (all_of conjuncts) g.1

  select_layer : (y : BoundSelect-F ShownExpr ShownItem ShownQuery ShownRow ShownSource ShownLink
      ShownGrouping ShownSelect) →
      QueryTyped known T (select_kinds (select_kinded (select_shown y)))
      (select_step (select_seen known (select_shown y)))
  select_layer y = select_made y.items y.from y.conjuncts y.grouping

  -- ---- whole trees

  expr_whole : (y : BoundExpr-F ShownExpr ShownItem ShownQuery ShownRow ShownSource ShownLink
      ShownGrouping ShownSelect) → ExprHolds (roll-BoundExpr (expr_shown y))
  expr_whole y = pair (ExprTyped known T) (kind_of (roll-BoundExpr (expr_shown y))) (expr_kind
      (expr_kinded (expr_shown y))) (tree_of known (roll-BoundExpr (expr_shown y))) (expr_step known
      (expr_seen known (expr_shown y))) (kind_of-at (expr_shown y)) (tree_of-at known (expr_shown
      y)) (expr_layer y)

  item_whole : (y : BoundFromItem-F ShownExpr ShownItem ShownQuery ShownRow ShownSource ShownLink
      ShownGrouping ShownSelect) → ItemHolds (roll-BoundFromItem (item_shown y))
  item_whole y = pair (ItemTyped known T) (kinds_of_item (roll-BoundFromItem (item_shown y)))
      (item_kinds (item_kinded (item_shown y))) (item_of known (roll-BoundFromItem (item_shown y)))
      (item_step (item_seen known (item_shown y))) (kinds_of_item-at (item_shown y)) (item_of-at
      known (item_shown y)) (item_layer y)

  query_whole : (y : BoundQuery-F ShownExpr ShownItem ShownQuery ShownRow ShownSource ShownLink
      ShownGrouping ShownSelect) → QueryHolds (roll-BoundQuery (query_shown y))
  query_whole y = pair (QueryTyped known T) (kinds_of_query (roll-BoundQuery (query_shown y)))
      (query_kinds (query_kinded (query_shown y))) (query_of known (roll-BoundQuery (query_shown
      y))) (query_step (query_seen known (query_shown y))) (kinds_of_query-at (query_shown y))
      (query_of-at known (query_shown y)) (query_layer y)

  row_whole : (y : BoundRow-F ShownExpr ShownItem ShownQuery ShownRow ShownSource ShownLink
      ShownGrouping ShownSelect) → RowHolds (roll-BoundRow (row_shown y))
  row_whole y = pair (AllTyped known T) (exprs_of_row (roll-BoundRow (row_shown y))) (row_exprs
      (row_kinded (row_shown y))) (row_of known (roll-BoundRow (row_shown y))) (row_step (row_seen
      known (row_shown y))) (exprs_of_row-at (row_shown y)) (row_of-at known (row_shown y))
      (row_layer y)

  source_whole : (y : BoundSource-F ShownExpr ShownItem ShownQuery ShownRow ShownSource ShownLink
      ShownGrouping ShownSelect) → SourceHolds (roll-BoundSource (source_shown y))
  source_whole y = pair (SourceTyped known T) (kinds_of_source (roll-BoundSource (source_shown y)))
      (source_kinds (source_kinded (source_shown y))) (source_of known (roll-BoundSource
      (source_shown y))) (source_step (source_seen known (source_shown y))) (kinds_of_source-at
      (source_shown y)) (source_of-at known (source_shown y)) (source_layer y)

  link_whole : (y : BoundLink-F ShownExpr ShownItem ShownQuery ShownRow ShownSource ShownLink
      ShownGrouping ShownSelect) → LinkHolds (roll-BoundLink (link_shown y))
  link_whole y = pair LinkTyped (kind_of_link (roll-BoundLink
      (link_shown y))) (link_kind (link_kinded (link_shown y))) (link_of known (roll-BoundLink
      (link_shown y))) (link_step (link_seen known (link_shown y))) (kind_of_link-at (link_shown y))
      (link_of-at known (link_shown y)) (refl, y.operand.1)

  grouping_whole : (y : BoundGrouping-F ShownExpr ShownItem ShownQuery ShownRow ShownSource
      ShownLink ShownGrouping ShownSelect) → GroupingHolds (roll-BoundGrouping (grouping_shown y))
  grouping_whole y = let z = grouping_shown y in
      pair (GroupTyped known T) (kinds_of_grouping (roll-BoundGrouping z))
      (group_kinds (grouping_kinded z)) (grouping_of known (roll-BoundGrouping z))
      (grouping_step (grouping_seen known z)) (kinds_of_grouping-at z) (grouping_of-at known z)
      (grouping_layer y)

  select_whole : (y : BoundSelect-F ShownExpr ShownItem ShownQuery ShownRow ShownSource ShownLink
      ShownGrouping ShownSelect) → SelectHolds (roll-BoundSelect (select_shown y))
  select_whole y = pair (QueryTyped known T) (kinds_of_select (roll-BoundSelect (select_shown y)))
      (select_kinds (select_kinded (select_shown y))) (select_of known (roll-BoundSelect
      (select_shown y))) (select_step (select_seen known (select_shown y))) (kinds_of_select-at
      (select_shown y)) (select_of-at known (select_shown y)) (select_layer y)

  pub expr_holds : (x : BoundExpr) → ExprHolds x
  expr_holds =
      ind-BoundExpr ExprHolds ItemHolds QueryHolds RowHolds
      SourceHolds LinkHolds GroupingHolds SelectHolds
      (λ x y is. subst (λ z. ExprHolds (roll-BoundExpr z)) is (expr_whole y))
      (λ x y is. subst (λ z. ItemHolds (roll-BoundFromItem z)) is (item_whole y))
      (λ x y is. subst (λ z. QueryHolds (roll-BoundQuery z)) is (query_whole y))
      (λ x y is. subst (λ z. RowHolds (roll-BoundRow z)) is (row_whole y))
      (λ x y is. subst (λ z. SourceHolds (roll-BoundSource z)) is (source_whole y))
      (λ x y is. subst (λ z. LinkHolds (roll-BoundLink z)) is (link_whole y))
      (λ x y is. subst (λ z. GroupingHolds (roll-BoundGrouping z)) is (grouping_whole y))
      (λ x y is. subst (λ z. SelectHolds (roll-BoundSelect z)) is (select_whole y))

  pub query_holds : (x : BoundQuery) → QueryHolds x
  query_holds =
      ind-BoundQuery ExprHolds ItemHolds QueryHolds RowHolds
      SourceHolds LinkHolds GroupingHolds SelectHolds
      (λ x y is. subst (λ z. ExprHolds (roll-BoundExpr z)) is (expr_whole y))
      (λ x y is. subst (λ z. ItemHolds (roll-BoundFromItem z)) is (item_whole y))
      (λ x y is. subst (λ z. QueryHolds (roll-BoundQuery z)) is (query_whole y))
      (λ x y is. subst (λ z. RowHolds (roll-BoundRow z)) is (row_whole y))
      (λ x y is. subst (λ z. SourceHolds (roll-BoundSource z)) is (source_whole y))
      (λ x y is. subst (λ z. LinkHolds (roll-BoundLink z)) is (link_whole y))
      (λ x y is. subst (λ z. GroupingHolds (roll-BoundGrouping z)) is (grouping_whole y))
      (λ x y is. subst (λ z. SelectHolds (roll-BoundSelect z)) is (select_whole y))
