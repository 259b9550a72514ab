-- Which plain trees bound trees of each kind stand for, and what they use.
use Rattle.std.proofs.Common.{◌≡◌, ℕ, List, [], ◌∷◌, ◌++◌, map, length, Option, None, Some, sym, ap}
use Rattle.std.proofs.Common.{◌∙◌}
use Rattle.std.specs.Option.{option_map}
use Rattle.sql_values.specs.declared.value.Value.{Value}
use Rattle.row_types.specs.declared.sort_key.SortKey.{SortKey}
use Rattle.bound_trees.specs.declared.expr.BoundOperation.{BoundOperation}
use Rattle.bound_trees.specs.declared.expr.BoundExpr.{BoundExpr}
use Rattle.bound_trees.specs.declared.expr.BoundExpr.TheVariants as expr
use Rattle.bound_trees.specs.declared.expr.BoundExpr.TheVariants.{rolls-Literal, rolls-Column}
use Rattle.bound_trees.specs.declared.expr.BoundExpr.TheVariants.{rolls-Variable, rolls-Operation}
use Rattle.bound_trees.specs.declared.expr.BoundExpr.TheVariants.{rolls-Chain, rolls-Call}
use Rattle.bound_trees.specs.declared.expr.BoundExpr.TheVariants.{rolls-Single, rolls-Exists}
use Rattle.bound_trees.specs.declared.expr.BoundExpr.TheVariants.{rolls-In}
use Rattle.bound_trees.specs.declared.expr.BoundExpr.TheOpen.{BoundExpr-F, BoundFromItem-F}
use Rattle.bound_trees.specs.declared.expr.BoundExpr.TheOpen.{BoundQuery-F, BoundRow-F}
use Rattle.bound_trees.specs.declared.expr.BoundExpr.TheOpen.{BoundSource-F}
use Rattle.bound_trees.specs.declared.expr.BoundExpr.TheViews.{roll-out-BoundGrouping}
use Rattle.bound_trees.specs.declared.expr.BoundExpr.TheViews.{roll-out-BoundSelect}
use Rattle.bound_trees.specs.declared.expr.BoundLink.{BoundLink}
use Rattle.bound_trees.specs.declared.query.BoundRow.{BoundRow}
use Rattle.bound_trees.specs.declared.query.BoundRow.TheVariants as row
use Rattle.bound_trees.specs.declared.query.BoundRow.TheVariants.{rolls-Row}
use Rattle.bound_trees.specs.declared.query.BoundQuery.{BoundQuery}
use Rattle.bound_trees.specs.declared.query.BoundQuery.TheVariants as query
use Rattle.bound_trees.specs.declared.query.BoundQuery.TheVariants.{rolls-Select, rolls-Values}
use Rattle.bound_trees.specs.declared.query.BoundQuery.TheVariants.{rolls-Ordered}
use Rattle.bound_trees.specs.declared.query.BoundGrouping.{BoundGrouping, out-BoundGrouping}
use Rattle.bound_trees.specs.declared.query.BoundSelect.{BoundSelect, roll-BoundSelect}
use Rattle.bound_trees.specs.declared.query.BoundSelect.{out-BoundSelect}
use Rattle.bound_trees.specs.declared.query.BoundSource.{BoundSource}
use Rattle.bound_trees.specs.declared.query.BoundSource.TheVariants as source
use Rattle.bound_trees.specs.declared.query.BoundSource.TheVariants.{rolls-Table, rolls-Derived}
use Rattle.bound_trees.specs.declared.query.BoundFromItem.{BoundFromItem}
use Rattle.bound_trees.specs.declared.query.BoundFromItem.TheVariants as item
use Rattle.bound_trees.specs.declared.query.BoundFromItem.TheVariants.{rolls-Comma, rolls-Cross}
use Rattle.bound_trees.specs.declared.query.BoundFromItem.TheVariants.{rolls-Inner, rolls-Left}
use Rattle.rel_algebra.specs.Tree.{Literal, Column, Variable, Chain, Call, Single, Exists, In}
use Rattle.rel_algebra.specs.Tree.{Table, Derived, Values, Ordered}
use Rattle.catalog_store.specs.Catalog.{Catalog, routine_named}
use Rattle.catalog_store.specs.Uses.{calls, reads, joined, if_grouped, uses_in, uses_in_item}
use Rattle.catalog_store.specs.Uses.{uses_in_query, uses_in_row, uses_in_source, uses_in_grouping}
use Rattle.catalog_store.specs.Uses.{uses_in_link, uses_in_select}
use Rattle.catalog_store.specs.View.{after_comma, crossing, matching, matching_or_nulls, operated}
use Rattle.catalog_store.specs.View.{exprs_of, links_of, rows_of, from_of, selected, tree_of}
use Rattle.catalog_store.specs.View.{item_of, query_of, row_of, source_of, grouping_of, link_of}
use Rattle.catalog_store.specs.View.{select_of}
use Rattle.catalog_store.proofs.Layers.{expr_uses-at, item_uses-at, query_uses-at, row_uses-at}
use Rattle.catalog_store.proofs.Layers.{source_uses-at, grouping_uses-at, link_uses-at}
use Rattle.catalog_store.proofs.Layers.{select_uses-at, tree_of-at, item_of-at, query_of-at}
use Rattle.catalog_store.proofs.Layers.{row_of-at, source_of-at, grouping_of-at, link_of-at}
use Rattle.catalog_store.proofs.Layers.{select_of-at}

-- ---- uses

pub uses_in-Literal : (v : Value) → uses_in (expr.Literal v) ≡ []
uses_in-Literal v = ap uses_in (sym (rolls-Literal v)) ∙ expr_uses-at (BoundExpr-F.Literal v)

pub uses_in-Column : (level : ℕ) (i : ℕ) → uses_in (expr.Column level i) ≡ []
uses_in-Column level i = ap uses_in (sym (rolls-Column level i)) ∙
    expr_uses-at (BoundExpr-F.Column level i)

pub uses_in-Variable : (i : ℕ) → uses_in (expr.Variable i) ≡ []
uses_in-Variable i = ap uses_in (sym (rolls-Variable i)) ∙ expr_uses-at (BoundExpr-F.Variable i)

pub uses_in-Operation : (word : BoundOperation) (es : List BoundExpr) →
    uses_in (expr.Operation word es) ≡ joined (map uses_in es)
uses_in-Operation word es = ap uses_in (sym (rolls-Operation word es)) ∙
    expr_uses-at (BoundExpr-F.Operation word es)

pub uses_in-Chain : (e : BoundExpr) (ls : List BoundLink) →
    uses_in (expr.Chain e ls) ≡ uses_in e ++ joined (map uses_in_link ls)
uses_in-Chain e ls = ap uses_in (sym (rolls-Chain e ls)) ∙ expr_uses-at (BoundExpr-F.Chain e ls)

pub uses_in-Call : (name : List ℕ) (es : List BoundExpr) →
    uses_in (expr.Call name es) ≡ calls name (length (map uses_in es)) ∷ joined (map uses_in es)
uses_in-Call name es = ap uses_in (sym (rolls-Call name es)) ∙
    expr_uses-at (BoundExpr-F.Call name es)

pub uses_in-Single : (q : BoundQuery) → uses_in (expr.Single q) ≡ uses_in_query q
uses_in-Single q = ap uses_in (sym (rolls-Single q)) ∙ expr_uses-at (BoundExpr-F.Single q)

pub uses_in-Exists : (q : BoundQuery) → uses_in (expr.Exists q) ≡ uses_in_query q
uses_in-Exists q = ap uses_in (sym (rolls-Exists q)) ∙ expr_uses-at (BoundExpr-F.Exists q)

pub uses_in-In : (e : BoundExpr) (q : BoundQuery) →
    uses_in (expr.In e q) ≡ uses_in e ++ uses_in_query q
uses_in-In e q = ap uses_in (sym (rolls-In e q)) ∙ expr_uses-at (BoundExpr-F.In e q)

pub uses_in_item-Comma : (f : BoundSource) → uses_in_item (item.Comma f) ≡ uses_in_source f
uses_in_item-Comma f = ap uses_in_item (sym (rolls-Comma f)) ∙
    item_uses-at (BoundFromItem-F.Comma f)

pub uses_in_item-Cross : (f : BoundSource) → uses_in_item (item.Cross f) ≡ uses_in_source f
uses_in_item-Cross f = ap uses_in_item (sym (rolls-Cross f)) ∙
    item_uses-at (BoundFromItem-F.Cross f)

pub uses_in_item-Inner : (f : BoundSource) (on : List BoundExpr) →
    uses_in_item (item.Inner f on) ≡ uses_in_source f ++ joined (map uses_in on)
uses_in_item-Inner f on = ap uses_in_item (sym (rolls-Inner f on)) ∙
    item_uses-at (BoundFromItem-F.Inner f on)

pub uses_in_item-Left : (f : BoundSource) (on : List BoundExpr) →
    uses_in_item (item.Left f on) ≡ uses_in_source f ++ joined (map uses_in on)
uses_in_item-Left f on = ap uses_in_item (sym (rolls-Left f on)) ∙
    item_uses-at (BoundFromItem-F.Left f on)

pub uses_in_query-Select : (s : BoundSelect) → uses_in_query (query.Select s) ≡ uses_in_select s
uses_in_query-Select s = ap uses_in_query (sym (rolls-Select s)) ∙
    query_uses-at (BoundQuery-F.Select s)

pub uses_in_query-Values : (rs : List BoundRow) →
    uses_in_query (query.Values rs) ≡ joined (map uses_in_row rs)
uses_in_query-Values rs = ap uses_in_query (sym (rolls-Values rs)) ∙
    query_uses-at (BoundQuery-F.Values rs)

pub uses_in_query-Ordered : (q : BoundQuery) (keys : List SortKey) →
    uses_in_query (query.Ordered q keys) ≡ uses_in_query q
uses_in_query-Ordered q keys = ap uses_in_query (sym (rolls-Ordered q keys)) ∙
    query_uses-at (BoundQuery-F.Ordered q keys)

pub uses_in_row-Row : (es : List BoundExpr) → uses_in_row (row.Row es) ≡ joined (map uses_in es)
uses_in_row-Row es = ap uses_in_row (sym (rolls-Row es)) ∙ row_uses-at (BoundRow-F.Row es)

pub uses_in_source-Table : (name : List ℕ) → uses_in_source (source.Table name) ≡ reads name ∷ []
uses_in_source-Table name = ap uses_in_source (sym (rolls-Table name)) ∙
    source_uses-at (BoundSource-F.Table name)

pub uses_in_source-Derived : (q : BoundQuery) → uses_in_source (source.Derived q) ≡ uses_in_query q
uses_in_source-Derived q = ap uses_in_source (sym (rolls-Derived q)) ∙
    source_uses-at (BoundSource-F.Derived q)

pub uses_in_link-parts : (l : BoundLink) → uses_in_link l ≡ uses_in l.operand
uses_in_link-parts l = link_uses-at (record { operator = l.operator; operand = l.operand })

-- of those that hold lists, by their parts
pub uses_in_grouping-parts : (g : BoundGrouping) →
    uses_in_grouping g ≡ joined (map uses_in (out-BoundGrouping g).parts) ++ joined
    (map uses_in (out-BoundGrouping g).having)
uses_in_grouping-parts g = ap uses_in_grouping (sym (roll-out-BoundGrouping g)) ∙
    grouping_uses-at (out-BoundGrouping g)

-- a select that is made of these parts
pub uses_in_select-made : (items : List BoundExpr) (from : List BoundFromItem)
    (conjuncts : List BoundExpr) (grouping : Option BoundGrouping)
    → uses_in_select (roll-BoundSelect (record {
      items = items;
      from = from;
      conjuncts = conjuncts;
      grouping = grouping;
    }))
    ≡ joined (map uses_in_item from) ++ (joined (map uses_in conjuncts) ++
    (if_grouped (option_map uses_in_grouping grouping) ++ joined (map uses_in items)))
uses_in_select-made items from conjuncts None =
    select_uses-at (record { items = items; from = from; conjuncts = conjuncts; grouping = None })
uses_in_select-made items from conjuncts (Some g) =
    select_uses-at (record { items = items; from = from; conjuncts = conjuncts; grouping = Some g })

pub uses_in_select-parts : (s : BoundSelect) → uses_in_select s
    ≡ joined (map uses_in_item (out-BoundSelect s).from) ++
    (joined (map uses_in (out-BoundSelect s).conjuncts)
    ++ (if_grouped (option_map uses_in_grouping (out-BoundSelect s).grouping) ++ joined
    (map uses_in (out-BoundSelect s).items)))
uses_in_select-parts s =
    ap uses_in_select (sym (roll-out-BoundSelect s)) ∙ uses_in_select-made (out-BoundSelect s).items
    (out-BoundSelect s).from (out-BoundSelect s).conjuncts (out-BoundSelect s).grouping

-- ---- plain trees

module _ (k : Catalog) where
  pub tree_of-Literal : (v : Value) → tree_of k (expr.Literal v) ≡ Literal v
  tree_of-Literal v = ap (tree_of k) (sym (rolls-Literal v)) ∙ tree_of-at k (BoundExpr-F.Literal v)

  pub tree_of-Column : (level : ℕ) (i : ℕ) → tree_of k (expr.Column level i) ≡ Column level i
  tree_of-Column level i = ap (tree_of k) (sym (rolls-Column level i)) ∙
      tree_of-at k (BoundExpr-F.Column level i)

  pub tree_of-Variable : (i : ℕ) → tree_of k (expr.Variable i) ≡ Variable i
  tree_of-Variable i = ap (tree_of k) (sym (rolls-Variable i)) ∙
      tree_of-at k (BoundExpr-F.Variable i)

  pub tree_of-Operation : (word : BoundOperation) (es : List BoundExpr) →
      tree_of k (expr.Operation word es) ≡ operated word (map (tree_of k) es)
  tree_of-Operation word es = ap (tree_of k) (sym (rolls-Operation word es)) ∙
      tree_of-at k (BoundExpr-F.Operation word es)

  pub tree_of-Chain : (e : BoundExpr) (ls : List BoundLink) →
      tree_of k (expr.Chain e ls) ≡ Chain (tree_of k e) (links_of k ls)
  tree_of-Chain e ls = ap (tree_of k) (sym (rolls-Chain e ls)) ∙
      tree_of-at k (BoundExpr-F.Chain e ls)

  pub tree_of-Call : (name : List ℕ) (es : List BoundExpr) →
      tree_of k (expr.Call name es) ≡ Call name (routine_named name k) (exprs_of k es)
  tree_of-Call name es = ap (tree_of k) (sym (rolls-Call name es)) ∙
      tree_of-at k (BoundExpr-F.Call name es)

  pub tree_of-Single : (q : BoundQuery) → tree_of k (expr.Single q) ≡ Single (query_of k q)
  tree_of-Single q = ap (tree_of k) (sym (rolls-Single q)) ∙ tree_of-at k (BoundExpr-F.Single q)

  pub tree_of-Exists : (q : BoundQuery) → tree_of k (expr.Exists q) ≡ Exists (query_of k q)
  tree_of-Exists q = ap (tree_of k) (sym (rolls-Exists q)) ∙ tree_of-at k (BoundExpr-F.Exists q)

  pub tree_of-In : (e : BoundExpr) (q : BoundQuery) →
      tree_of k (expr.In e q) ≡ In (tree_of k e) (query_of k q)
  tree_of-In e q = ap (tree_of k) (sym (rolls-In e q)) ∙ tree_of-at k (BoundExpr-F.In e q)

  pub item_of-Comma : (f : BoundSource) → item_of k (item.Comma f) ≡ after_comma (source_of k f)
  item_of-Comma f = ap (item_of k) (sym (rolls-Comma f)) ∙ item_of-at k (BoundFromItem-F.Comma f)

  pub item_of-Cross : (f : BoundSource) → item_of k (item.Cross f) ≡ crossing (source_of k f)
  item_of-Cross f = ap (item_of k) (sym (rolls-Cross f)) ∙ item_of-at k (BoundFromItem-F.Cross f)

  pub item_of-Inner : (f : BoundSource) (on : List BoundExpr) →
      item_of k (item.Inner f on) ≡ matching (source_of k f) (exprs_of k on)
  item_of-Inner f on = ap (item_of k) (sym (rolls-Inner f on)) ∙
      item_of-at k (BoundFromItem-F.Inner f on)

  pub item_of-Left : (f : BoundSource) (on : List BoundExpr) →
      item_of k (item.Left f on) ≡ matching_or_nulls (source_of k f) (exprs_of k on)
  item_of-Left f on = ap (item_of k) (sym (rolls-Left f on)) ∙
      item_of-at k (BoundFromItem-F.Left f on)

  pub query_of-Select : (s : BoundSelect) → query_of k (query.Select s) ≡ select_of k s
  query_of-Select s = ap (query_of k) (sym (rolls-Select s)) ∙ query_of-at k (BoundQuery-F.Select s)

  pub query_of-Values : (rs : List BoundRow) → query_of k (query.Values rs) ≡ Values (rows_of k rs)
  query_of-Values rs = ap (query_of k) (sym (rolls-Values rs)) ∙
      query_of-at k (BoundQuery-F.Values rs)

  pub query_of-Ordered : (q : BoundQuery) (keys : List SortKey) →
      query_of k (query.Ordered q keys) ≡ Ordered (query_of k q) keys
  query_of-Ordered q keys = ap (query_of k) (sym (rolls-Ordered q keys)) ∙
      query_of-at k (BoundQuery-F.Ordered q keys)

  pub row_of-Row : (es : List BoundExpr) → row_of k (row.Row es) ≡ exprs_of k es
  row_of-Row es = ap (row_of k) (sym (rolls-Row es)) ∙ row_of-at k (BoundRow-F.Row es)

  pub source_of-Table : (name : List ℕ) → source_of k (source.Table name) ≡ Table name
  source_of-Table name = ap (source_of k) (sym (rolls-Table name)) ∙
      source_of-at k (BoundSource-F.Table name)

  pub source_of-Derived : (q : BoundQuery) → source_of k (source.Derived q) ≡ Derived (query_of k q)
  source_of-Derived q = ap (source_of k) (sym (rolls-Derived q)) ∙
      source_of-at k (BoundSource-F.Derived q)

  pub link_of-parts : (l : BoundLink) → link_of k l ≡ record {
    operator = l.operator;
    operand =
        tree_of k l.operand;
  }
  link_of-parts l = link_of-at k (record { operator = l.operator; operand = l.operand })

  pub grouping_of-parts : (g : BoundGrouping) → grouping_of k g
      ≡ record {
        keys = (out-BoundGrouping g).keys;
        parts = exprs_of k (out-BoundGrouping g).parts;
        aggregates = (out-BoundGrouping g).aggregates;
        having =
            exprs_of k (out-BoundGrouping g).having;
      }
  grouping_of-parts g = ap (grouping_of k) (sym (roll-out-BoundGrouping g)) ∙
      grouping_of-at k (out-BoundGrouping g)

  -- a select that is made of these parts
  pub select_of-made : (items : List BoundExpr) (from : List BoundFromItem)
      (conjuncts : List BoundExpr) (grouping : Option BoundGrouping)
      → select_of k (roll-BoundSelect (record {
        items = items;
        from = from;
        conjuncts = conjuncts;
        grouping = grouping;
      }))
      ≡ selected (option_map (grouping_of k) grouping) (exprs_of k items)
      (from_of (map (item_of k) from)) (exprs_of k conjuncts)
  select_of-made items from conjuncts None = select_of-at k
      (record { items = items; from = from; conjuncts = conjuncts; grouping = None })
  select_of-made items from conjuncts (Some g) =
      select_of-at k (record {
        items = items;
        from = from;
        conjuncts = conjuncts;
        grouping =
            Some g;
      })

  pub select_of-parts : (s : BoundSelect) → select_of k s
      ≡ selected (option_map (grouping_of k) (out-BoundSelect s).grouping)
      (exprs_of k (out-BoundSelect s).items)
      (from_of (map (item_of k) (out-BoundSelect s).from))
      (exprs_of k (out-BoundSelect s).conjuncts)
  select_of-parts s =
      ap (select_of k) (sym (roll-out-BoundSelect s)) ∙ select_of-made (out-BoundSelect s).items
      (out-BoundSelect s).from (out-BoundSelect s).conjuncts (out-BoundSelect s).grouping
