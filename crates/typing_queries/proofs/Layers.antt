-- One layer of each kind of bound tree: its kinds, from those of the trees in it.
use Rattle.std.proofs.Common.{◌≡◌, sym, ap, ◌∙◌, ℕ, List, map, length, Some, None}
use Rattle.sql_values.specs.declared.fold.FoldKind.{FoldKind}
use Rattle.sql_values.specs.declared.operators.Operator.{Operator}
use Rattle.sql_values.specs.declared.value.Value.{Value}
use Rattle.row_types.specs.declared.sort_key.SortKey.{SortKey}
use Rattle.bound_trees.specs.declared.expr.BoundExpr.{BoundExpr}
use Rattle.bound_trees.specs.declared.expr.BoundExpr.TheVariants as bound
use Rattle.bound_trees.specs.declared.expr.BoundExpr.TheVariants.{rolls-Literal, rolls-Column}
use Rattle.bound_trees.specs.declared.expr.BoundExpr.TheVariants.{rolls-Variable, rolls-Operation}
use Rattle.bound_trees.specs.declared.expr.BoundExpr.TheVariants.{rolls-Chain, rolls-Call}
use Rattle.bound_trees.specs.declared.expr.BoundExpr.TheVariants.{rolls-Single, rolls-Exists}
use Rattle.bound_trees.specs.declared.expr.BoundExpr.TheVariants.{rolls-In}
use Rattle.bound_trees.specs.declared.expr.BoundExpr.TheOpen.{BoundExpr-F, BoundFromItem-F}
use Rattle.bound_trees.specs.declared.expr.BoundExpr.TheOpen.{BoundQuery-F, BoundRow-F}
use Rattle.bound_trees.specs.declared.expr.BoundExpr.TheOpen.{BoundSource-F}
use Rattle.bound_trees.specs.declared.expr.BoundLink.{BoundLink, roll-BoundLink}
use Rattle.bound_trees.specs.declared.expr.BoundOperation.{BoundOperation}
use Rattle.bound_trees.specs.declared.query.BoundFromItem.{BoundFromItem}
use Rattle.bound_trees.specs.declared.query.BoundFromItem.TheVariants as item
use Rattle.bound_trees.specs.declared.query.BoundFromItem.TheVariants.{rolls-Comma, rolls-Cross}
use Rattle.bound_trees.specs.declared.query.BoundFromItem.TheVariants.{rolls-Inner, rolls-Left}
use Rattle.bound_trees.specs.declared.query.BoundGrouping.{BoundGrouping, roll-BoundGrouping}
use Rattle.bound_trees.specs.declared.query.BoundQuery.{BoundQuery}
use Rattle.bound_trees.specs.declared.query.BoundQuery.TheVariants as query
use Rattle.bound_trees.specs.declared.query.BoundQuery.TheVariants.{rolls-Select, rolls-Values}
use Rattle.bound_trees.specs.declared.query.BoundQuery.TheVariants.{rolls-Ordered}
use Rattle.bound_trees.specs.declared.query.BoundRow.{BoundRow}
use Rattle.bound_trees.specs.declared.query.BoundRow.TheVariants as row
use Rattle.bound_trees.specs.declared.query.BoundRow.TheVariants.{rolls-Row}
use Rattle.bound_trees.specs.declared.query.BoundSelect.{BoundSelect, roll-BoundSelect}
use Rattle.bound_trees.specs.declared.query.BoundSource.{BoundSource}
use Rattle.bound_trees.specs.declared.query.BoundSource.TheVariants as source
use Rattle.bound_trees.specs.declared.query.BoundSource.TheVariants.{rolls-Table, rolls-Derived}
use Rattle.bind_kinds.specs.declared.kind.Kind.TheVariants.{Boolean}
use Rattle.bind_kinds.specs.Kinds.{fits}
use Rattle.typing_trees.specs.Kinds.{kind_of_value, allows, gives}
use Rattle.typing_trees.specs.Around.{Around, then, only_if, kind_at, kind_in_slot}
use Rattle.typing_trees.specs.Queries.{ExprKind, QueryKinds, FromRow, FromKinds}
use Rattle.typing_trees.specs.Queries.{GroupKinds, kinds_of, chain_kind, only_column, call_kind}
use Rattle.typing_trees.specs.Queries.{kinds_of_rows, columns_of_table, nothing_joined, past_comma}
use Rattle.typing_trees.specs.Queries.{joined_with, whole_row, joined_on, items_joined, selected}
use Rattle.typing_trees.specs.Queries.{keys_within}
use Rattle.typing_trees.specs.Queries.{kind_of, kinds_of_item}
use Rattle.typing_trees.specs.Queries.{kinds_of_query, exprs_of_row, kinds_of_source, kind_of_link}
use Rattle.typing_trees.specs.Queries.{kinds_of_grouping, kinds_of_select}
pub use Rattle.typing_trees.proofs.Laws.{ExprLayer, ItemLayer, QueryLayer, RowLayer, SourceLayer}
pub use Rattle.typing_trees.proofs.Laws.{LinkLayer, GroupingLayer, SelectLayer}
pub use Rattle.typing_trees.proofs.Laws.{expr_kinded, item_kinded, query_kinded, row_kinded}
pub use Rattle.typing_trees.proofs.Laws.{source_kinded, link_kinded, grouping_kinded, select_kinded}
pub use Rattle.typing_trees.proofs.Laws.{kind_of-at, kinds_of_item-at, kinds_of_query-at}
pub use Rattle.typing_trees.proofs.Laws.{exprs_of_row-at, kinds_of_source-at, kind_of_link-at}
pub use Rattle.typing_trees.proofs.Laws.{kinds_of_grouping-at, kinds_of_select-at}

-- ---- expressions

pub literal-kind : (v : Value) (a : Around) → kind_of (bound.Literal v) a ≡ Some (kind_of_value v)
literal-kind v a = ap (λ (f : ExprKind). f a) (ap kind_of (sym (rolls-Literal v)) ∙
    kind_of-at (BoundExpr-F.Literal v))

pub column-kind : (level : ℕ) (place : ℕ) (a : Around) →
    kind_of (bound.Column level place) a ≡ kind_at a.rows level place
column-kind level place a = ap (λ (f : ExprKind). f a)
    (ap kind_of (sym (rolls-Column level place)) ∙ kind_of-at (BoundExpr-F.Column level place))

pub variable-kind : (slot : ℕ) (a : Around) →
    kind_of (bound.Variable slot) a ≡ kind_in_slot a.slots slot
variable-kind slot a = ap (λ (f : ExprKind). f a) (ap kind_of (sym (rolls-Variable slot)) ∙
    kind_of-at (BoundExpr-F.Variable slot))

pub operation-kind : (w : BoundOperation) (es : List BoundExpr) (a : Around) →
    kind_of (bound.Operation w es) a ≡ then (kinds_of a (map kind_of es))
    (λ ks. only_if (allows w ks) (Some (gives w ks)))
operation-kind w es a = ap (λ (f : ExprKind). f a) (ap kind_of (sym (rolls-Operation w es)) ∙
    kind_of-at (BoundExpr-F.Operation w es))

pub chain-kind : (e : BoundExpr) (ls : List BoundLink) (a : Around) →
    kind_of (bound.Chain e ls) a ≡ then (kind_of e a) (λ k. chain_kind a k (map kind_of_link ls))
chain-kind e ls a = ap (λ (f : ExprKind). f a) (ap kind_of (sym (rolls-Chain e ls)) ∙
    kind_of-at (BoundExpr-F.Chain e ls))

pub call-kind : (name : List ℕ) (es : List BoundExpr) (a : Around) →
    kind_of (bound.Call name es) a ≡ then (kinds_of a (map kind_of es))
    (λ ks. call_kind (a.functions name) ks)
call-kind name es a = ap (λ (f : ExprKind). f a) (ap kind_of (sym (rolls-Call name es)) ∙
    kind_of-at (BoundExpr-F.Call name es))

pub single-kind : (q : BoundQuery) (a : Around) →
    kind_of (bound.Single q) a ≡ then (kinds_of_query q a) only_column
single-kind q a = ap (λ (f : ExprKind). f a) (ap kind_of (sym (rolls-Single q)) ∙
    kind_of-at (BoundExpr-F.Single q))

pub exists-kind : (q : BoundQuery) (a : Around) →
    kind_of (bound.Exists q) a ≡ then (kinds_of_query q a) (λ ks. Some Boolean)
exists-kind q a = ap (λ (f : ExprKind). f a) (ap kind_of (sym (rolls-Exists q)) ∙
    kind_of-at (BoundExpr-F.Exists q))

pub in-kind : (e : BoundExpr) (q : BoundQuery) (a : Around) →
    kind_of (bound.In e q) a ≡ then (kind_of e a)
    (λ k. then (then (kinds_of_query q a) only_column) (λ j. only_if (fits k j) (Some Boolean)))
in-kind e q a = ap (λ (f : ExprKind). f a) (ap kind_of (sym (rolls-In e q)) ∙
    kind_of-at (BoundExpr-F.In e q))

pub link-kind : (operator : Operator) (operand : BoundExpr) →
    kind_of_link (roll-BoundLink (record { operator = operator; operand = operand })) ≡
    record { operator = operator; operand = kind_of operand }
link-kind operator operand = kind_of_link-at (record { operator = operator; operand = operand })

-- ---- items of FROM

pub comma-kinds : (x : BoundSource) (a : Around) (so : FromRow) →
    kinds_of_item (item.Comma x) a so ≡ then (kinds_of_source x a) (λ ks. Some (past_comma so ks))
comma-kinds x a so = ap (λ (f : FromKinds). f a so) (ap kinds_of_item (sym (rolls-Comma x)) ∙
    kinds_of_item-at (BoundFromItem-F.Comma x))

pub cross-kinds : (x : BoundSource) (a : Around) (so : FromRow) →
    kinds_of_item (item.Cross x) a so ≡ then (kinds_of_source x a) (λ ks. Some (joined_with so ks))
cross-kinds x a so = ap (λ (f : FromKinds). f a so) (ap kinds_of_item (sym (rolls-Cross x)) ∙
    kinds_of_item-at (BoundFromItem-F.Cross x))

pub inner-kinds : (x : BoundSource) (on : List BoundExpr) (a : Around) (so : FromRow) →
    kinds_of_item (item.Inner x on) a so ≡ then (kinds_of_source x a)
    (λ ks. joined_on a (map kind_of on) (joined_with so ks))
inner-kinds x on a so = ap (λ (f : FromKinds). f a so) (ap kinds_of_item (sym (rolls-Inner x on)) ∙
    kinds_of_item-at (BoundFromItem-F.Inner x on))

pub left-kinds : (x : BoundSource) (on : List BoundExpr) (a : Around) (so : FromRow) →
    kinds_of_item (item.Left x on) a so ≡ then (kinds_of_source x a)
    (λ ks. joined_on a (map kind_of on) (joined_with so ks))
left-kinds x on a so = ap (λ (f : FromKinds). f a so) (ap kinds_of_item (sym (rolls-Left x on)) ∙
    kinds_of_item-at (BoundFromItem-F.Left x on))

pub table-kinds : (name : List ℕ) (a : Around) →
    kinds_of_source (source.Table name) a ≡ columns_of_table (a.tables name)
table-kinds name a = ap (λ (f : QueryKinds). f a) (ap kinds_of_source (sym (rolls-Table name)) ∙
    kinds_of_source-at (BoundSource-F.Table name))

pub derived-kinds : (q : BoundQuery) (a : Around) →
    kinds_of_source (source.Derived q) a ≡ kinds_of_query q a
derived-kinds q a = ap (λ (f : QueryKinds). f a) (ap kinds_of_source (sym (rolls-Derived q)) ∙
    kinds_of_source-at (BoundSource-F.Derived q))

-- ---- queries

pub select-kinds : (s : BoundSelect) (a : Around) →
    kinds_of_query (query.Select s) a ≡ kinds_of_select s a
select-kinds s a = ap (λ (f : QueryKinds). f a) (ap kinds_of_query (sym (rolls-Select s)) ∙
    kinds_of_query-at (BoundQuery-F.Select s))

pub values-kinds : (rows : List BoundRow) (a : Around) →
    kinds_of_query (query.Values rows) a ≡ kinds_of_rows a (map exprs_of_row rows)
values-kinds rows a = ap (λ (f : QueryKinds). f a) (ap kinds_of_query (sym (rolls-Values rows)) ∙
    kinds_of_query-at (BoundQuery-F.Values rows))

pub ordered-kinds : (q : BoundQuery) (keys : List SortKey) (a : Around) →
    kinds_of_query (query.Ordered q keys) a ≡ then (kinds_of_query q a)
    (λ ks. only_if (keys_within (length ks) keys) (Some ks))
ordered-kinds q keys a = ap (λ (f : QueryKinds). f a)
    (ap kinds_of_query (sym (rolls-Ordered q keys)) ∙
    kinds_of_query-at (BoundQuery-F.Ordered q keys))

pub row-exprs : (es : List BoundExpr) → exprs_of_row (row.Row es) ≡ map kind_of es
row-exprs es = ap exprs_of_row (sym (rolls-Row es)) ∙ exprs_of_row-at (BoundRow-F.Row es)

pub grouping-kinds : (keys : ℕ) (parts : List BoundExpr) (aggregates : List FoldKind)
    (having : List BoundExpr)
    → kinds_of_grouping
    (roll-BoundGrouping (record {
      keys = keys;
      parts = parts;
      aggregates = aggregates;
      having =
          having;
    }))
    ≡ record {
      keys = keys;
      parts = map kind_of parts;
      aggregates = aggregates;
      having =
          map kind_of having;
    }
grouping-kinds keys parts aggregates having =
    kinds_of_grouping-at (record {
      keys = keys;
      parts = parts;
      aggregates = aggregates;
      having =
          having;
    })

-- a query over FROM that is not grouped
pub ungrouped-kinds : (items : List BoundExpr) (from : List BoundFromItem)
    (conjuncts : List BoundExpr) (a : Around)
    → kinds_of_select (roll-BoundSelect (record {
      items = items;
      from = from;
      conjuncts = conjuncts;
      grouping = None;
    })) a
    ≡ then (items_joined a nothing_joined (map kinds_of_item from))
    (λ so. selected a (whole_row so) (map kind_of items) (map kind_of conjuncts) None)
ungrouped-kinds items from conjuncts a = ap (λ (f : QueryKinds). f a)
    (kinds_of_select-at (record {
      items = items;
      from = from;
      conjuncts = conjuncts;
      grouping =
          None;
    }))

-- one that is grouped
pub by-group-kinds : (items : List BoundExpr) (from : List BoundFromItem)
    (conjuncts : List BoundExpr) (g : BoundGrouping) (a : Around)
    → kinds_of_select (roll-BoundSelect (record {
      items = items;
      from = from;
      conjuncts = conjuncts;
      grouping = Some g;
    })) a
    ≡ then (items_joined a nothing_joined (map kinds_of_item from))
    (λ so. selected a (whole_row so) (map kind_of items) (map kind_of conjuncts)
    (Some (kinds_of_grouping g)))
by-group-kinds items from conjuncts g a = ap (λ (f : QueryKinds). f a)
    (kinds_of_select-at (record {
      items = items;
      from = from;
      conjuncts = conjuncts;
      grouping =
          Some g;
    }))

-- one that is grouped, by the parts of its grouping
pub grouped-kinds : (items : List BoundExpr) (from : List BoundFromItem)
    (conjuncts : List BoundExpr) (keys : ℕ) (parts : List BoundExpr) (aggregates : List FoldKind)
    (having : List BoundExpr) (a : Around)
    → kinds_of_select
    (roll-BoundSelect (record {
      items = items;
      from = from;
      conjuncts = conjuncts;
      grouping =
          Some (roll-BoundGrouping (record {
            keys = keys;
            parts = parts;
            aggregates = aggregates;
            having = having;
          }));
    })) a
    ≡ then (items_joined a nothing_joined (map kinds_of_item from))
    (λ so. selected a (whole_row so) (map kind_of items) (map kind_of conjuncts)
    (Some (record {
      keys = keys;
      parts = map kind_of parts;
      aggregates = aggregates;
      having =
          map kind_of having;
    })))
grouped-kinds items from conjuncts keys parts aggregates having a =
    by-group-kinds items from conjuncts (roll-BoundGrouping
    (record { keys = keys; parts = parts; aggregates = aggregates; having = having })) a
    ∙ ap (λ (g : GroupKinds). then (items_joined a nothing_joined (map kinds_of_item from))
    (λ so. selected a (whole_row so) (map kind_of items) (map kind_of conjuncts) (Some g)))
    (grouping-kinds keys parts aggregates having)
