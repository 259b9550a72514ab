-- When bound expressions and queries are well typed, and then their kinds and those of their
-- columns, by what stands around them. ISO/IEC 9075-2, 6.26 (value expression), 7.5 (from clause),
-- 7.10 (joined table), 7.13 (group by clause), 7.16 (query specification) and 7.17 (query
-- expression).
use Rattle.std.specs.Prelude.{ℕ, zero, suc, nat_lt, Bool, false, List, [], ◌∷◌, ◌++◌, map, length}
use Rattle.std.specs.Prelude.{Option, Some, None}
use Rattle.std.specs.List.{list_all}
use Rattle.sql_values.specs.declared.fold.FoldKind.{FoldKind}
use Rattle.sql_values.specs.declared.operators.Operator.{Operator}
use Rattle.row_types.specs.declared.sort_key.SortKey.{SortKey}
use Rattle.row_types.specs.declared.RowType.{RowType}
use Rattle.bound_trees.specs.declared.expr.BoundExpr.{BoundExpr, fold-BoundExpr}
use Rattle.bound_trees.specs.declared.expr.BoundExpr.TheOpen.{BoundExpr-F, BoundFromItem-F}
use Rattle.bound_trees.specs.declared.expr.BoundExpr.TheOpen.{BoundQuery-F, BoundRow-F}
use Rattle.bound_trees.specs.declared.expr.BoundExpr.TheOpen.{BoundSource-F, BoundGrouping-F}
use Rattle.bound_trees.specs.declared.expr.BoundExpr.TheOpen.{BoundLink-F, BoundSelect-F}
use Rattle.bound_trees.specs.declared.expr.BoundLink.{BoundLink, fold-BoundLink}
use Rattle.bound_trees.specs.declared.query.BoundFromItem.{BoundFromItem, fold-BoundFromItem}
use Rattle.bound_trees.specs.declared.query.BoundGrouping.{BoundGrouping, fold-BoundGrouping}
use Rattle.bound_trees.specs.declared.query.BoundQuery.{BoundQuery, fold-BoundQuery}
use Rattle.bound_trees.specs.declared.query.BoundRow.{BoundRow, fold-BoundRow}
use Rattle.bound_trees.specs.declared.query.BoundSelect.{BoundSelect, fold-BoundSelect}
use Rattle.bound_trees.specs.declared.query.BoundSource.{BoundSource, fold-BoundSource}
use Rattle.catalog_store.specs.declared.entry.FunctionHead.{FunctionHead}
use Rattle.bind_kinds.specs.declared.kind.Kind.{Kind}
use Rattle.bind_kinds.specs.declared.kind.Kind.TheVariants.{Boolean}
use Rattle.bind_kinds.specs.Kinds.{kind_of_type, fits, joined}
use Rattle.bind_kinds.specs.Chains.{kind_of_operator}
use Rattle.typing_trees.specs.Kinds.{kind_of_value, each_fits, allows, gives, operator_allows}
use Rattle.typing_trees.specs.Kinds.{aggregate_allows, aggregate_gives}
use Rattle.typing_trees.specs.Around.{Around, with_row, then, only_if, kind_at, kind_in_slot}

-- the kind of an expression, where it is well typed
abbrev pub ExprKind : Type 0
ExprKind = Around → Option Kind

-- the kinds of the columns of a query, where it is well typed
abbrev pub QueryKinds : Type 0
QueryKinds = Around → Option (List Kind)

-- the row of FROM so far: what stands before the last comma, and from there on
pub record FromRow : Type 0 where
  pub before : List Kind
  pub joined : List Kind

-- the row of FROM after an item, where the item is well typed after this row
abbrev pub FromKinds : Type 0
FromKinds = Around → FromRow → Option FromRow

-- a link of a chain: its operator, and the kind of its operand
pub record LinkKind : Type 0 where
  pub operator : Operator
  pub operand : ExprKind

-- groups: how many keys there are, the parts (the keys first), the aggregates, HAVING
pub record GroupKinds : Type 0 where
  pub keys : ℕ
  pub parts : List ExprKind
  pub aggregates : List FoldKind
  pub having : List ExprKind

-- ---- several expressions

-- the kinds of several expressions, where all are well typed
abbrev pub kinds_of : Around → List ExprKind → Option (List Kind)
kinds_of a [] = Some []
kinds_of a (e ∷ es) = then (e a) (λ k. then (kinds_of a es) (λ ks. Some (k ∷ ks)))

-- a truth value, or NULL
abbrev pub is_true_value : Option Kind → Bool
is_true_value None = false
is_true_value (Some k) = fits Boolean k

-- each is a truth value
abbrev pub tests : Around → List ExprKind → Bool
tests a es = list_all (λ e. is_true_value (e a)) es

-- a chain whose first operands are of a kind
abbrev pub chain_kind : Around → Kind → List LinkKind → Option Kind
chain_kind a kind [] = Some kind
chain_kind a kind (l ∷ ls) = then (l.operand a)
    (λ k. only_if (operator_allows l.operator kind k)
    (chain_kind a (kind_of_operator l.operator) ls))

-- the kind of the one column
abbrev pub only_column : List Kind → Option Kind
only_column [] = None
only_column (k ∷ []) = Some k
only_column (k ∷ l ∷ ks) = None

-- a call gives the function's type, where each argument fits its parameter
abbrev pub call_kind : Option FunctionHead → List Kind → Option Kind
call_kind None ks = None
call_kind (Some f) ks = only_if (each_fits (map kind_of_type f.parameters) ks)
    (Some (kind_of_type f.returns))

-- ---- VALUES

-- kinds of columns, with a row more, which has as many
abbrev pub row_kinds : List Kind → List Kind → Option (List Kind)
row_kinds [] [] = Some []
row_kinds [] (k ∷ ks) = None
row_kinds (c ∷ cs) [] = None
row_kinds (c ∷ cs) (k ∷ ks) = only_if (fits c k)
    (then (row_kinds cs ks) (λ js. Some (joined c k ∷ js)))

-- the kinds of the columns of VALUES, once those of the rows so far are known
abbrev pub more_rows : Around → List Kind → List (List ExprKind) → Option (List Kind)
more_rows a cs [] = Some cs
more_rows a cs (r ∷ rs) = then (kinds_of a r)
    (λ ks. then (row_kinds cs ks) (λ js. more_rows a js rs))

-- each column has the kind of its values
abbrev pub kinds_of_rows : Around → List (List ExprKind) → Option (List Kind)
kinds_of_rows a [] = Some []
kinds_of_rows a (r ∷ rs) = then (kinds_of a r) (λ ks. more_rows a ks rs)

-- ---- FROM

-- the kinds of a table's columns, where there is such a table
abbrev pub columns_of_table : Option RowType → Option (List Kind)
columns_of_table None = None
columns_of_table (Some t) = Some (map (λ c. kind_of_type c.data_type) t.columns)

-- no item of FROM so far
abbrev pub nothing_joined : FromRow
nothing_joined = record { before = []; joined = [] }

-- the items so far, closed by a comma, and one more
abbrev pub past_comma : FromRow → List Kind → FromRow
past_comma so ks = record { before = so.before ++ so.joined; joined = ks }

-- one item more, joined to those since the last comma
abbrev pub joined_with : FromRow → List Kind → FromRow
joined_with so ks = record { before = so.before; joined = so.joined ++ ks }

-- all columns of FROM
abbrev pub whole_row : FromRow → List Kind
whole_row so = so.before ++ so.joined

-- ON sees what stands from the last comma on
abbrev pub joined_on : Around → List ExprKind → FromRow → Option FromRow
joined_on a on so = only_if (tests (with_row so.joined a) on) (Some so)

-- the items of FROM from left to right
abbrev pub items_joined : Around → FromRow → List FromKinds → Option FromRow
items_joined a so [] = Some so
items_joined a so (f ∷ fs) = then (f a so) (λ more. items_joined a more fs)

-- ---- groups

-- the kinds that aggregates give, one for each of the parts that are left after the keys
abbrev pub aggregate_kinds : List Kind → List FoldKind → Option (List Kind)
aggregate_kinds [] [] = Some []
aggregate_kinds [] (f ∷ fs) = None
aggregate_kinds (k ∷ ks) [] = None
aggregate_kinds (k ∷ ks) (f ∷ fs) = only_if (aggregate_allows f k)
    (then (aggregate_kinds ks fs) (λ gs. Some (aggregate_gives f k ∷ gs)))

-- the row of a group: its grouping columns, of which there are so many, and then its aggregates
abbrev pub group_row : ℕ → List Kind → List FoldKind → Option (List Kind)
group_row zero ks fs = aggregate_kinds ks fs
group_row (suc n) [] fs = None
group_row (suc n) (k ∷ ks) fs = then (group_row n ks fs) (λ gs. Some (k ∷ gs))

-- the list, over a row, with the tests that stand beside it
abbrev pub listed : Around → List ExprKind → List ExprKind → Option (List Kind)
listed a conditions items = only_if (tests a conditions) (kinds_of a items)

-- the list's kinds, over the row of FROM or, where there are groups, over that of a group
abbrev pub list_kinds : Around → List Kind → List ExprKind → Option GroupKinds → Option (List Kind)
list_kinds a row items None = kinds_of (with_row row a) items
list_kinds a row items (Some g) =
    then (kinds_of (with_row row a) g.parts) (λ ks. then (group_row g.keys ks g.aggregates)
    (λ group. listed (with_row group a) g.having items))

-- the list's kinds, where each conjunct of WHERE is a truth value
abbrev pub selected : Around → List Kind → List ExprKind → List ExprKind → Option GroupKinds →
    Option (List Kind)
selected a row items conjuncts grouping = only_if (tests (with_row row a) conjuncts)
    (list_kinds a row items grouping)

-- each column of ORDER BY is one of so many
abbrev pub keys_within : ℕ → List SortKey → Bool
keys_within width keys = list_all (λ k. nat_lt k.place width) keys

-- ---- one level, with what stands inside already seen as its kinds

-- the kind of a node of an expression, once the kinds of what stands in it are known
abbrev pub expr_kind : BoundExpr-F ExprKind FromKinds QueryKinds (List ExprKind) QueryKinds LinkKind
    GroupKinds QueryKinds → ExprKind
expr_kind (BoundExpr-F.Literal v) a = Some (kind_of_value v)
expr_kind (BoundExpr-F.Column level place) a = kind_at a.rows level place
expr_kind (BoundExpr-F.Variable slot) a = kind_in_slot a.slots slot
expr_kind (BoundExpr-F.Operation word es) a =
    then (kinds_of a es) (λ ks. only_if (allows word ks) (Some (gives word ks)))
expr_kind (BoundExpr-F.Chain first links) a = then (first a) (λ k. chain_kind a k links)
expr_kind (BoundExpr-F.Call name args) a = then (kinds_of a args)
    (λ ks. call_kind (a.functions name) ks)
expr_kind (BoundExpr-F.Single query) a = then (query a) only_column
expr_kind (BoundExpr-F.Exists query) a = then (query a) (λ ks. Some Boolean)
expr_kind (BoundExpr-F.In e query) a = then (e a)
    (λ k. then (then (query a) only_column) (λ j. only_if (fits k j) (Some Boolean)))

-- an item of FROM by how it is joined, with its ON
abbrev pub item_kinds : BoundFromItem-F ExprKind FromKinds QueryKinds (List ExprKind) QueryKinds
    LinkKind GroupKinds QueryKinds → FromKinds
item_kinds (BoundFromItem-F.Comma source) a so = then (source a) (λ ks. Some (past_comma so ks))
item_kinds (BoundFromItem-F.Cross source) a so = then (source a) (λ ks. Some (joined_with so ks))
item_kinds (BoundFromItem-F.Inner source on) a so =
    then (source a) (λ ks. joined_on a on (joined_with so ks))
item_kinds (BoundFromItem-F.Left source on) a so =
    then (source a) (λ ks. joined_on a on (joined_with so ks))

-- a select, rows of VALUES, or a query with ORDER BY of columns that it has
abbrev pub query_kinds : BoundQuery-F ExprKind FromKinds QueryKinds (List ExprKind) QueryKinds
    LinkKind GroupKinds QueryKinds → QueryKinds
query_kinds (BoundQuery-F.Select select) a = select a
query_kinds (BoundQuery-F.Values rows) a = kinds_of_rows a rows
query_kinds (BoundQuery-F.Ordered query keys) a =
    then (query a) (λ ks. only_if (keys_within (length ks) keys) (Some ks))

-- the expressions of a row of VALUES
abbrev pub row_exprs : BoundRow-F ExprKind FromKinds QueryKinds (List ExprKind) QueryKinds LinkKind
    GroupKinds QueryKinds → List ExprKind
row_exprs (BoundRow-F.Row es) = es

-- a table's columns, or those of a derived table's query
abbrev pub source_kinds : BoundSource-F ExprKind FromKinds QueryKinds (List ExprKind) QueryKinds
    LinkKind GroupKinds QueryKinds → QueryKinds
source_kinds (BoundSource-F.Table name) a = columns_of_table (a.tables name)
source_kinds (BoundSource-F.Derived query) a = query a

-- a link of a chain
abbrev pub link_kind : BoundLink-F ExprKind FromKinds QueryKinds (List ExprKind) QueryKinds LinkKind
    GroupKinds QueryKinds → LinkKind
link_kind l = record { operator = l.operator; operand = l.operand }

-- GROUP BY with its parts and HAVING
abbrev pub group_kinds : BoundGrouping-F ExprKind FromKinds QueryKinds (List ExprKind) QueryKinds
    LinkKind GroupKinds QueryKinds → GroupKinds
group_kinds g = record {
  keys = g.keys;
  parts = g.parts;
  aggregates = g.aggregates;
  having =
      g.having;
}

-- FROM first, then WHERE, groups and the list, over the row of FROM
abbrev pub select_kinds : BoundSelect-F ExprKind FromKinds QueryKinds (List ExprKind) QueryKinds
    LinkKind GroupKinds QueryKinds → QueryKinds
select_kinds s a = then (items_joined a nothing_joined s.from)
    (λ so. selected a (whole_row so) s.items s.conjuncts s.grouping)

-- ---- whole trees

-- the kind of an expression, where it is well typed
abbrev pub kind_of : BoundExpr → ExprKind
kind_of = fold-BoundExpr ExprKind FromKinds QueryKinds (List ExprKind) QueryKinds LinkKind
    GroupKinds QueryKinds expr_kind item_kinds query_kinds row_exprs source_kinds link_kind
    group_kinds select_kinds

-- an item of FROM
abbrev pub kinds_of_item : BoundFromItem → FromKinds
kinds_of_item = fold-BoundFromItem ExprKind FromKinds QueryKinds (List ExprKind) QueryKinds LinkKind
    GroupKinds QueryKinds expr_kind item_kinds query_kinds row_exprs source_kinds link_kind
    group_kinds select_kinds

-- the kinds of the columns of a query, where it is well typed
abbrev pub kinds_of_query : BoundQuery → QueryKinds
kinds_of_query = fold-BoundQuery ExprKind FromKinds QueryKinds (List ExprKind) QueryKinds LinkKind
    GroupKinds QueryKinds expr_kind item_kinds query_kinds row_exprs source_kinds link_kind
    group_kinds select_kinds

-- the expressions of a row of VALUES, each with its kind
abbrev pub exprs_of_row : BoundRow → List ExprKind
exprs_of_row = fold-BoundRow ExprKind FromKinds QueryKinds (List ExprKind) QueryKinds LinkKind
    GroupKinds QueryKinds expr_kind item_kinds query_kinds row_exprs source_kinds link_kind
    group_kinds select_kinds

-- the kinds of the columns of a table or derived table
abbrev pub kinds_of_source : BoundSource → QueryKinds
kinds_of_source = fold-BoundSource ExprKind FromKinds QueryKinds (List ExprKind) QueryKinds LinkKind
    GroupKinds QueryKinds expr_kind item_kinds query_kinds row_exprs source_kinds link_kind
    group_kinds select_kinds

-- a link of a chain
abbrev pub kind_of_link : BoundLink → LinkKind
kind_of_link = fold-BoundLink ExprKind FromKinds QueryKinds (List ExprKind) QueryKinds LinkKind
    GroupKinds QueryKinds expr_kind item_kinds query_kinds row_exprs source_kinds link_kind
    group_kinds select_kinds

-- GROUP BY with its parts and HAVING
abbrev pub kinds_of_grouping : BoundGrouping → GroupKinds
kinds_of_grouping = fold-BoundGrouping ExprKind FromKinds QueryKinds (List ExprKind) QueryKinds
    LinkKind GroupKinds QueryKinds expr_kind item_kinds query_kinds row_exprs source_kinds link_kind
    group_kinds select_kinds

-- the kinds of the columns of a select, where it is well typed
abbrev pub kinds_of_select : BoundSelect → QueryKinds
kinds_of_select = fold-BoundSelect ExprKind FromKinds QueryKinds (List ExprKind) QueryKinds LinkKind
    GroupKinds QueryKinds expr_kind item_kinds query_kinds row_exprs source_kinds link_kind
    group_kinds select_kinds
