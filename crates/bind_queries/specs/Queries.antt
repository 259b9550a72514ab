-- Expressions and queries: the bound tree that each stands for, with its kind or its columns, the
-- name faults in it, and the names that it uses, in one fold whose values are judges. ISO/IEC
-- 9075-2, 6.26 (value expression), 7.5 (from clause), 7.6 (table reference), 7.16 (query
-- specification) and 7.17 (query expression).
use Rattle.std.specs.Prelude.{true, false, ◌||◌, List, [], map, Option, None, Some}
use Rattle.syntax_trees.specs.declared.anchor.Anchor.{Anchor}
use Rattle.syntax_trees.specs.declared.anchor.ColumnName.{ColumnName}
use Rattle.syntax_trees.specs.declared.expr.Expr.{Expr, fold-Expr}
use Rattle.syntax_trees.specs.declared.expr.Expr.TheOpen.{Expr-F, FromItem-F, Query-F, SelectItem-F}
use Rattle.syntax_trees.specs.declared.expr.Expr.TheOpen.{TableRef-F, ValueRow-F, Link-F, Select-F}
use Rattle.syntax_trees.specs.declared.expr.Expr.TheOpen.{Values-F}
use Rattle.syntax_trees.specs.declared.expr.Link.{Link, fold-Link}
use Rattle.syntax_trees.specs.declared.query.FromItem.{FromItem, fold-FromItem}
use Rattle.syntax_trees.specs.declared.query.Query.{Query, fold-Query}
use Rattle.syntax_trees.specs.declared.query.SelectItem.{SelectItem, fold-SelectItem}
use Rattle.syntax_trees.specs.declared.query.TableRef.{TableRef, fold-TableRef}
use Rattle.syntax_trees.specs.declared.query.ValueRow.{ValueRow, fold-ValueRow}
use Rattle.syntax_trees.specs.declared.query.Select.{Select, out-Select, fold-Select}
use Rattle.syntax_trees.specs.declared.query.Values.{Values, out-Values, fold-Values}
use Rattle.bind_faults.specs.Faults.{Noted, ◌>>=◌}
use Rattle.bind_kinds.specs.declared.kind.Kind.{Kind}
use Rattle.bind_sight.specs.Sight.{Seen}
use Rattle.bind_parts.specs.declared.from.Opened.{Opened}
use Rattle.bind_parts.specs.declared.typed.TypedQuery.{TypedQuery}
use Rattle.bind_parts.specs.From.{table_judge, derived_source, nothing_open, put_comma, put_cross}
use Rattle.bind_parts.specs.Turns.{each_noted}
use Rattle.bind_queries.specs.Judges.{Expression, JudgedItem, JudgedLink, JudgedRow, QueryJudge}
use Rattle.bind_queries.specs.Judges.{FromJudge, RefJudge, unnamed, any_aggregate, any_in_links}
use Rattle.bind_queries.specs.Judges.{judge_literal, judge_name, judge_call, judge_operation}
use Rattle.bind_queries.specs.Judges.{judge_aggregate, judge_chain, judge_single, judge_exists}
use Rattle.bind_queries.specs.Judges.{judge_member}
use Rattle.bind_queries.specs.From.{put_inner, put_left}
use Rattle.bind_queries.specs.Lists.{all_item, value_item}
use Rattle.bind_queries.specs.Selects.{selected}
use Rattle.bind_queries.specs.ValueRows.{judged_values}

-- ---- the fold: one clause for each form

-- an expression by those of its parts: its own name, whether an aggregate stands directly in it,
-- and its judge
abbrev pub expr_step : Expr-F Expression FromJudge QueryJudge JudgedItem RefJudge JudgedRow
    JudgedLink QueryJudge QueryJudge → Expression
expr_step (Expr-F.Literal at l) = unnamed false (judge_literal at l)
expr_step (Expr-F.Name c) = record {
  name = Some c.name.name;
  aggregates = false;
  judge =
      judge_name c;
}
expr_step (Expr-F.Call i args) = unnamed (any_aggregate args) (judge_call i args)
expr_step (Expr-F.Operation at operation es) =
    unnamed (any_aggregate es) (judge_operation at operation es)
expr_step (Expr-F.Aggregate at kind args) = unnamed true (judge_aggregate at kind args)
expr_step (Expr-F.Chain first links) = unnamed (first.aggregates || any_in_links links)
    (judge_chain first links)
-- an aggregate in a subquery is the subquery's
expr_step (Expr-F.Subquery query) = unnamed false (judge_single query)
expr_step (Expr-F.Exists at query) = unnamed false (judge_exists at query)
expr_step (Expr-F.InQuery at negated left query) =
    unnamed left.aggregates (judge_member at negated left query)

-- an operator where it stands, with what stands right of it
abbrev pub link_step : Link-F Expression FromJudge QueryJudge JudgedItem RefJudge JudgedRow
    JudgedLink QueryJudge QueryJudge → JudgedLink
link_step l = record { operator = l.operator; anchor = l.anchor; operand = l.operand }

-- an item of a select list by its expression
abbrev pub item_step : SelectItem-F Expression FromJudge QueryJudge JudgedItem RefJudge JudgedRow
    JudgedLink QueryJudge QueryJudge → JudgedItem
item_step (SelectItem-F.All at) = record { aggregates = false; judge = all_item at }
item_step (SelectItem-F.Value e alias) = record {
  aggregates = e.aggregates;
  judge =
      value_item e alias;
}

-- an item of FROM by its table, and by its ON
abbrev pub from_step : FromItem-F Expression FromJudge QueryJudge JudgedItem RefJudge JudgedRow
    JudgedLink QueryJudge QueryJudge → FromJudge
from_step (FromItem-F.Comma table) outer so = table outer >>= put_comma so
from_step (FromItem-F.Cross table) outer so = table outer >>= put_cross so
from_step (FromItem-F.Inner table on) outer so = table outer >>= put_inner on.judge outer so
from_step (FromItem-F.Left table on) outer so = table outer >>= put_left on.judge outer so

-- a derived table sees no item of its FROM
abbrev pub ref_step : TableRef-F Expression FromJudge QueryJudge JudgedItem RefJudge JudgedRow
    JudgedLink QueryJudge QueryJudge → RefJudge
ref_step (TableRef-F.Table i alias) outer = table_judge i alias outer
ref_step (TableRef-F.Derived query i names) outer = query [] outer >>= derived_source i names

-- a row of VALUES by its expressions
abbrev pub row_step : ValueRow-F Expression FromJudge QueryJudge JudgedItem RefJudge JudgedRow
    JudgedLink QueryJudge QueryJudge → JudgedRow
row_step (ValueRow-F.Row es) = es

-- a SELECT: first FROM, then the other parts over what it brings in sight
abbrev pub select_step : Select-F Expression FromJudge QueryJudge JudgedItem RefJudge JudgedRow
    JudgedLink QueryJudge QueryJudge → QueryJudge
select_step s targets outer = each_noted (λ so item. item outer so) nothing_open s.from >>= selected
    s.anchor s.items s.filter s.group_by s.having targets outer

-- VALUES by its rows
abbrev pub values_step : Values-F Expression FromJudge QueryJudge JudgedItem RefJudge JudgedRow
    JudgedLink QueryJudge QueryJudge → QueryJudge
values_step v targets outer = judged_values v.anchor v.rows targets outer

-- a query is a SELECT or VALUES
abbrev pub query_step : Query-F Expression FromJudge QueryJudge JudgedItem RefJudge JudgedRow
    JudgedLink QueryJudge QueryJudge → QueryJudge
query_step (Query-F.Select select) targets outer = select targets outer
query_step (Query-F.Values values) targets outer = values targets outer

-- ---- whole trees

-- an expression of the code: its name, whether an aggregate stands directly in it, and its judge
abbrev pub expression : Expr → Expression
expression = fold-Expr Expression FromJudge QueryJudge JudgedItem RefJudge JudgedRow JudgedLink
    QueryJudge QueryJudge expr_step from_step query_step item_step ref_step row_step link_step
    select_step values_step

-- how an item of FROM is judged
abbrev pub from_judge : FromItem → FromJudge
from_judge = fold-FromItem Expression FromJudge QueryJudge JudgedItem RefJudge JudgedRow JudgedLink
    QueryJudge QueryJudge expr_step from_step query_step item_step ref_step row_step link_step
    select_step values_step

-- how a query is judged
abbrev pub query_judge : Query → QueryJudge
query_judge = fold-Query Expression FromJudge QueryJudge JudgedItem RefJudge JudgedRow JudgedLink
    QueryJudge QueryJudge expr_step from_step query_step item_step ref_step row_step link_step
    select_step values_step

-- how an item of a select list is judged
abbrev pub select_item : SelectItem → JudgedItem
select_item = fold-SelectItem Expression FromJudge QueryJudge JudgedItem RefJudge JudgedRow
    JudgedLink QueryJudge QueryJudge expr_step from_step query_step item_step ref_step row_step
    link_step select_step values_step

-- how a table or a derived table in FROM is judged
abbrev pub ref_judge : TableRef → RefJudge
ref_judge = fold-TableRef Expression FromJudge QueryJudge JudgedItem RefJudge JudgedRow JudgedLink
    QueryJudge QueryJudge expr_step from_step query_step item_step ref_step row_step link_step
    select_step values_step

-- a row of VALUES, as how its expressions are judged
abbrev pub value_row : ValueRow → JudgedRow
value_row = fold-ValueRow Expression FromJudge QueryJudge JudgedItem RefJudge JudgedRow JudgedLink
    QueryJudge QueryJudge expr_step from_step query_step item_step ref_step row_step link_step
    select_step values_step

-- an operator of a chain, with how what stands right of it is judged
abbrev pub judged_link : Link → JudgedLink
judged_link = fold-Link Expression FromJudge QueryJudge JudgedItem RefJudge JudgedRow JudgedLink
    QueryJudge QueryJudge expr_step from_step query_step item_step ref_step row_step link_step
    select_step values_step

-- how a SELECT is judged
abbrev pub select_judge : Select → QueryJudge
select_judge = fold-Select Expression FromJudge QueryJudge JudgedItem RefJudge JudgedRow JudgedLink
    QueryJudge QueryJudge expr_step from_step query_step item_step ref_step row_step link_step
    select_step values_step

-- how VALUES is judged
abbrev pub values_judge : Values → QueryJudge
values_judge = fold-Values Expression FromJudge QueryJudge JudgedItem RefJudge JudgedRow JudgedLink
    QueryJudge QueryJudge expr_step from_step query_step item_step ref_step row_step link_step
    select_step values_step

-- the items of FROM in turn
abbrev pub opened_of : List FromItem → Seen → Noted Opened
opened_of items outer = each_noted (λ so item. from_judge item outer so) nothing_open items

-- a query in sight of these names, whose columns are stored into what is of these kinds
abbrev pub judge_query : List Kind → Query → Seen → Noted TypedQuery
judge_query targets query seen = query_judge query targets seen

-- what may be left out
abbrev pub maybe : Option Expr → Option Expression
maybe None = None
maybe (Some e) = Some (expression e)

-- ---- the parts of a SELECT, which may stand by themselves, and of VALUES

-- the parts of a SELECT: first FROM, then the others over what it brings in sight
abbrev pub judge_parts : Anchor → List JudgedItem → List FromItem → Option Expression →
    List ColumnName → Option Expression → QueryJudge
judge_parts at items from filter group_by having targets outer =
    opened_of from outer >>= selected at items filter group_by having targets outer

-- the token at which a SELECT stands
abbrev pub anchor_of : Select → Anchor
anchor_of s = (out-Select s).anchor

-- the select list of a SELECT
abbrev pub items_of : Select → List JudgedItem
items_of s = map select_item (out-Select s).items

-- the items of FROM of a SELECT
abbrev pub items_in_from : Select → List FromItem
items_in_from s = (out-Select s).from

-- WHERE of a SELECT, if it has one
abbrev pub filter_of : Select → Option Expression
filter_of s = maybe (out-Select s).filter

-- the columns of GROUP BY of a SELECT
abbrev pub grouping_columns : Select → List ColumnName
grouping_columns s = (out-Select s).group_by

-- HAVING of a SELECT, if it has one
abbrev pub having_of : Select → Option Expression
having_of s = maybe (out-Select s).having

-- the token at which VALUES stands
abbrev pub anchor_of_values : Values → Anchor
anchor_of_values v = (out-Values v).anchor

-- the rows of VALUES
abbrev pub rows_of : Values → List JudgedRow
rows_of v = map value_row (out-Values v).rows
