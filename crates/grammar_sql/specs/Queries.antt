-- Queries: ISO/IEC 9075-2, 7.3 (VALUES), 7.5 to 7.10 (FROM and joined tables), 7.12 (WHERE), 7.13
-- (GROUP BY), 7.14 (HAVING), 7.16 (SELECT), 10.10 and 14.3 (ORDER BY).
use Rattle.std.specs.Prelude.{Bool, true, false, List, ◌∷◌, Option, Some, None}
use Rattle.grammar_sql.specs.declared.predicate_part.InValue.{InValue}
use Rattle.grammar_sql.specs.declared.predicate_part.InValue.TheVariants as in_value
use Rattle.sql_lex.specs.declared.token.TokenKind.TheVariants as kind
use Rattle.sql_lex.specs.declared.word.Word.TheVariants as w
use Rattle.sql_lex.specs.declared.sign.Sign.TheVariants as s
use Rattle.syntax_trees.specs.declared.anchor.Anchor.{Anchor}
use Rattle.syntax_trees.specs.declared.anchor.ColumnName.{ColumnName}
use Rattle.syntax_trees.specs.declared.anchor.Ident.{Ident}
use Rattle.syntax_trees.specs.declared.expr.Expr.{Expr}
use Rattle.syntax_trees.specs.declared.expr.Expr.TheVariants as e
use Rattle.syntax_trees.specs.declared.query.FromItem.{FromItem}
use Rattle.syntax_trees.specs.declared.query.FromItem.TheVariants as from
use Rattle.syntax_trees.specs.declared.query.OrderedQuery.{OrderedQuery}
use Rattle.syntax_trees.specs.declared.query.Query.{Query}
use Rattle.syntax_trees.specs.declared.query.Query.TheVariants as q
use Rattle.syntax_trees.specs.declared.query.Select.{Select, roll-Select}
use Rattle.syntax_trees.specs.declared.query.SelectItem.{SelectItem}
use Rattle.syntax_trees.specs.declared.query.SelectItem.TheVariants as item
use Rattle.syntax_trees.specs.declared.query.SortSpecification.{SortSpecification}
use Rattle.syntax_trees.specs.declared.query.TableRef.{TableRef}
use Rattle.syntax_trees.specs.declared.query.TableRef.TheVariants as ref
use Rattle.syntax_trees.specs.declared.query.ValueRow.{ValueRow}
use Rattle.syntax_trees.specs.declared.query.ValueRow.TheVariants as value_row
use Rattle.syntax_trees.specs.declared.query.Values.{Values, roll-Values}
use Rattle.grammar_algebra.specs.Grammar.{optional, many}
use Rattle.grammar_algebra.specs.Notation.{word, sign, ◌~◌, ◌~>◌, ◌or◌, ◌=>◌}
use Rattle.grammar_sql.specs.Trees.{G, anchor_of, if_any, only, bracketed, ident, Exprs, Subquery}
use Rattle.grammar_sql.specs.Trees.{Names}
use Rattle.grammar_sql.specs.Expressions.{column_name, expr, exprs, after}

-- ---- names that are written for tables and columns

-- {',' name}
unfoldable pub more_idents : G (List Ident)
more_idents = many (sign s.Comma ~> ident)

-- name {',' name}
unfoldable pub idents : G (List Ident)
idents = (λ p. p.0 ∷ p.1) => ident ~ more_idents

-- ['(' name {',' name} ')']
unfoldable pub column_list : G (List Ident)
column_list = if_any => optional (bracketed Names)

-- [AS] name
unfoldable pub alias : G Ident
alias = optional (word w.As) ~> ident

-- ---- the select list

-- e [[AS] name]
unfoldable pub select_value : G SelectItem
select_value = (λ p. item.Value p.0 p.1) => expr ~ optional alias

-- {',' e [[AS] name]}
unfoldable pub more_select_values : G (List SelectItem)
more_select_values = many (sign s.Comma ~> select_value)

-- <select sublist> {',' <select sublist>}
unfoldable pub select_values : G (List SelectItem)
select_values = (λ p. p.0 ∷ p.1) => select_value ~ more_select_values

-- '*'
unfoldable pub all_columns : G SelectItem
all_columns = (λ t. item.All (anchor_of t)) => sign s.Asterisk

-- list := '*' | e [[AS] name] {',' e [[AS] name]}
unfoldable pub select_list : G (List SelectItem)
select_list = only => all_columns or select_values

-- ---- FROM

-- name [[AS] name]
unfoldable pub named_table : G TableRef
named_table = (λ p. ref.Table p.0 p.1) => ident ~ optional alias

-- '(' query ')' [AS] name ['(' name {',' name} ')']
unfoldable pub derived_table : G TableRef
derived_table = (λ p. ref.Derived p.0 p.1.0 p.1.1) => bracketed Subquery ~ alias ~ column_list

-- ref := name [[AS] name] | '(' query ')' [AS] name ['(' name {',' name} ')']
unfoldable pub table_ref : G TableRef
table_ref = named_table or derived_table

-- <join condition> := ON <search condition>
unfoldable pub on_condition : G Expr
on_condition = after (kind.Word w.On)

-- JOIN ref ON e
unfoldable pub joined_on : G (TableRef × Expr)
joined_on = word w.Join ~> table_ref ~ on_condition

-- ',' ref
unfoldable pub comma_item : G FromItem
comma_item = from.Comma => sign s.Comma ~> table_ref

-- CROSS JOIN ref
unfoldable pub cross_join : G FromItem
cross_join = from.Cross => word w.Cross ~> word w.Join ~> table_ref

-- LEFT [OUTER] JOIN ref ON e
unfoldable pub left_join : G FromItem
left_join = (λ p. from.Left p.0 p.1) => word w.Left ~> optional (word w.Outer) ~> joined_on

-- [INNER] JOIN ref ON e
unfoldable pub inner_join : G FromItem
inner_join = (λ p. from.Inner p.0 p.1) => optional (word w.Inner) ~> joined_on

-- what may stand after an item of FROM
unfoldable pub from_item : G FromItem
from_item = comma_item or cross_join or left_join or inner_join

-- {what may stand after an item of FROM}
unfoldable pub more_from_items : G (List FromItem)
more_from_items = many from_item

-- <table reference>: the first item of FROM
unfoldable pub first_item : G FromItem
first_item = from.Comma => table_ref

-- ref {',' ref | [INNER] JOIN ref ON e | LEFT [OUTER] JOIN ref ON e | CROSS JOIN ref}. This is the
-- language of joined {',' joined}, where joined is a ref with its joins after it: each item but the
-- first begins with a comma or as a join, and a join belongs to the last comma before it.
unfoldable pub from_items : G (List FromItem)
from_items = (λ p. p.0 ∷ p.1) => first_item ~ more_from_items

-- <from clause> := FROM <table reference list>
unfoldable pub from_clause : G (List FromItem)
from_clause = word w.From ~> from_items

-- ---- queries

-- [WHERE e]
unfoldable pub filter : G (Option Expr)
filter = optional (after (kind.Word w.Where))

-- {',' column}
unfoldable pub more_column_names : G (List ColumnName)
more_column_names = many (sign s.Comma ~> column_name)

-- <grouping column reference list>: <column reference> {',' <column reference>}
unfoldable pub column_names : G (List ColumnName)
column_names = (λ p. p.0 ∷ p.1) => column_name ~ more_column_names

-- GROUP BY column {',' column}
unfoldable pub group_clause : G (List ColumnName)
group_clause = word w.Group ~> word w.By ~> column_names

-- [<group by clause>]
unfoldable pub group_by : G (List ColumnName)
group_by = if_any => optional group_clause

-- [HAVING e]
unfoldable pub having : G (Option Expr)
having = optional (after (kind.Word w.Having))

-- [GROUP BY column {',' column}] [HAVING e]
unfoldable pub grouping : G (List ColumnName × Option Expr)
grouping = group_by ~ having

-- SELECT, whose place is the query's anchor
unfoldable pub select_word : G Anchor
select_word = anchor_of => word w.Select

-- the tree of <query specification>: anchor, list, FROM, WHERE, GROUP BY, HAVING
abbrev pub select_of : Anchor × (List SelectItem ×
    (List FromItem × (Option Expr × (List ColumnName × Option Expr)))) → Select
select_of p = roll-Select (record {
  anchor = p.0;
  items = p.1.0;
  from = p.1.1.0;
  filter = p.1.1.1.0;
  group_by = p.1.1.1.1.0;
  having = p.1.1.1.1.1;
})

-- SELECT list FROM items [WHERE e] [GROUP BY column {',' column}] [HAVING e]
unfoldable pub select : G Select
select = select_of => select_word ~ select_list ~ from_clause ~ filter ~ grouping

-- <row value constructor> := '(' <value expression> {',' <value expression>} ')'
unfoldable pub row : G ValueRow
row = value_row.Row => bracketed Exprs

-- {',' <row value constructor>}
unfoldable pub more_rows : G (List ValueRow)
more_rows = many (sign s.Comma ~> row)

-- <row value expression list>: <row value constructor> {',' <row value constructor>}
unfoldable pub rows : G (List ValueRow)
rows = (λ p. p.0 ∷ p.1) => row ~ more_rows

-- VALUES, whose place is the query's anchor
unfoldable pub values_word : G Anchor
values_word = anchor_of => word w.Values

-- <table value constructor> := VALUES <row value expression list>
unfoldable pub values : G Values
values = (λ p. roll-Values (record { anchor = p.0; rows = p.1 })) => values_word ~ rows

-- <query expression> := <query specification> | <table value constructor>
unfoldable pub query : G Query
query = q.Select => select or q.Values => values

-- ---- queries and expressions in brackets

-- query | e: of a query as a value (7.19) its brackets are those of the subquery
unfoldable pub query_or_expr : G Expr
query_or_expr = e.Subquery => query or expr

-- query | e {',' e}: what IN looks in (8.4)
unfoldable pub query_or_exprs : G InValue
query_or_exprs = in_value.Query => query or in_value.List => exprs

-- ---- ORDER BY

-- ASC | DESC: whether the order is descending
unfoldable pub direction : G Bool
direction = (λ t. false) => word w.Asc or (λ t. true) => word w.Desc

-- An order is ascending where nothing is written.
abbrev pub if_descending : Option Bool → Bool
if_descending None = false
if_descending (Some descending) = descending

-- name [ASC | DESC]
unfoldable pub sort_specification : G SortSpecification
sort_specification = (λ p. record { name = p.0; descending = if_descending p.1 }) => ident ~
    optional direction

-- {',' <sort specification>}
unfoldable pub more_sort_specifications : G (List SortSpecification)
more_sort_specifications = many (sign s.Comma ~> sort_specification)

-- <sort specification list>: <sort specification> {',' <sort specification>}
unfoldable pub sort_specifications : G (List SortSpecification)
sort_specifications = (λ p. p.0 ∷ p.1) => sort_specification ~ more_sort_specifications

-- order := ORDER BY name [ASC | DESC] {',' name [ASC | DESC]}
unfoldable pub order_clause : G (List SortSpecification)
order_clause = word w.Order ~> word w.By ~> sort_specifications

-- [<order by clause>]
unfoldable pub order_by : G (List SortSpecification)
order_by = if_any => optional order_clause

-- query [order]
unfoldable pub ordered_query : G OrderedQuery
ordered_query = (λ p. record { query = p.0; order = p.1 }) => query ~ order_by
