-- Worked rows of queries: what names stand for in joins and derived tables, the faults at their
-- places, and what is bound.
use Rattle.std.specs.Prelude.{ℕ, ◌+◌, pos, true, false, ◌≡◌, List, [], ◌∷◌, None, Some, codes}
use Rattle.sql_values.specs.declared.value.SqlType.{SqlType}
use Rattle.sql_values.specs.declared.value.SqlType.TheVariants as type
use Rattle.sql_values.specs.declared.fold.FoldKind.{FoldKind}
use Rattle.sql_values.specs.declared.fold.FoldKind.TheVariants.{Count, Sum, Max}
use Rattle.sql_values.specs.declared.operators.Comparison.TheVariants.{Equals}
use Rattle.sql_values.specs.declared.operators.Operator.TheVariants.{Add}
use Rattle.sql_values.specs.declared.value.Value.TheVariants.{Bool as Truth}
use Rattle.syntax_trees.specs.declared.anchor.Anchor.{Anchor}
use Rattle.syntax_trees.specs.declared.anchor.ColumnName.{ColumnName}
use Rattle.syntax_trees.specs.declared.anchor.Ident.{Ident}
use Rattle.syntax_trees.specs.declared.expr.ChainOperator.{ChainOperator}
use Rattle.syntax_trees.specs.declared.expr.ChainOperator.TheVariants.{And}
use Rattle.syntax_trees.specs.declared.expr.ChainOperator.TheVariants as link
use Rattle.syntax_trees.specs.declared.expr.Literal.TheVariants as literal
use Rattle.syntax_trees.specs.declared.expr.Operation.{Operation as OperationOf}
use Rattle.syntax_trees.specs.declared.expr.Operation.TheVariants.{Minus, Compare}
use Rattle.syntax_trees.specs.declared.query.OrderedQuery.{OrderedQuery}
use Rattle.syntax_trees.specs.declared.query.SortSpecification.{SortSpecification}
use Rattle.row_types.specs.declared.ColumnType.{ColumnType}
use Rattle.bound_trees.specs.declared.expr.BoundExpr.{BoundExpr}
use Rattle.bound_trees.specs.declared.expr.BoundExpr.TheVariants as bound
use Rattle.bound_trees.specs.declared.expr.BoundOperation.TheVariants as word_of
use Rattle.bound_trees.specs.declared.query.BoundFromItem.TheVariants as from
use Rattle.bound_trees.specs.declared.query.BoundGrouping.{roll-BoundGrouping}
use Rattle.bound_trees.specs.declared.query.BoundQuery.{BoundQuery}
use Rattle.bound_trees.specs.declared.query.BoundQuery.TheVariants as query
use Rattle.bound_trees.specs.declared.query.BoundRow.TheVariants as row
use Rattle.bound_trees.specs.declared.query.BoundSelect.{roll-BoundSelect}
use Rattle.bound_trees.specs.declared.query.BoundSource.{BoundSource}
use Rattle.bound_trees.specs.declared.query.BoundSource.TheVariants as source
use Rattle.bound_trees.specs.declared.statement.BoundStmt.TheVariants.{Leave}
use Rattle.catalog_store.specs.Catalog.{Catalog, TableObject, FunctionObject, InterpretedObject}
use Rattle.catalog_store.specs.Catalog.{ProcedureObject, missing}
use Rattle.catalog_store.specs.declared.entry.DataAccess.TheVariants.{ContainsSql, ReadsSqlData}
use Rattle.catalog_store.specs.declared.entry.DataAccess.TheVariants.{ModifiesSqlData}
use Rattle.catalog_store.specs.declared.entry.ParameterMode.TheVariants.{In}
use Rattle.bind_faults.specs.declared.fault.Fault.{Fault}
use Rattle.bind_faults.specs.declared.fault.FaultKind.{FaultKind}
use Rattle.bind_faults.specs.declared.fault.FaultKind.TheVariants.{UnknownName, DuplicateName}
use Rattle.bind_faults.specs.declared.fault.FaultKind.TheVariants.{TypeMismatch, WrongCount}
use Rattle.bind_faults.specs.declared.fault.FaultKind.TheVariants.{NotPermitted}
use Rattle.bind_faults.specs.Faults.{Noted, least}
use Rattle.bind_kinds.specs.Conjuncts.{conjuncts_of}
use Rattle.bind_kinds.specs.declared.kind.Kind.{Kind}
use Rattle.bind_kinds.specs.declared.kind.Kind.TheVariants.{Integer, Text}
use Rattle.bind_sight.specs.declared.output.Output.{Output}
use Rattle.bind_sight.specs.Sight.{Seen, at_top, in_routine, inside_writing}
use Rattle.bind_parts.specs.declared.typed.TypedQuery.{TypedQuery}
use Rattle.bind_queries.specs.Names.{judge}
use Rattle.bind_queries.specs.Order.{judge_ordered}
use Rattle.bind_queries.specs.Queries.{judge_query}
use Rattle.bind_queries.specs.Written.{Expr, Literal, Name, Call, Operation, Aggregate, Chain}
use Rattle.bind_queries.specs.Written.{Subquery, Exists, InQuery, NoLink, MoreLinks, exprs, Item}
use Rattle.bind_queries.specs.Written.{All, Value, Query, Grouped, Select, Values, From, Comma}
use Rattle.bind_queries.specs.Written.{Cross, Inner, Left, Ref, Table, Derived, froms, query_of}
use Rattle.bind_queries.specs.Written.{expr_of}

-- the place of a token; its line says nothing
abbrev pub at : ℕ → Anchor
at token = record { token = token; line = 1; column = token }

-- a fault of a kind at a token
abbrev pub fault : FaultKind → ℕ → Fault
fault kind token = record { at = at token; kind = kind }

-- a name at a token
abbrev pub called : List ℕ → ℕ → Ident
called name token = record { name = name; anchor = at token }

-- ---- expressions at a token

-- NULL
abbrev pub null : ℕ → Expr
null token = Literal (at token) literal.Null

-- the number 7
abbrev pub number : ℕ → Expr
number token = Literal (at token) (literal.Number (pos 7))

-- the text 'a'
abbrev pub text : ℕ → Expr
text token = Literal (at token) (literal.Text (codes "a"))

-- UNKNOWN
abbrev pub truth : ℕ → Expr
truth token = Literal (at token) literal.Unknown

-- a column, a variable or a parameter by its name alone
abbrev pub name : List ℕ → ℕ → Expr
name n token = Name (record { qualifier = None; name = called n token })

-- q.c, with the token of q; c stands two tokens further
abbrev pub qualified : List ℕ → ℕ → List ℕ → Expr
qualified q token n =
    Name (record { qualifier = Some (called q token); name = called n (token + 2) })

-- a call of the function of a name
abbrev pub call : List ℕ → ℕ → List Expr → Expr
call n token args = Call (called n token) (exprs args)

-- a word over its operands
abbrev pub word : OperationOf → ℕ → List Expr → Expr
word operation token es = Operation (at token) operation (exprs es)

-- two operands of an operator
abbrev pub chain : Expr → ChainOperator → ℕ → Expr → Expr
chain left operator token right = Chain left (MoreLinks operator (at token) right NoLink)

-- two operands of =
abbrev pub equal : Expr → ℕ → Expr → Expr
equal left token right = word (Compare Equals) token (left ∷ right ∷ [])

-- ---- tables T (K INTEGER PRIMARY KEY, A INTEGER) and S (A INTEGER PRIMARY KEY, B VARCHAR(9)), and
-- functions F (x) of the greatest height and E (x) of an equal tree

-- a column of a table, which may hold NULL
abbrev pub column : List ℕ → SqlType → ColumnType
column n data_type = record { name = n; data_type = data_type; not_null = false }

-- the catalog of these two tables and two functions
abbrev pub catalog : Catalog
catalog = record {
  name = codes "T";
  object =
      TableObject (record {
        columns = column (codes "K") type.Integer ∷ column
            (codes "A") type.Integer ∷ [];
        key = 0 ∷ [];
      });
}
    ∷ record {
      name = codes "S";
      object = TableObject
          (record {
            columns = column (codes "A") type.Integer ∷ column (codes "B") (type.Varchar 9) ∷
                [];
            key = 0 ∷ [];
          });
    }
    ∷ record {
      name = codes "F";
      object = FunctionObject
          (record {
            parameters = type.Integer ∷ [];
            returns = type.Integer;
            access = ContainsSql;
            height = 8;
            weight = 1;
            uses = [];
            routine = missing;
          });
    }
    ∷ record {
      name = codes "E";
      object = FunctionObject
          (record {
            parameters = type.Integer ∷ [];
            returns = type.Integer;
            access = ContainsSql;
            height = 1;
            weight = 1;
            uses = [];
            routine = missing;
          });
    } ∷ []

-- ---- queries

-- an item without a name of its own, one with a name, and `*`
abbrev pub item : Expr → Item
item e = Value e None

-- an item under a name, which stands at its own token
abbrev pub named : Expr → List ℕ → ℕ → Item
named e n token = Value e (Some (called n token))

-- `*`
abbrev pub star : ℕ → Item
star token = All (at token)

-- a table, and one by another name
abbrev pub table : List ℕ → ℕ → Ref
table n token = Table (called n token) None

-- a table under another name
abbrev pub aliased : List ℕ → ℕ → List ℕ → ℕ → Ref
aliased n token alias place = Table (called n token) (Some (called alias place))

-- a derived table D, with its token, and names of its columns
abbrev pub derived : Query → ℕ → List Ident → Ref
derived q token names = Derived q (called (codes "D") token) names

-- SELECT of a list, FROM some items
abbrev pub select : List Item → List From → Query
select is fs = Select (at 0) is (froms fs) None

-- SELECT of a list, FROM some items, WHERE
abbrev pub select_where : List Item → List From → Expr → Query
select_where is fs filter = Select (at 0) is (froms fs) (Some filter)

-- how a query is judged in sight of the catalog alone
abbrev pub judged : Query → Noted TypedQuery
judged q = judge_query [] (query_of q) (at_top catalog)

-- a row: the least fault of a query is this one
abbrev pub Least : Query → FaultKind → ℕ → Type 0
Least q kind token = least (judged q).faults ≡ Some (fault kind token)

-- no fault but this one
abbrev pub Only : Query → FaultKind → ℕ → Type 0
Only q kind token = (judged q).faults ≡ fault kind token ∷ []

-- a row: a query without a fault
abbrev pub Free : Query → Type 0
Free q = (judged q).faults ≡ []

-- SELECT A, A FROM T, and SELECT K FROM T
abbrev pub twice : Query
twice = Select (at 52) (item (name (codes "A") 53) ∷ item (name (codes "A") 55) ∷ [])
    (froms (Comma (table (codes "T") 57) ∷ [])) None

-- SELECT K FROM T, at the same tokens
abbrev pub once : Query
once = Select (at 52) (item (name (codes "K") 53) ∷ []) (froms (Comma (table (codes "T") 55) ∷ []))
    None

-- T, the first or an item after a comma
abbrev pub t : From
t = Comma (table (codes "T") 50)

-- S, the first or an item after a comma
abbrev pub s : From
s = Comma (table (codes "S") 60)

-- T.K = X.A
abbrev pub on_x : Expr
on_x = equal (qualified (codes "T") 70 (codes "K")) 73 (qualified (codes "X") 74 (codes "A"))

-- names over several items of FROM, in the list, in WHERE and in ON: each fault at its place
pub record NamesInJoins : Type 0 where
  pub items_of_one_name : Only (select (item (number 1) ∷ [])
      (t ∷ Comma (aliased (codes "S") 60 (codes "T") 62) ∷ [])) DuplicateName 62
  pub one_table_twice : Only (select (item (number 1) ∷ []) (t ∷ Cross (table (codes "T") 60) ∷ []))
      DuplicateName 60
  pub in_two_items : Only (select (item (name (codes "A") 1) ∷ []) (t ∷ s ∷ [])) DuplicateName 1
  pub in_two_items_unused :
      Free (select (item (name (codes "K") 1) ∷ item (qualified (codes "S") 3 (codes "A")) ∷ [])
      (t ∷ s ∷ []))
  pub no_column_of_the_item : Only (select (item (qualified (codes "S") 1 (codes "K")) ∷ [])
      (t ∷ s ∷ [])) UnknownName 1
  pub no_item_of_the_name : Only (select (item (qualified (codes "T") 1 (codes "K")) ∷ [])
      (Comma (aliased (codes "T") 50 (codes "X") 52) ∷ [])) UnknownName 1
  pub on_names_a_later_item : Only (select (item (number 1) ∷ [])
      (t ∷ Inner (table (codes "S") 60) on_x ∷ Cross (aliased (codes "S") 80 (codes "X") 82) ∷ []))
      UnknownName 74
  pub on_after_a_comma : Only (select (item (number 1) ∷ [])
      (t ∷ s ∷ Left (aliased (codes "S") 66 (codes "X") 68) on_x ∷ [])) UnknownName 70
  pub on_in_one_group : Free (select (item (number 1) ∷ [])
      (s ∷ t ∷ Inner (aliased (codes "S") 66 (codes "X") 68) on_x ∷ []))
  pub where_sees_all : Free (select_where (item (number 1) ∷ [])
      (t ∷ s ∷ Cross (aliased (codes "S") 66 (codes "X") 68) ∷ []) on_x)
  pub test_of_on : Only (select (item (number 1) ∷ [])
      (t ∷ Inner (table (codes "S") 60) (number 62) ∷ [])) TypeMismatch 62
  pub unknown_table : Only (select (item (name (codes "Z") 1) ∷ [])
      (t ∷ Comma (table (codes "V") 60) ∷ [])) UnknownName 60
  pub unknown_table_hides_no_fault : Least (select (item (word Minus 1 (text 2 ∷ [])) ∷ [])
      (Comma (table (codes "V") 60) ∷ [])) TypeMismatch 2

-- names of derived tables and of their columns: each fault at its place
pub record NamesOfDerivedTables : Type 0 where
  pub two_columns_used : Only (select (item (name (codes "A") 1) ∷ [])
      (Comma (derived twice 60 []) ∷ [])) DuplicateName 1
  pub two_columns_after_its_name : Only (select (item (qualified (codes "D") 1 (codes "A")) ∷ [])
      (Comma (derived twice 60 []) ∷ [])) DuplicateName 1
  pub two_columns_unused : Free (select (item (number 1) ∷ star 3 ∷ [])
      (Comma (derived twice 60 []) ∷ []))
  pub names_of_another_number : Only (select (item (name (codes "Q") 1) ∷ [])
      (Comma (derived once 60 (called (codes "P") 62 ∷ called (codes "Q") 64 ∷ [])) ∷ []))
      WrongCount 60
  pub names_in_place_of_its_own : Only (select (item (name (codes "K") 1) ∷ [])
      (Comma (derived once 60 (called (codes "P") 62 ∷ [])) ∷ [])) UnknownName 1
  pub item_beside_it : Only (select (item (number 1) ∷ [])
      (s ∷ Comma (derived (Select (at 62) (item (qualified (codes "S") 63 (codes "A")) ∷ [])
      (froms (t ∷ [])) None) 68 []) ∷ [])) UnknownName 63
  pub fault_inside : Least (select (item (word Minus 90 (name (codes "Z") 91 ∷ [])) ∷ [])
      (Comma (derived (Select (at 2) (named (word Minus 3 (text 4 ∷ [])) (codes "Z") 6 ∷ [])
      (froms (t ∷ [])) None) 60 []) ∷ [])) TypeMismatch 4
  pub no_fault_above_it : Only (select (item (word Minus 90 (name (codes "Z") 91 ∷ [])) ∷ [])
      (Comma (derived (Select (at 2) (named (word Minus 3 (text 4 ∷ [])) (codes "Z") 6 ∷ [])
      (froms (t ∷ [])) None) 60 []) ∷ [])) TypeMismatch 4
  pub kind_of_a_column : Only (select (item (word Minus 1 (name (codes "Z") 2 ∷ [])) ∷ [])
      (Comma (derived (Values (at 61) (exprs (text 63 ∷ []) ∷ [])) 66 (called (codes "Z") 68 ∷ []))
      ∷ [])) TypeMismatch 2

-- ---- ORDER BY

-- a query with its ORDER BY
abbrev pub sorted : Query → List SortSpecification → OrderedQuery
sorted q order = record { query = query_of q; order = order }

-- an output column of ORDER BY, descending
abbrev pub by_name : List ℕ → ℕ → SortSpecification
by_name n token = record { name = called n token; descending = true }

-- how a query with its ORDER BY is judged
abbrev pub ordered : Query → List SortSpecification → Noted BoundQuery
ordered q order = judge_ordered (sorted q order) (at_top catalog)

-- SELECT A AS B, B FROM S, and SELECT A AS C, B FROM S
abbrev pub two_of_one_name : Query
two_of_one_name = select (named (name (codes "A") 1) (codes "B") 3 ∷ item (name (codes "B") 5) ∷ [])
    (s ∷ [])

-- two output columns of different names
abbrev pub two_names : Query
two_names = select (named (name (codes "A") 1) (codes "C") 3 ∷
    item (qualified (codes "S") 5 (codes "B")) ∷ []) (s ∷ [])

-- a table in bound FROM
abbrev pub table_at : List ℕ → BoundSource
table_at n = source.Table n

-- what both queries are bound to: the two columns of S
abbrev pub bound_names : BoundQuery
bound_names =
    query.Select (roll-BoundSelect (record {
      items = bound.Column 0 0 ∷ bound.Column 0 1 ∷ [];
      from = from.Comma (table_at (codes "S")) ∷ [];
      conjuncts = [];
      grouping = None;
    }))

-- ORDER BY names one output column, by its name in the list alone
pub record OrderByOutputColumns : Type 0 where
  pub unknown : (ordered two_names (by_name (codes "A") 70 ∷ [])).faults ≡ fault UnknownName 70 ∷ []
  pub found_twice : (ordered two_of_one_name (by_name (codes "B") 70 ∷ [])).faults ≡
      fault DuplicateName 70 ∷ []
  pub by_the_last_part : (ordered two_names (by_name (codes "B") 70 ∷ by_name (codes "C") 72 ∷
      [])).value
      ≡ query.Ordered bound_names (record { place = 1; descending = true } ∷
      record { place = 0; descending = true } ∷ [])
  pub without_order : (ordered two_names []).value ≡ bound_names

-- ---- what is bound

-- SELECT * FROM S, T LEFT JOIN S AS X ON T.K = X.A
abbrev pub joined : Query
joined = select (star 1 ∷ []) (s ∷ t ∷ Left (aliased (codes "S") 66 (codes "X") 68) on_x ∷ [])

-- the six columns of S, T and S, by their places in FROM's row
abbrev pub columns : List BoundExpr
columns = bound.Column 0 0 ∷ bound.Column 0 1 ∷ bound.Column 0 2 ∷ bound.Column 0 3 ∷
    bound.Column 0 4 ∷ bound.Column 0 5 ∷ []

-- two columns of a row compared by =
abbrev pub equal_columns : ℕ → ℕ → BoundExpr
equal_columns i j = bound.Operation (word_of.Comparing Equals)
    (bound.Column 0 i ∷ bound.Column 0 j ∷ [])

-- SELECT D.P FROM T JOIN (SELECT K FROM T) D (P) ON T.A = P AND T.K = P
abbrev pub conjuncts : Query
conjuncts = select (item (qualified (codes "D") 1 (codes "P")) ∷ [])
    (t ∷ Inner (derived once 60 (called (codes "P") 62 ∷ []))
    (chain (equal (qualified (codes "T") 70 (codes "A")) 73 (name (codes "P") 74)) And 75
    (equal (qualified (codes "T") 76 (codes "K")) 79 (name (codes "P") 80))) ∷ [])

-- the query of one column, bound
abbrev pub bound_once : BoundQuery
bound_once =
    query.Select
    (roll-BoundSelect (record {
      items = bound.Column 0 0 ∷ [];
      from =
          from.Comma (table_at (codes "T")) ∷ [];
      conjuncts = [];
      grouping = None;
    }))

-- an output column of a name and a kind
abbrev pub output : List ℕ → Kind → Output
output n kind = record { name = Some n; kind = kind }

-- a column is bound by its place in FROM's row, and in ON by that since the last comma
pub record BindsByPlaceInFrom : Type 0 where
  -- `*` gives the columns in FROM's order; ON counts from its comma on
  pub tree : (judged joined).value.tree ≡ query.Select (roll-BoundSelect (record {
    items = columns;
    from = from.Comma (table_at (codes "S")) ∷ from.Comma (table_at (codes "T")) ∷ from.Left
        (table_at (codes "S")) (conjuncts_of (equal_columns 0 2)) ∷ [];
    conjuncts = [];
    grouping = None;
  }))
  pub names : (judged joined).value.columns
      ≡ output (codes "A") Integer ∷ output (codes "B") Text ∷ output (codes "K") Integer ∷ output
      (codes "A") Integer ∷ output (codes "A") Integer ∷ output (codes "B") Text ∷ []
  pub of_a_derived_table : (judged conjuncts).value.tree ≡ query.Select (roll-BoundSelect (record {
    items = bound.Column 0 2 ∷ [];
    from = from.Comma (table_at (codes "T")) ∷ from.Inner (source.Derived bound_once)
        (conjuncts_of (bound.Operation word_of.And (equal_columns 1 2 ∷ equal_columns 0 2 ∷ []))) ∷
        [];
    conjuncts = [];
    grouping = None;
  }))

-- ---- groups

-- an aggregate of an argument, and COUNT(*)
abbrev pub aggregate : FoldKind → ℕ → Expr → Expr
aggregate kind token argument = Aggregate (at token) kind (exprs (argument ∷ []))

-- COUNT(*)
abbrev pub count_all : ℕ → Expr
count_all token = Aggregate (at token) Count (exprs [])

-- a column of GROUP BY, and one after the name of its item
abbrev pub by : List ℕ → ℕ → ColumnName
by n token = record { qualifier = None; name = called n token }

-- a column of GROUP BY with its item's name before it
abbrev pub of_item : List ℕ → ℕ → List ℕ → ColumnName
of_item q token n = record { qualifier = Some (called q token); name = called n (token + 2) }

-- a SELECT with GROUP BY
abbrev pub grouped : List Item → List From → List ColumnName → Query
grouped is fs columns = Grouped (at 0) is (froms fs) None columns None

-- a SELECT with GROUP BY and HAVING
abbrev pub having_of : List Item → List From → List ColumnName → Expr → Query
having_of is fs columns having = Grouped (at 0) is (froms fs) None columns (Some having)

-- where aggregates stand and which columns a grouped query names: each fault at its place
pub record GroupedQueries : Type 0 where
  pub other_column :
      Only (grouped (item (name (codes "A") 1) ∷ item (aggregate Sum 3 (name (codes "A") 5)) ∷ [])
      (t ∷ []) (by (codes "K") 80 ∷ [])) NotPermitted 1
  pub grouping_column :
      Free (grouped (item (name (codes "K") 1) ∷ item (aggregate Sum 3 (name (codes "A") 5)) ∷ [])
      (t ∷ []) (by (codes "K") 80 ∷ []))
  pub beside_an_aggregate :
      Only (select (item (name (codes "K") 1) ∷ item (aggregate Sum 3 (name (codes "A") 5)) ∷ [])
      (t ∷ [])) NotPermitted 1
  pub in_an_expression :
      Only (select (item (chain (aggregate Sum 1 (name (codes "A") 3)) (link.Value Add) 5
      (name (codes "A") 6)) ∷ []) (t ∷ [])) NotPermitted 6
  pub aggregate_in_aggregate :
      Only (select (item (aggregate Sum 1 (aggregate Sum 3 (name (codes "A") 5))) ∷ []) (t ∷ []))
      NotPermitted 3
  pub aggregate_in_where : Only (select_where (item (number 1) ∷ []) (t ∷ [])
      (equal (aggregate Sum 70 (name (codes "A") 72)) 74 (number 75))) NotPermitted 70
  pub aggregate_in_where_of_groups : Only (Grouped (at 0) (item (count_all 1) ∷ []) (froms (t ∷ []))
      (Some (equal (count_all 70) 74 (number 75))) (by (codes "K") 80 ∷ []) None) NotPermitted 70
  pub aggregate_in_on : Only (select (item (number 1) ∷ [])
      (t ∷ Inner (table (codes "S") 60) (equal (aggregate Max 62 (name (codes "K") 64)) 66
      (number 67)) ∷ [])) NotPermitted 62
  pub aggregate_in_values : Only (Values (at 0) (exprs (aggregate Sum 2 (number 4) ∷ []) ∷ []))
      NotPermitted 2
  pub all_columns : Only (grouped (star 1 ∷ []) (t ∷ []) (by (codes "K") 80 ∷ [])) NotPermitted 1
  pub all_grouping_columns : Free (grouped (star 1 ∷ []) (t ∷ [])
      (by (codes "A") 80 ∷ by (codes "K") 82 ∷ []))
  pub having_alone : Only (having_of (item (name (codes "K") 1) ∷ []) (t ∷ []) []
      (equal (number 90) 91 (number 92))) NotPermitted 1
  pub having_alone_of_one_group : Free (having_of (item (number 1) ∷ []) (t ∷ []) []
      (equal (count_all 90) 94 (number 95)))
  pub other_column_in_having : Only (having_of (item (number 1) ∷ []) (t ∷ [])
      (by (codes "K") 80 ∷ []) (equal (name (codes "K") 90) 91 (name (codes "A") 92))) NotPermitted
      92
  pub having_of_any_kind : Only (having_of (item (number 1) ∷ []) (t ∷ []) [] (count_all 90))
      TypeMismatch 90
  pub after_its_item : Free (grouped (item (qualified (codes "T") 1 (codes "A")) ∷ []) (t ∷ [])
      (by (codes "A") 80 ∷ []))
  pub without_its_item : Free (grouped (item (name (codes "K") 1) ∷ []) (t ∷ s ∷ [])
      (of_item (codes "T") 80 (codes "K") ∷ []))
  pub of_another_item : Only (grouped (item (qualified (codes "T") 1 (codes "A")) ∷ []) (t ∷ s ∷ [])
      (of_item (codes "S") 80 (codes "A") ∷ [])) NotPermitted 1
  pub of_an_unknown_table : Only (grouped (item (name (codes "Z") 1) ∷ [])
      (Comma (table (codes "V") 60) ∷ []) (by (codes "Z") 80 ∷ [])) UnknownName 60
  pub other_of_an_unknown_table : Least (grouped (item (name (codes "Y") 1) ∷ [])
      (Comma (table (codes "V") 60) ∷ []) (by (codes "Z") 80 ∷ [])) NotPermitted 1
  pub unknown_grouping_column : Only (grouped (item (number 1) ∷ []) (t ∷ [])
      (by (codes "Z") 80 ∷ [])) UnknownName 80
  pub grouping_column_of_two_items : Only (grouped (item (number 1) ∷ []) (t ∷ s ∷ [])
      (by (codes "A") 80 ∷ [])) DuplicateName 80
  pub grouping_column_twice : Free (grouped (item (name (codes "K") 1) ∷ []) (t ∷ [])
      (by (codes "K") 80 ∷ by (codes "K") 82 ∷ []))
  pub sum_of_texts : Only (select (item (aggregate Sum 1 (text 3)) ∷ []) (t ∷ [])) TypeMismatch 3
  pub kind_of_max : Only (select (item (word Minus 1 (aggregate Max 2 (name (codes "B") 4) ∷ [])) ∷
      []) (s ∷ [])) TypeMismatch 2
  pub kind_of_count : Free
      (select (item (word Minus 1 (aggregate Count 2 (name (codes "B") 4) ∷ [])) ∷ []) (s ∷ []))
  pub kind_after_a_fault :
      Only (select (item (word Minus 1 (aggregate Max 2 (name (codes "Z") 4) ∷ [])) ∷ []) (s ∷ []))
      UnknownName 4

-- SELECT K, SUM(A), COUNT(*) FROM T WHERE A = K GROUP BY A, K HAVING MAX(A) = K
abbrev pub two_and_one : Query
two_and_one =
    Grouped (at 0) (item (name (codes "K") 1) ∷ item (aggregate Sum 3 (name (codes "A") 5)) ∷
    item (count_all 8) ∷ []) (froms (t ∷ []))
    (Some (equal (name (codes "A") 70) 71 (name (codes "K") 72)))
    (by (codes "A") 80 ∷ by (codes "K") 82 ∷ [])
    (Some (equal (aggregate Max 90 (name (codes "A") 92)) 94 (name (codes "K") 95)))

-- SELECT COUNT(*) FROM T
abbrev pub counted : Query
counted = select (item (count_all 1) ∷ []) (t ∷ [])

-- an output column without a name
abbrev pub unnamed : Kind → Output
unnamed kind = record { name = None; kind = kind }

-- in a group a grouping column is bound by its place among these, an aggregate by that of its
-- argument among the parts
pub record BindsByPlaceInGroup : Type 0 where
  -- two grouping columns, two aggregates of the list, and one of HAVING
  pub tree : (judged two_and_one).value.tree ≡ query.Select (roll-BoundSelect (record {
    items = bound.Column 0 1 ∷ bound.Column 0 2 ∷ bound.Column 0 3 ∷ [];
    from = from.Comma (table_at (codes "T")) ∷ [];
    conjuncts = conjuncts_of (equal_columns 1 0);
    grouping = Some (roll-BoundGrouping (record {
      keys = 2;
      parts = bound.Column 0 1 ∷ bound.Column 0 0 ∷ bound.Column 0 1 ∷ bound.Literal (Truth true) ∷
          bound.Column 0 1 ∷ [];
      aggregates = Sum ∷ Count ∷ Max ∷ [];
      having = conjuncts_of (equal_columns 4 1);
    }));
  }))
  pub names : (judged two_and_one).value.columns ≡ output (codes "K") Integer ∷ unnamed Integer ∷
      unnamed Integer ∷ []
  pub of_one_group : (judged counted).value.tree ≡ query.Select (roll-BoundSelect (record {
    items = bound.Column 0 0 ∷ [];
    from = from.Comma (table_at (codes "T")) ∷ [];
    conjuncts = [];
    grouping =
        Some (roll-BoundGrouping (record {
          keys = 0;
          parts = bound.Literal (Truth true) ∷ [];
          aggregates = Count ∷ [];
          having = [];
        }));
  }))
  pub of_no_group : (judged once).value.tree ≡ bound_once

-- ---- subqueries

-- a query at a token
abbrev pub query_at : ℕ → List Item → List From → Query
query_at token is fs = Select (at token) is (froms fs) None

-- what subqueries see, and what is asked of their columns: each fault at its place
pub record SubqueriesInExpressions : Type 0 where
  pub two_columns :
      Only (select
      (item (Subquery (query_at 3 (item (name (codes "K") 4) ∷ item (name (codes "A") 6) ∷ [])
      (t ∷ []))) ∷ []) (t ∷ [])) WrongCount 3
  pub two_columns_of_in : Only (select_where (item (number 1) ∷ []) (t ∷ [])
      (InQuery (at 71) false (number 70) (query_at 73
      (item (name (codes "K") 4) ∷ item (name (codes "A") 6) ∷ []) (t ∷ [])))) WrongCount 73
  pub two_columns_of_values :
      Only (select (item (Subquery (Values (at 3) (exprs (number 4 ∷ number 6 ∷ []) ∷ []))) ∷ [])
      (t ∷ [])) WrongCount 3
  pub columns_of_exists : Free (select_where (item (number 1) ∷ []) (t ∷ [])
      (Exists (at 71) (query_at 73 (item (name (codes "K") 4) ∷ item (name (codes "A") 6) ∷ [])
      (t ∷ []))))
  pub in_of_another_kind : Only (select_where (item (number 1) ∷ []) (t ∷ [])
      (InQuery (at 71) false (text 70) (query_at 73 (item (name (codes "K") 74) ∷ []) (t ∷ []))))
      TypeMismatch 73
  pub not_in_of_another_kind : Only (select_where (item (number 1) ∷ []) (t ∷ [])
      (InQuery (at 72) true (number 70) (query_at 73 (item (name (codes "B") 74) ∷ []) (s ∷ []))))
      TypeMismatch 73
  pub in_of_its_kind : Free (select_where (item (number 1) ∷ []) (t ∷ [])
      (InQuery (at 71) false (name (codes "A") 70)
      (query_at 73 (item (name (codes "K") 74) ∷ []) (t ∷ []))))
  pub kind_of_its_column :
      Only (select
      (item (word Minus 1 (Subquery (query_at 3 (item (name (codes "B") 4) ∷ []) (s ∷ [])) ∷ [])) ∷
      []) (t ∷ [])) TypeMismatch 3
  pub exists_is_a_truth_value :
      Only (select
      (item (word Minus 1 (Exists (at 2) (query_at 4 (item (number 5) ∷ []) (s ∷ [])) ∷ [])) ∷ [])
      (t ∷ [])) TypeMismatch 2
  pub in_is_a_truth_value :
      Only (select
      (item (word Minus 1 (InQuery (at 3) false (number 2)
      (query_at 5 (item (number 6) ∷ []) (s ∷ [])) ∷ [])) ∷ []) (t ∷ [])) TypeMismatch 3
  pub fault_inside :
      Only (select
      (item (word Minus 1 (Subquery (query_at 3 (item (name (codes "Z") 4) ∷ []) (s ∷ [])) ∷ [])) ∷
      []) (t ∷ [])) UnknownName 4
  pub all_of_an_unknown_table :
      (judged (select
      (item (Subquery (query_at 3 (star 4 ∷ []) (Comma (table (codes "V") 60) ∷ []))) ∷ [])
      (t ∷ []))).faults ≡ fault UnknownName 60 ∷ fault WrongCount 3 ∷ []
  pub column_of_an_unknown_table : Only (select
      (item (Subquery (query_at 3 (item (name (codes "Z") 4) ∷ [])
      (Comma (table (codes "V") 60) ∷ []))) ∷ []) (t ∷ [])) UnknownName 60
  pub inner_item_hides :
      Only (select
      (item (Subquery (query_at 3 (item (qualified (codes "T") 4 (codes "B")) ∷ [])
      (Comma (aliased (codes "T") 60 (codes "T") 62) ∷ []))) ∷ [])
      (Comma (aliased (codes "S") 50 (codes "T") 52) ∷ [])) UnknownName 4
  pub in_on : Free (select (item (number 1) ∷ [])
      (t ∷ Inner (table (codes "S") 60) (Exists (at 62)
      (query_at 64 (item (qualified (codes "T") 65 (codes "K")) ∷ []) (s ∷ []))) ∷ []))
  pub later_item_in_on : Only (select (item (number 1) ∷ [])
      (t ∷ Inner (table (codes "S") 60) (Exists (at 62)
      (query_at 64 (item (qualified (codes "X") 65 (codes "A")) ∷ []) (s ∷ []))) ∷ Cross
      (aliased (codes "S") 80 (codes "X") 82) ∷ [])) UnknownName 65
  pub column_of_the_group :
      Free (grouped
      (item (Subquery (query_at 3 (item (qualified (codes "T") 4 (codes "K")) ∷ []) (s ∷ []))) ∷ [])
      (t ∷ []) (by (codes "K") 80 ∷ []))
  pub other_column_of_the_group : Only (grouped
      (item (Subquery (query_at 3 (item (qualified (codes "T") 4 (codes "A")) ∷ []) (s ∷ []))) ∷ [])
      (t ∷ []) (by (codes "K") 80 ∷ [])) NotPermitted 4
  pub other_column_in_an_inner_aggregate : Only
      (grouped (item
      (Subquery (query_at 3 (item (aggregate Sum 4 (qualified (codes "T") 6 (codes "A"))) ∷ [])
      (s ∷ []))) ∷ []) (t ∷ []) (by (codes "K") 80 ∷ [])) NotPermitted 6
  pub inside_an_aggregate :
      Free (grouped
      (item (aggregate Sum 1 (Subquery (query_at 3 (item (qualified (codes "T") 4 (codes "A")) ∷ [])
      (s ∷ [])))) ∷ []) (t ∷ []) (by (codes "K") 80 ∷ []))
  pub other_column_in_having : Only (having_of (item (number 1) ∷ []) (t ∷ [])
      (by (codes "K") 80 ∷ []) (Exists (at 90)
      (query_at 92 (item (qualified (codes "T") 93 (codes "A")) ∷ []) (s ∷ [])))) NotPermitted 93
  pub aggregate_of_the_subquery : Free (select
      (item (name (codes "K") 1) ∷ item (Subquery
      (query_at 3 (item (aggregate Sum 4 (name (codes "A") 6)) ∷ []) (s ∷ []))) ∷ []) (t ∷ []))
  pub aggregate_in_its_where :
      Only (grouped
      (item (Exists (at 1) (select_where (item (number 4) ∷ []) (s ∷ [])
      (equal (aggregate Sum 5 (name (codes "A") 7)) 9 (number 10)))) ∷ []) (t ∷ [])
      (by (codes "K") 80 ∷ [])) NotPermitted 5
  pub aggregate_in_its_values : Only (grouped
      (item (Subquery (Values (at 3) (exprs (aggregate Sum 4 (name (codes "K") 6) ∷ []) ∷ []))) ∷
      []) (t ∷ []) (by (codes "K") 80 ∷ [])) NotPermitted 4
  pub other_column_in_its_values : Only (grouped
      (item (Subquery (Values (at 3) (exprs (name (codes "A") 4 ∷ []) ∷ []))) ∷ []) (t ∷ [])
      (by (codes "K") 80 ∷ [])) NotPermitted 4

-- SELECT (SELECT (SELECT T.A FROM S) FROM S) FROM T, and SELECT 1 FROM T WHERE T.A NOT IN (SELECT
-- S.A FROM S WHERE EXISTS (VALUES (T.K)))
abbrev pub two_queries_out : Query
two_queries_out =
    select (item
    (Subquery
    (query_at 3
    (item (Subquery (query_at 5 (item (qualified (codes "T") 6 (codes "A")) ∷ []) (s ∷ []))) ∷ [])
    (s ∷ []))) ∷ []) (t ∷ [])

-- NOT IN of a query with EXISTS of VALUES, which names a column two queries out
abbrev pub members : Query
members =
    select_where (item (name (codes "K") 1) ∷ []) (t ∷ [])
    (InQuery (at 72) true (qualified (codes "T") 68 (codes "A"))
    (Select (at 74) (item (qualified (codes "S") 75 (codes "A")) ∷ []) (froms (s ∷ []))
    (Some (Exists (at 81) (Values (at 83)
    (exprs (qualified (codes "T") 84 (codes "K") ∷ []) ∷ []))))))

-- a list over FROM one table, and a test
abbrev pub bound_select : List ℕ → BoundExpr → List BoundExpr → BoundQuery
bound_select n e conjuncts = query.Select (roll-BoundSelect
    (record {
      items = e ∷ [];
      from = from.Comma (table_at n) ∷ [];
      conjuncts = conjuncts;
      grouping =
          None;
    }))

-- a column of a query outside is bound by how many queries outwards it stands
pub record BindsByLevel : Type 0 where
  pub two_out : (judged two_queries_out).value.tree
      ≡ bound_select (codes "T") (bound.Single
      (bound_select (codes "S") (bound.Single (bound_select (codes "S") (bound.Column 2 1) []))
      [])) []
  pub of_members : (judged members).value.tree
      ≡ bound_select (codes "T") (bound.Column 0 0)
      (conjuncts_of (bound.Operation word_of.Opposite
      (bound.In (bound.Column 0 1) (bound_select (codes "S") (bound.Column 0 0)
      (conjuncts_of (bound.Exists (query.Values (row.Row (bound.Column 1 0 ∷ []) ∷ []))))) ∷
      [])))
  -- the tables in the order in which they are judged
  pub uses : (judged members).uses ≡ codes "T" ∷ codes "S" ∷ []

-- ---- calls in sight

-- the catalog with a function W that modifies SQL data, a function I without a plan, and a
-- procedure P, each of an INTEGER
abbrev pub with_routines : Catalog
with_routines = record {
  name = codes "W";
  object =
      InterpretedObject (record {
        parameters = type.Integer ∷ [];
        returns = type.Integer;
        access =
            ModifiesSqlData;
        height = 1;
        weight = 1;
        uses = [];
        null_call = false;
        self_calling = false;
        body = Leave 0;
      });
}
    ∷ record {
      name = codes "I";
      object = InterpretedObject
          (record {
            parameters = type.Integer ∷ [];
            returns = type.Integer;
            access = ReadsSqlData;
            height = 1;
            weight = 1;
            uses = [];
            null_call = false;
            self_calling = false;
            body =
                Leave 0;
          });
    }
    ∷ record {
      name = codes "P";
      object = ProcedureObject
          (record {
            modes = In ∷ [];
            parameters = type.Integer ∷ [];
            access = ContainsSql;
            height = 1;
            weight = 1;
            uses = [];
            self_calling = false;
            body = Leave 0;
          });
    }
    ∷ catalog

-- in the body of a function of one VARCHAR, and in that of a procedure
abbrev pub in_function : List ℕ → Seen
in_function n =
    in_routine
    (record {
      name = n;
      head = Some (record {
        parameters = type.Varchar 9 ∷ [];
        returns =
            type.Varchar 9;
        access = ModifiesSqlData;
        height = 2;
        weight = 1;
        uses = [];
      });
    })
    (at_top with_routines)

-- in the body of a procedure of this name
abbrev pub in_procedure : List ℕ → Seen
in_procedure n = in_routine (record { name = n; head = None }) (at_top with_routines)

-- the faults of a call of this name, of a number at token 3
abbrev pub call_of : List ℕ → Seen → List Fault
call_of n seen = (judge (expr_of (call n 1 (number 3 ∷ []))) seen).faults

-- which functions a call finds, inside INSERT, UPDATE and DELETE and elsewhere: each fault at its
-- place
pub record CallsInSight : Type 0 where
  pub with_a_plan : call_of (codes "F") (at_top with_routines) ≡ []
  pub without_a_plan : call_of (codes "I") (at_top with_routines) ≡ []
  pub of_a_procedure : call_of (codes "P") (at_top with_routines) ≡ fault UnknownName 1 ∷ []
  pub of_itself : (judge (expr_of (call (codes "G") 1 (text 3 ∷ [])))
      (in_function (codes "G"))).faults ≡ []
  pub of_itself_before_the_catalog : call_of (codes "F") (in_function (codes "F")) ≡
      fault TypeMismatch 3 ∷ []
  pub of_its_procedure : call_of (codes "F") (in_procedure (codes "F")) ≡ fault UnknownName 1 ∷ []
  pub writing : call_of (codes "W") (at_top with_routines) ≡ []
  pub writing_in_insert : call_of (codes "W") (inside_writing (at_top with_routines)) ≡
      fault NotPermitted 1 ∷ []
  pub reading_in_insert : call_of (codes "I") (inside_writing (at_top with_routines)) ≡ []
  pub of_itself_in_insert : (judge (expr_of (call (codes "G") 1 (text 3 ∷ [])))
      (inside_writing (in_function (codes "G")))).faults ≡ fault NotPermitted 1 ∷ []
  pub arguments_in_insert : (judge (expr_of (call (codes "W") 1 []))
      (inside_writing (at_top with_routines))).faults ≡ fault WrongCount 1 ∷ fault NotPermitted 1 ∷
      []
