-- Worked rows: one for each kind of fault and each rule of its place, and what a statement without
-- faults is bound to.
use Rattle.std.specs.Prelude.{ℕ, ◌+◌, pos, ◌≡◌, Bool, true, false, List, [], ◌∷◌, ◌++◌, map, Option}
use Rattle.std.specs.Prelude.{None, Some, codes}
use Rattle.sql_values.specs.declared.value.SqlType.TheVariants as type
use Rattle.sql_values.specs.declared.value.Value.TheVariants.{Null, Int}
use Rattle.sql_values.specs.declared.fold.FoldKind.TheVariants.{Sum, Max}
use Rattle.sql_values.specs.declared.operators.Operator.TheVariants.{Add, Divide, Concatenate}
use Rattle.sql_values.specs.declared.operators.Comparison.TheVariants.{Equals}
use Rattle.syntax_trees.specs.declared.anchor.Ident.{Ident}
use Rattle.syntax_trees.specs.declared.data_type.DataType.{DataType}
use Rattle.syntax_trees.specs.declared.data_type.TypeName.TheVariants as written
use Rattle.syntax_trees.specs.declared.expr.ChainOperator.TheVariants.{Or, And, Value}
use Rattle.syntax_trees.specs.declared.expr.Expr.{Expr as Tree}
use Rattle.syntax_trees.specs.declared.expr.Operation.TheVariants.{Plus, Minus, Not, Compare, Is}
use Rattle.syntax_trees.specs.declared.expr.Operation.TheVariants.{IsNot, In, NotIn, Modulo}
use Rattle.syntax_trees.specs.declared.expr.Operation.TheVariants.{CharLength, Substring, Cast}
use Rattle.syntax_trees.specs.declared.expr.Operation.TheVariants.{Coalesce, Case, CaseOf}
use Rattle.syntax_trees.specs.declared.expr.TruthTest.TheVariants as test
use Rattle.syntax_trees.specs.declared.query.OrderedQuery.{OrderedQuery}
use Rattle.statement_trees.specs.declared.definition.Column.{Column}
use Rattle.statement_trees.specs.declared.definition.Characteristic.{Characteristic}
use Rattle.statement_trees.specs.declared.definition.CharacteristicKind.{CharacteristicKind}
use Rattle.statement_trees.specs.declared.definition.CharacteristicKind.TheVariants.{Deterministic}
use Rattle.statement_trees.specs.declared.definition.CharacteristicKind.TheVariants as marked
use Rattle.statement_trees.specs.declared.definition.CreateTable.{CreateTable}
use Rattle.statement_trees.specs.declared.definition.DropObject.{DropObject}
use Rattle.statement_trees.specs.declared.definition.ObjectSort.{ObjectSort}
use Rattle.statement_trees.specs.declared.definition.ObjectSort.TheVariants as sort
use Rattle.statement_trees.specs.declared.definition.Parameter.{Parameter}
use Rattle.statement_trees.specs.declared.definition.ParameterMode.TheVariants as mode
use Rattle.statement_trees.specs.declared.definition.TableElement.{TableElement}
use Rattle.statement_trees.specs.declared.definition.TableElement.TheVariants as element
use Rattle.statement_trees.specs.declared.writing.Assignment.{Assignment}
use Rattle.statement_trees.specs.declared.writing.Call.{Call}
use Rattle.statement_trees.specs.declared.writing.Delete.{Delete}
use Rattle.statement_trees.specs.declared.writing.Insert.{Insert}
use Rattle.statement_trees.specs.declared.writing.Update.{Update}
use Rattle.statement_trees.specs.declared.statement.Block.{roll-Block}
use Rattle.statement_trees.specs.declared.statement.CreateFunction.{roll-CreateFunction}
use Rattle.statement_trees.specs.declared.statement.CreateProcedure.{roll-CreateProcedure}
use Rattle.statement_trees.specs.declared.statement.Labelled.{roll-Labelled}
use Rattle.statement_trees.specs.declared.statement.Stmt.{Stmt}
use Rattle.statement_trees.specs.declared.statement.Stmt.TheVariants as stmt
use Rattle.statement_trees.specs.declared.statement.Structure.{Structure}
use Rattle.statement_trees.specs.declared.statement.Structure.TheVariants as structure
use Rattle.statement_trees.specs.declared.definition.Constraint.{Constraint}
use Rattle.statement_trees.specs.declared.definition.Constraint.TheVariants.{NotNull, PrimaryKey}
use Rattle.bound_trees.specs.declared.expr.BoundExpr.{BoundExpr}
use Rattle.bound_trees.specs.declared.expr.BoundExpr.TheVariants as bound
use Rattle.bound_trees.specs.declared.expr.BoundOperation.TheVariants.{NullTest, Opposite}
use Rattle.bound_trees.specs.declared.expr.BoundOperation.TheVariants.{Comparing}
use Rattle.bound_trees.specs.declared.expr.BoundOperation.TheVariants as word_of
use Rattle.bound_trees.specs.declared.query.BoundFromItem.TheVariants as from
use Rattle.bound_trees.specs.declared.query.BoundQuery.{BoundQuery}
use Rattle.bound_trees.specs.declared.query.BoundQuery.TheVariants as query
use Rattle.bound_trees.specs.declared.query.BoundRow.TheVariants as row
use Rattle.bound_trees.specs.declared.query.BoundSelect.{roll-BoundSelect}
use Rattle.bound_trees.specs.declared.query.BoundSource.TheVariants as source
use Rattle.catalog_store.specs.Catalog.{Catalog, FunctionObject, missing}
use Rattle.catalog_store.specs.declared.entry.DataAccess.TheVariants.{ReadsSqlData}
use Rattle.catalog_store.specs.declared.entry.Object.TheVariants as new
use Rattle.bind_faults.specs.declared.fault.Fault.{Fault}
use Rattle.bind_faults.specs.declared.fault.FaultKind.{FaultKind}
use Rattle.bind_faults.specs.declared.fault.FaultKind.TheVariants.{UnknownName, DuplicateName}
use Rattle.bind_faults.specs.declared.fault.FaultKind.TheVariants.{TypeMismatch, WrongCount}
use Rattle.bind_faults.specs.declared.fault.FaultKind.TheVariants.{NotPermitted, TooHigh}
use Rattle.bind_faults.specs.Faults.{least}
use Rattle.bind_kinds.specs.Conjuncts.{conjuncts_of}
use Rattle.bind_queries.specs.Examples.{at, fault, called, null, number, text, truth, name}
use Rattle.bind_queries.specs.Examples.{qualified, call, word, chain, equal, aggregate, column}
use Rattle.bind_queries.specs.Examples.{catalog, item, table as table_ref}
use Rattle.bind_queries.specs.Written.{Expr, Subquery, Query, Select, Values, Comma, exprs, froms}
use Rattle.bind_queries.specs.Written.{expr_of, query_of}
use Rattle.bind_direct.specs.declared.bound.Bound.{Bound}
use Rattle.bind_direct.specs.declared.bound.Bound.TheVariants as bound_as
use Rattle.bind_rules.specs.Definitions.{Definition}
use Rattle.bind_direct.specs.Direct.{with_plans}
use Rattle.bind_statements.specs.Statements.{judged_statement, anchor_of}

-- ---- statements

-- a query without ORDER BY
abbrev pub unordered : Query → OrderedQuery
unordered q = record { query = query_of q; order = [] }

-- a query as a statement
abbrev pub asked : Query → Stmt
asked q = stmt.Query (unordered q)

-- VALUES rows
abbrev pub values_of : List (List Expr) → Query
values_of rs = Values (at 3) (map exprs rs)

-- VALUES rows
abbrev pub values : List (List Expr) → Stmt
values rs = asked (values_of rs)

-- INSERT INTO name VALUES rows
abbrev pub insert_of : List ℕ → List (List Expr) → Insert
insert_of n rs = record {
  anchor = at 0;
  table = called n 2;
  columns = [];
  source =
      query_of (values_of rs);
}

-- INSERT INTO name VALUES rows
abbrev pub insert : List ℕ → List (List Expr) → Stmt
insert n rs = stmt.Insert (insert_of n rs)

-- INSERT INTO name (columns) VALUES row
abbrev pub listed_row : List Expr → Query
listed_row es = Values (at 10) (exprs es ∷ [])

-- INSERT INTO name (columns) VALUES row, as its tree
abbrev pub listed_of : List ℕ → List Ident → List Expr → Insert
listed_of n is es = record {
  anchor = at 0;
  table = called n 2;
  columns = is;
  source =
      query_of (listed_row es);
}

-- INSERT INTO name (columns) VALUES row
abbrev pub insert_listed : List ℕ → List Ident → List Expr → Stmt
insert_listed n is es = stmt.Insert (listed_of n is es)

-- UPDATE name SET column = value, .. WHERE filter
abbrev pub assignment : Ident × Expr → Assignment
assignment a = record { target = a.0; value = expr_of a.1 }

-- WHERE, where there is one
abbrev pub filter_of : Option Expr → Option Tree
filter_of None = None
filter_of (Some e) = Some (expr_of e)

-- UPDATE, as its tree
abbrev pub update_of : List ℕ → List (Ident × Expr) → Option Expr → Update
update_of n sets filter = record {
  anchor = at 0;
  table = called n 1;
  assignments =
      map assignment sets;
  filter = filter_of filter;
}

-- UPDATE name SET column = value, .. WHERE filter
abbrev pub update : List ℕ → List (Ident × Expr) → Option Expr → Stmt
update n sets filter = stmt.Update (update_of n sets filter)

-- DELETE FROM name WHERE filter
abbrev pub delete_of : List ℕ → Option Expr → Delete
delete_of n filter = record { anchor = at 0; table = called n 2; filter = filter_of filter }

-- DELETE FROM name WHERE filter
abbrev pub delete : List ℕ → Option Expr → Stmt
delete n filter = stmt.Delete (delete_of n filter)

-- DROP sort name
abbrev pub removal : ObjectSort → List ℕ → DropObject
removal of n = record { anchor = at 0; sort = of; name = called n 2 }

-- DROP sort name
abbrev pub drop : ObjectSort → List ℕ → Stmt
drop of n = stmt.Drop (removal of n)

-- SELECT items FROM name WHERE filter
abbrev pub select_of : List ℕ → List Expr → Option Expr → Query
select_of n items filter = Select (at 0) (map item items) (froms (Comma (table_ref n 90) ∷ []))
    filter

-- SELECT items FROM name WHERE filter
abbrev pub select : List ℕ → List Expr → Option Expr → Stmt
select n items filter = asked (select_of n items filter)

-- CREATE TABLE name (columns)
abbrev pub integer : ℕ → DataType
integer token = record { anchor = at token; name = written.Integer }

-- BOOLEAN
abbrev pub boolean : ℕ → DataType
boolean token = record { anchor = at token; name = written.Boolean }

-- VARCHAR (n), and the token of n
abbrev pub varchar : ℕ → ℕ → ℕ → DataType
varchar token place n = record { anchor = at token; name = written.Varchar (at place) (pos n) }

-- a column of a table
abbrev pub new_column : List ℕ → ℕ → DataType → List Constraint → Column
new_column n token t constraints = record {
  name = called n token;
  data_type = t;
  constraints =
      constraints;
}

-- CREATE TABLE, as its tree
abbrev pub new_table : List ℕ → List TableElement → CreateTable
new_table n elements = record { anchor = at 0; name = called n 2; elements = elements }

-- CREATE TABLE name (elements)
abbrev pub table_of : List ℕ → List TableElement → Stmt
table_of n elements = stmt.CreateTable (new_table n elements)

-- CREATE TABLE name (columns)
abbrev pub table : List ℕ → List Column → Stmt
table n columns = table_of n (map (λ c. element.Column c) columns)

-- PRIMARY KEY (columns)
abbrev pub key : ℕ → List Ident → TableElement
key token is = element.PrimaryKey (at token) is

-- CREATE FUNCTION name (parameters) RETURNS type RETURN result
abbrev pub new_parameter : List ℕ → ℕ → DataType → Parameter
new_parameter n token t = record { mode = mode.In; name = called n token; data_type = t }

-- CREATE FUNCTION, opened one layer
abbrev pub definition_of : List ℕ → List Parameter → DataType → List Characteristic → Stmt →
    Definition
definition_of n parameters to cs body =
    record {
      anchor = at 0;
      name = called n 2;
      parameters = parameters;
      returns = to;
      characteristics = cs;
      body = body;
    }

-- CREATE FUNCTION with characteristics whose body is RETURN, opened one layer
abbrev pub definition_returning : List ℕ → List Parameter → DataType → List Characteristic → Expr →
    Definition
definition_returning n parameters to cs result = definition_of n parameters to cs
    (stmt.Return (at 9) (expr_of result))

-- CREATE FUNCTION without characteristics whose body is RETURN, opened one layer
abbrev pub new_function : List ℕ → List Parameter → DataType → Expr → Definition
new_function n parameters to result = definition_returning n parameters to [] result

-- CREATE FUNCTION name (parameters) RETURNS type RETURN result
abbrev pub function : List ℕ → List Parameter → DataType → Expr → Stmt
function n parameters to result = stmt.CreateFunction
    (roll-CreateFunction (new_function n parameters to result))

-- the least fault of a statement, at a token
abbrev pub Least : Stmt → FaultKind → ℕ → Type 0
Least s kind token = least (judged_statement s catalog).faults ≡ Some (fault kind token)

-- no fault but this one
abbrev pub Only : Stmt → FaultKind → ℕ → Type 0
Only s kind token = (judged_statement s catalog).faults ≡ fault kind token ∷ []

-- ---- names, numbers of values, and heights

-- each kind of fault, at its place
pub record EachFaultAtItsPlace : Type 0 where
  pub unknown_table : Least (insert (codes "U") ((null 5 ∷ []) ∷ [])) UnknownName 2
  pub function_as_table : Least (select (codes "F") (null 1 ∷ []) None) UnknownName 90
  pub unknown_column : Least (select (codes "T") (null 1 ∷ name (codes "B") 3 ∷ []) None)
      UnknownName 3
  pub column_of_unknown_table : Least (select (codes "U") (name (codes "B") 1 ∷ []) None)
      UnknownName 90
  pub no_column_in_values : Least (insert (codes "T") ((null 5 ∷ name (codes "A") 7 ∷ []) ∷ []))
      UnknownName 7
  pub unknown_function : Least (select (codes "T") (call (codes "G") 1 (null 3 ∷ []) ∷ []) None)
      UnknownName 1
  pub table_as_function : Least (select (codes "T") (call (codes "T") 1 [] ∷ []) None) UnknownName 1
  pub self_call :
      (judged_statement (function (codes "G") (new_parameter (codes "X") 4 (integer 5) ∷ [])
      (integer 8) (call (codes "G") 10 (name (codes "X") 12 ∷ []))) catalog).faults ≡ []
  pub arguments_of_a_self_call : Least (function (codes "G")
      (new_parameter (codes "X") 4 (integer 5) ∷ []) (integer 8) (call (codes "G") 10 []))
      WrongCount 10
  pub taken_name : Least (function (codes "F") [] (integer 8) (null 10)) DuplicateName 2
  pub second_parameter : Least (function (codes "G")
      (new_parameter (codes "X") 4 (integer 5) ∷ new_parameter (codes "X") 7 (integer 8) ∷ [])
      (integer 10) (null 12)) DuplicateName 7
  pub arguments : Least (select (codes "T") (call (codes "F") 1 [] ∷ []) None) WrongCount 1
  pub longer_row : Least (values ((null 4 ∷ []) ∷ (null 6 ∷ null 8 ∷ []) ∷ [])) WrongCount 6
  pub shorter_row : Least (values ((null 4 ∷ null 6 ∷ []) ∷ (null 8 ∷ []) ∷ [])) WrongCount 8
  pub width_of_the_table : Least (insert (codes "T") ((null 5 ∷ []) ∷ [])) WrongCount 3
  pub too_high : Least (function (codes "G") [] (integer 8) (call (codes "F") 17 (null 19 ∷ [])))
      TooHigh 2
  pub too_high_after_unknown : Least (function (codes "G") [] (integer 8)
      (call (codes "H") 17 (call (codes "F") 19 (null 21 ∷ []) ∷ []))) TooHigh 2
  pub second_column : Least (table (codes "V")
      (new_column (codes "A") 4 (integer 5) (PrimaryKey (at 6) ∷ []) ∷ new_column (codes "A") 9
      (integer 10) [] ∷ [])) DuplicateName 9
  pub second_key : Least (table (codes "V") (new_column (codes "K") 4 (integer 5)
      (PrimaryKey (at 6) ∷ NotNull ∷ PrimaryKey (at 10) ∷ []) ∷ [])) DuplicateName 10
  pub key_of_second_column : Least (table (codes "V")
      (new_column (codes "K") 4 (integer 5) (PrimaryKey (at 6) ∷ []) ∷ new_column (codes "A") 9
      (integer 10) (PrimaryKey (at 11) ∷ []) ∷ [])) DuplicateName 11
  pub no_key : Least (table (codes "V") (new_column (codes "A") 4 (integer 5) (NotNull ∷ []) ∷ []))
      NotPermitted 2
  pub taken_before_no_key : Least (table (codes "T") (new_column (codes "A") 4 (integer 5) [] ∷ []))
      DuplicateName 2
  pub length_of_a_column : Least (table (codes "V")
      (new_column (codes "K") 4 (varchar 5 7 4097) (PrimaryKey (at 9) ∷ []) ∷ [])) NotPermitted 7
  pub aggregate_in_a_result : Least (function (codes "G") [] (integer 8)
      (aggregate Sum 10 (number 12))) NotPermitted 10
  pub aggregate_in_a_row : Least (insert (codes "T")
      ((null 5 ∷ aggregate Max 7 (number 9) ∷ []) ∷ [])) NotPermitted 7
  pub unknown_table_in_a_subquery : Least (function (codes "G") [] (integer 8)
      (Subquery (select_of (codes "U") (null 12 ∷ []) None))) UnknownName 90
  pub parameter_in_a_subquery : (judged_statement
      (function (codes "G") (new_parameter (codes "X") 4 (integer 5) ∷ []) (integer 8)
      (Subquery (select_of (codes "T") (name (codes "X") 12 ∷ []) None))) catalog).faults ≡ []
  pub free :
      (judged_statement (table (codes "V") (new_column (codes "A") 4 (boolean 5) (NotNull ∷ []) ∷
      new_column (codes "K") 8 (varchar 9 11 4096) (PrimaryKey (at 13) ∷ []) ∷ [])) catalog).faults
      ≡ []

-- ---- keys

-- A INTEGER, and K INTEGER
abbrev pub a_column : ℕ → TableElement
a_column token = element.Column (new_column (codes "A") token (integer (token + 1)) [])

-- K INTEGER with constraints
abbrev pub k_column : ℕ → List Constraint → TableElement
k_column token constraints = element.Column (new_column (codes "K") token (integer (token + 1))
    constraints)

-- K and A as the key's columns
abbrev pub k_and_a : ℕ → ℕ → List Ident
k_and_a k a = called (codes "K") k ∷ called (codes "A") a ∷ []

-- the faults of a statement, all of them
abbrev pub All : Stmt → List Fault → Type 0
All s fs = (judged_statement s catalog).faults ≡ fs

-- keys of several columns, and second ones: each fault at its place
pub record KeysOfTables : Type 0 where
  pub list_after_a_list : Least (table_of (codes "V")
      (a_column 4 ∷ key 7 (called (codes "A") 10 ∷ []) ∷ key 13 (called (codes "A") 16 ∷ []) ∷ []))
      DuplicateName 13
  pub list_after_a_column : Least (table_of (codes "V")
      (k_column 4 (PrimaryKey (at 6) ∷ []) ∷ key 9 (called (codes "K") 12 ∷ []) ∷ [])) DuplicateName
      9
  pub column_after_a_list : Least (table_of (codes "V")
      (key 4 (called (codes "K") 7 ∷ []) ∷ k_column 10 (PrimaryKey (at 12) ∷ []) ∷ []))
      DuplicateName 12
  pub no_column : Least (table_of (codes "V") (a_column 4 ∷ key 7 (k_and_a 10 12) ∷ [])) UnknownName
      10
  pub column_twice : Least (table_of (codes "V")
      (a_column 4 ∷ key 7 (called (codes "A") 10 ∷ called (codes "A") 12 ∷ []) ∷ [])) DuplicateName
      12
  pub no_column_twice : All (table_of (codes "V")
      (a_column 4 ∷ key 7 (called (codes "B") 10 ∷ called (codes "B") 12 ∷ []) ∷ []))
      (fault DuplicateName 12 ∷ fault UnknownName 10 ∷ fault UnknownName 12 ∷ [])
  pub of_the_second_list : Least (table_of (codes "V")
      (k_column 4 (PrimaryKey (at 6) ∷ []) ∷ key 9 (called (codes "B") 12 ∷ []) ∷ [])) DuplicateName
      9
  pub no_column_of_a_later_key : All (table_of (codes "V")
      (k_column 4 (PrimaryKey (at 6) ∷ []) ∷ key 9 (called (codes "B") 12 ∷ []) ∷ []))
      (fault DuplicateName 9 ∷ fault UnknownName 12 ∷ [])
  pub of_later_columns : All (table_of (codes "V")
      (key 4 (k_and_a 7 9) ∷ a_column 12 ∷ k_column 15 [] ∷ [])) []

-- ---- DROP

-- the catalog with a function G that reads T and calls E
abbrev pub with_user : Catalog
with_user = catalog ++ record {
  name = codes "G";
  object =
      FunctionObject (record {
        parameters = [];
        returns = type.Integer;
        access = ReadsSqlData;
        height = 2;
        weight = 2;
        uses = codes "T" ∷ codes "E" ∷ [];
        routine = missing;
      });
} ∷ []

-- the least fault over another catalog
abbrev pub LeastOver : Stmt → Catalog → FaultKind → ℕ → Type 0
LeastOver s known kind token = least (judged_statement s known).faults ≡ Some (fault kind token)

-- what is dropped is of the sort that is written, and nothing uses it
pub record DropsOfEntries : Type 0 where
  pub nothing : Least (drop sort.Table (codes "V")) UnknownName 2
  pub table_as_function : Least (drop sort.Function (codes "T")) UnknownName 2
  pub function_as_table : Least (drop sort.Table (codes "F")) UnknownName 2
  pub function_as_procedure : Least (drop sort.Procedure (codes "F")) UnknownName 2
  pub table_in_use : LeastOver (drop sort.Table (codes "T")) with_user NotPermitted 2
  pub function_in_use : LeastOver (drop sort.Function (codes "E")) with_user NotPermitted 2
  pub sort_before_use : LeastOver (drop sort.Function (codes "T")) with_user UnknownName 2
  pub unused : All (drop sort.Table (codes "T")) []
  pub user : (judged_statement (drop sort.Function (codes "G")) with_user).faults ≡ []
  pub dropped : (judged_statement (drop sort.Function (codes "F")) catalog).value ≡ with_plans true
      (bound_as.Drop (codes "F"))

-- ---- statements that are bound alone

-- CREATE FUNCTION G (X INTEGER) RETURNS INTEGER characteristics body
abbrev pub g_of : List Characteristic → Stmt → Definition
g_of cs body = definition_of (codes "G") (new_parameter (codes "X") 4 (integer 5) ∷ [])
    (integer 8) cs body

-- CREATE FUNCTION G with characteristics and a body
abbrev pub function_g : List Characteristic → Stmt → Stmt
function_g cs body = stmt.CreateFunction (roll-CreateFunction (g_of cs body))

-- DETERMINISTIC
abbrev pub deterministic : Characteristic
deterministic = record { anchor = at 9; kind = Deterministic }

-- RETURN name
abbrev pub returning : List ℕ → Stmt
returning n = stmt.Return (at 10) (expr_of (name n 11))

-- CALL P ()
abbrev pub call_of : ℕ → Call
call_of token = record { anchor = at token; name = called (codes "P") (token + 1); arguments = [] }

-- BEGIN statements END, after a label or not
abbrev pub begin_end : List Stmt → Structure
begin_end statements = structure.Block (roll-Block
    (record { atomic = false; declarations = []; statements = statements }))

-- label: BEGIN statements END
abbrev pub block : Option Ident → ℕ → List Stmt → Stmt
block label token statements =
    stmt.Labelled
    (roll-Labelled (record {
      label = label;
      anchor = at token;
      structure = begin_end statements;
      end_label = None;
    }))

-- CREATE PROCEDURE P () body
abbrev pub procedure : Stmt → Stmt
procedure body = stmt.CreateProcedure (roll-CreateProcedure
    (record {
      anchor = at 0;
      name = called (codes "P") 2;
      parameters = [];
      characteristics = [];
      body = body;
    }))

-- EXPLAIN SELECT NULL FROM name
abbrev pub explained : List ℕ → Stmt
explained n = stmt.Explain (at 0) (unordered (select_of n (null 2 ∷ []) None))

-- whether plans answer a statement
abbrev pub IsPlanned : Stmt → Bool → Type 0
IsPlanned s by_plan = (judged_statement s catalog).value.by_plan ≡ by_plan

-- which statements plans answer, and which they don't
pub record FormsBoundAlone : Type 0 where
  pub planned_form : IsPlanned (function (codes "G") (new_parameter (codes "X") 4 (integer 5) ∷ [])
      (integer 8) (name (codes "X") 10)) true
  pub planned_form_is_valid : All (function (codes "G")
      (new_parameter (codes "X") 4 (integer 5) ∷ []) (integer 8) (name (codes "X") 10)) []
  pub self_call : IsPlanned (function (codes "G") (new_parameter (codes "X") 4 (integer 5) ∷ [])
      (integer 8) (call (codes "G") 10 (name (codes "X") 12 ∷ []))) false
  pub body_that_is_a_block : IsPlanned (function_g [] (block None 9 (returning (codes "X") ∷ []))) false
  pub with_a_characteristic : IsPlanned (function_g (deterministic ∷ []) (returning (codes "X"))) false
  pub of_a_procedure : IsPlanned (procedure (delete (codes "T") None)) false
  pub of_call : IsPlanned (stmt.Call (call_of 0)) false
  pub of_a_block : IsPlanned (block (Some (called (codes "L") 0)) 2 (delete (codes "T") None ∷ []))
      false
  pub of_explain : IsPlanned (explained (codes "T")) false
  pub explain_without_faults : (judged_statement (explained (codes "T")) catalog).faults ≡ []
  pub unknown_table_in_explain : Only (explained (codes "U")) UnknownName 90
  pub unknown_procedure : Only (stmt.Call (call_of 0)) UnknownName 1
  -- the anchor of a statement: its first token, after a label
  pub at_create : anchor_of (function_g [] (block None 9 [])) ≡ at 0
  pub at_create_procedure : anchor_of (procedure (delete (codes "T") None)) ≡ at 0
  pub at_call : anchor_of (stmt.Call (call_of 0)) ≡ at 0
  pub at_explain : anchor_of (explained (codes "T")) ≡ at 0
  pub at_begin : anchor_of (block None 0 []) ≡ at 0
  pub at_begin_after_a_label : anchor_of (block (Some (called (codes "L") 0)) 2 []) ≡ at 2

-- ---- functions whose body is RETURN

-- CREATE FUNCTION G (X INTEGER, Y INTEGER) RETURNS INTEGER with a characteristic, RETURN result
abbrev pub g_with : CharacteristicKind → Expr → Stmt
g_with what result = stmt.CreateFunction (roll-CreateFunction
    (definition_returning (codes "G")
    (new_parameter (codes "X") 3 (integer 4) ∷ new_parameter (codes "Y") 5 (integer 6) ∷ [])
    (integer 7) (record { anchor = at 8; kind = what } ∷ []) result))

-- the value of a new function that has a plan
abbrev pub planned_value : Bound → Option BoundExpr
planned_value (bound_as.Create n (new.Function r)) = Some r.body
planned_value _ = None

-- what such a function returns, or that it has no plan
abbrev pub Plans : Stmt → Option BoundExpr → Type 0
Plans s value = planned_value (judged_statement s catalog).value.bound ≡ value

-- x IS NULL
abbrev pub is_null : ℕ → BoundExpr
is_null slot = bound.Operation NullTest (bound.Variable slot ∷ [])

-- which functions whose body is RETURN have plans, and of what
pub record FunctionsHavePlans : Type 0 where
  pub without_a_characteristic : Plans (function (codes "G")
      (new_parameter (codes "X") 3 (integer 4) ∷ []) (integer 7) (name (codes "X") 10))
      (Some (bound.Variable 0))
  pub language : Plans (g_with marked.LanguageSql (name (codes "X") 10))
      (Some (bound.Variable 0))
  pub deterministic : Plans (g_with marked.Deterministic (name (codes "X") 10))
      (Some (bound.Variable 0))
  pub data_access : Plans (g_with marked.ModifiesSqlData (name (codes "X") 10))
      (Some (bound.Variable 0))
  pub called_on_null : Plans (g_with marked.CalledOnNullInput (name (codes "X") 10))
      (Some (bound.Variable 0))
  -- CASE WHEN X IS NULL OR Y IS NULL THEN NULL ELSE X END
  pub null_on_null : Plans (g_with marked.ReturnsNullOnNullInput (name (codes "X") 10))
      (Some (bound.Operation word_of.Case
      (bound.Operation word_of.Or (is_null 0 ∷ is_null 1 ∷ []) ∷ bound.Literal Null
      ∷ bound.Variable 0 ∷ [])))
  pub self_call : Plans (g_with marked.Deterministic
      (call (codes "G") 10 (name (codes "X") 12 ∷ name (codes "Y") 14 ∷ []))) None

-- ---- writing

-- lists of columns, assignments and WHERE: each fault at its place
pub record FaultsOfWriting : Type 0 where
  pub listed_twice : Least (insert_listed (codes "T")
      (called (codes "K") 4 ∷ called (codes "K") 6 ∷ []) (null 12 ∷ null 14 ∷ [])) DuplicateName 6
  pub unknown_in_the_list : Least (insert_listed (codes "T")
      (called (codes "A") 4 ∷ called (codes "B") 6 ∷ []) (null 12 ∷ null 14 ∷ [])) UnknownName 6
  pub unknown_twice : All (insert_listed (codes "T")
      (called (codes "B") 4 ∷ called (codes "B") 6 ∷ []) (null 12 ∷ null 14 ∷ []))
      (fault DuplicateName 6 ∷ fault UnknownName 4 ∷ fault UnknownName 6 ∷ [])
  pub listed_twice_of_no_table : All (insert_listed (codes "U")
      (called (codes "B") 4 ∷ called (codes "B") 6 ∷ []) (null 12 ∷ null 14 ∷ []))
      (fault UnknownName 2 ∷ fault DuplicateName 6 ∷ [])
  pub more_than_listed : Least (insert_listed (codes "T") (called (codes "A") 4 ∷ [])
      (null 12 ∷ null 14 ∷ [])) WrongCount 10
  pub fewer_than_listed : Least (insert_listed (codes "T")
      (called (codes "A") 4 ∷ called (codes "K") 6 ∷ []) (null 12 ∷ [])) WrongCount 10
  pub width_for_no_table : All (insert_listed (codes "U") (called (codes "A") 4 ∷ [])
      (null 12 ∷ null 14 ∷ [])) (fault UnknownName 2 ∷ fault WrongCount 10 ∷ [])
  pub kind_by_the_list : Least (insert_listed (codes "S")
      (called (codes "B") 4 ∷ called (codes "A") 6 ∷ []) (text 12 ∷ text 14 ∷ [])) TypeMismatch 14
  pub any_kind_for_no_column : All (insert_listed (codes "T") (called (codes "B") 4 ∷ [])
      (text 12 ∷ [])) (fault UnknownName 4 ∷ [])
  pub no_table_to_update : Only (update (codes "U")
      ((called (codes "B") 3, name (codes "C") 5) ∷ []) (Some (name (codes "D") 7))) UnknownName 1
  pub assigned_twice : Least (update (codes "T")
      ((called (codes "A") 3, null 5) ∷ (called (codes "A") 7, null 9) ∷ []) None) DuplicateName 7
  pub unknown_assigned_twice : All (update (codes "T")
      ((called (codes "B") 3, null 5) ∷ (called (codes "B") 7, null 9) ∷ []) None)
      (fault DuplicateName 7 ∷ fault UnknownName 3 ∷ fault UnknownName 7 ∷ [])
  pub unknown_assigned : Least (update (codes "T") ((called (codes "B") 3, null 5) ∷ []) None)
      UnknownName 3
  pub kind_of_the_column : Least (update (codes "S")
      ((called (codes "B") 3, text 5) ∷ (called (codes "A") 7, text 9) ∷ []) None) TypeMismatch 9
  pub one_fault_in_a_value : Only (update (codes "T")
      ((called (codes "A") 3, chain (text 5) (Value Add) 6 (number 7)) ∷ []) None) TypeMismatch 5
  pub unknown_in_a_value : Least (update (codes "T")
      ((called (codes "A") 3, name (codes "B") 5) ∷ []) None) UnknownName 5
  pub aggregate_in_a_value : Least (update (codes "T")
      ((called (codes "A") 3, aggregate Max 5 (name (codes "A") 7)) ∷ []) None) NotPermitted 5
  pub test_of_update : Least (update (codes "T") ((called (codes "A") 3, null 5) ∷ [])
      (Some (number 7))) TypeMismatch 7
  pub aggregate_in_where : Least (delete (codes "T")
      (Some (equal (aggregate Max 4 (name (codes "A") 6)) 8 (number 9)))) NotPermitted 4
  pub under_its_name : All (update (codes "T")
      ((called (codes "A") 3, qualified (codes "T") 5 (codes "K")) ∷ [])
      (Some (equal (qualified (codes "T") 9 (codes "A")) 12 (number 13)))) []
  pub under_another_name : Least (update (codes "T")
      ((called (codes "A") 3, qualified (codes "S") 5 (codes "A")) ∷ []) None) UnknownName 5
  pub no_table_to_delete : Only (delete (codes "U") (Some (name (codes "D") 4))) UnknownName 2
  pub function_to_delete : Least (delete (codes "F") None) UnknownName 2
  pub test_of_delete : Least (delete (codes "T") (Some (text 4))) TypeMismatch 4
  pub unknown_in_where : Least (delete (codes "T") (Some (equal (name (codes "B") 4) 5 (null 6))))
      UnknownName 4

-- ---- kinds

-- what is asked of kinds: each fault at its place
pub record KindsFit : Type 0 where
  pub addend : Least (select (codes "T") (chain (number 1) (Value Add) 2 (text 3) ∷ []) None)
      TypeMismatch 3
  pub dividend : Least (select (codes "T") (chain (text 1) (Value Divide) 2 (number 3) ∷ []) None)
      TypeMismatch 1
  pub bars : Least (select (codes "T") (chain (number 1) (Value Concatenate) 2 (text 3) ∷ []) None)
      TypeMismatch 1
  pub sign : Least (select (codes "T") (word Minus 1 (text 2 ∷ []) ∷ []) None) TypeMismatch 2
  pub plus_sign : Least (select (codes "T") (word Plus 1 (truth 2 ∷ []) ∷ []) None) TypeMismatch 2
  pub modulo : Least (select (codes "T") (word Modulo 1 (number 3 ∷ text 5 ∷ []) ∷ []) None)
      TypeMismatch 5
  pub char_length : Least (select (codes "T") (word CharLength 1 (number 3 ∷ []) ∷ []) None)
      TypeMismatch 3
  pub substring_text : Least (select (codes "T") (word Substring 1 (number 3 ∷ number 5 ∷ []) ∷ [])
      None) TypeMismatch 3
  pub substring_place : Least (select (codes "T") (word Substring 1 (text 3 ∷ text 5 ∷ []) ∷ [])
      None) TypeMismatch 5
  pub substring_length : Least (select (codes "T")
      (word Substring 1 (text 3 ∷ number 5 ∷ truth 7 ∷ []) ∷ []) None) TypeMismatch 7
  pub and_operand : Least (select (codes "T") (chain (truth 1) (And) 2 (number 3) ∷ []) None)
      TypeMismatch 3
  pub or_operand : Least (select (codes "T") (chain (number 1) (Or) 2 (truth 3) ∷ []) None)
      TypeMismatch 1
  pub not_operand : Least (select (codes "T") (word Not 1 (text 2 ∷ []) ∷ []) None) TypeMismatch 2
  pub is_true : Least (select (codes "T") (word (Is test.True) 2 (number 1 ∷ []) ∷ []) None)
      TypeMismatch 1
  pub is_not_unknown : Least (select (codes "T") (word (IsNot test.Unknown) 2 (text 1 ∷ []) ∷ [])
      None) TypeMismatch 1
  pub where_test : Least (select (codes "T") (null 1 ∷ []) (Some (number 92))) TypeMismatch 92
  pub when_test : Least (select (codes "T") (word Case 1 (number 3 ∷ number 5 ∷ []) ∷ []) None)
      TypeMismatch 3
  pub cast_to_truth : Least (select (codes "T") (word (Cast (boolean 5)) 1 (number 3 ∷ []) ∷ [])
      None) TypeMismatch 3
  pub cast_to_number : Least (select (codes "T") (word (Cast (integer 5)) 1 (truth 3 ∷ []) ∷ [])
      None) TypeMismatch 3
  pub comparison : Least (select (codes "T") (word (Compare Equals) 2 (number 1 ∷ text 3 ∷ []) ∷ [])
      None) TypeMismatch 3
  pub comparison_with_a_chain : Least (select (codes "T")
      (word (Compare Equals) 2 (text 1 ∷ chain (number 3) (Value Add) 4 (number 5) ∷ []) ∷ []) None)
      TypeMismatch 4
  pub in_item : Least (select (codes "T") (word In 2 (number 1 ∷ null 4 ∷ number 6 ∷ text 8 ∷ []) ∷
      []) None) TypeMismatch 8
  pub not_in_item : Least (select (codes "T") (word NotIn 3 (text 1 ∷ number 5 ∷ []) ∷ []) None)
      TypeMismatch 5
  pub when_of_an_operand : Least (select (codes "T")
      (word CaseOf 1 (number 2 ∷ text 4 ∷ number 6 ∷ []) ∷ []) None) TypeMismatch 4
  pub then_result : Least (select (codes "T")
      (word Case 1 (truth 3 ∷ number 5 ∷ truth 7 ∷ text 9 ∷ []) ∷ []) None) TypeMismatch 9
  pub else_result : Least (select (codes "T")
      (word CaseOf 1 (number 2 ∷ number 4 ∷ text 6 ∷ truth 8 ∷ []) ∷ []) None) TypeMismatch 8
  pub coalesce : Least (select (codes "T") (word Coalesce 1 (null 3 ∷ number 5 ∷ text 7 ∷ []) ∷ [])
      None) TypeMismatch 7
  pub column_of_values : Least (values ((null 5 ∷ []) ∷ (text 9 ∷ []) ∷ (number 13 ∷ []) ∷ []))
      TypeMismatch 13
  pub stored_value : Least (insert (codes "T") ((number 5 ∷ text 7 ∷ []) ∷ [])) TypeMismatch 7
  pub stored_in_a_later_row : Least (insert (codes "T")
      ((null 5 ∷ null 7 ∷ []) ∷ (number 11 ∷ truth 13 ∷ []) ∷ [])) TypeMismatch 13
  pub argument : Least (select (codes "T") (call (codes "F") 1 (text 3 ∷ []) ∷ []) None)
      TypeMismatch 3
  pub returned : Least (function (codes "G") [] (integer 8) (text 10)) TypeMismatch 10
  pub parameter_as_an_operand : Least (function (codes "G")
      (new_parameter (codes "X") 4 (boolean 5) ∷ []) (integer 8)
      (word Minus 10 (name (codes "X") 11 ∷ []))) TypeMismatch 11
  pub column_as_an_operand : Least (select (codes "T") (word Not 1 (name (codes "A") 2 ∷ []) ∷ [])
      None) TypeMismatch 2
  pub length_of_nothing : Least (select (codes "T")
      (word (Cast (varchar 5 7 0)) 1 (null 3 ∷ []) ∷ []) None) NotPermitted 7
  pub length_over_the_limit : Least (select (codes "T")
      (word (Cast (varchar 5 7 4097)) 1 (null 3 ∷ []) ∷ []) None) NotPermitted 7
  pub length_of_a_parameter : Least (function (codes "G")
      (new_parameter (codes "X") 4 (varchar 5 7 4097) ∷ []) (integer 9) (null 11)) NotPermitted 7
  pub length_of_a_result : Least (function (codes "G") [] (varchar 7 9 0) (null 12)) NotPermitted 9
  pub one_fault_in_a_chain : Only (select (codes "T")
      (chain (chain (chain (text 1) (Value Add) 2 (number 3)) (Value Add) 4 (number 5))
      (Value Concatenate) 6 (text 7) ∷ []) None) TypeMismatch 1
  pub one_fault_after_an_unknown_name : Only (select (codes "T")
      (word Not 1 (word Minus 2 (name (codes "B") 3 ∷ []) ∷ []) ∷ []) None) UnknownName 3
  pub one_fault_in_a_row : Only (insert (codes "T")
      ((chain (text 5) (Value Add) 6 (number 7) ∷ number 9 ∷ []) ∷ [])) TypeMismatch 5
  pub null_fits :
      (judged_statement (select (codes "T") (chain (null 1) (Value Concatenate) 2 (text 3) ∷
      word (Compare Equals) 5 (null 4 ∷ truth 6 ∷ []) ∷ []) (Some (null 92))) catalog).faults ≡ []
  pub is_null_of_any :
      (judged_statement (select (codes "T") (word (Is test.Null) 2 (text 1 ∷ []) ∷
      word (IsNot test.Null) 5 (number 4 ∷ []) ∷ []) None) catalog).faults ≡ []
  pub casts_by_text :
      (judged_statement (select (codes "T") (word (Cast (boolean 5)) 1 (text 3 ∷ []) ∷
      word (Cast (varchar 9 11 4096)) 7 (truth 8 ∷ []) ∷ []) None) catalog).faults ≡ []

-- ---- what is bound

-- SELECT A, E(K), K IS NOT NULL, + A FROM T: a call is bound by the name that is written, though F
-- has an equal tree
abbrev pub selected : Stmt
selected = select (codes "T") (name (codes "A") 1 ∷ call (codes "E") 3 (name (codes "K") 5 ∷ []) ∷
    word (IsNot test.Null) 8 (name (codes "K") 7 ∷ []) ∷ word Plus 11 (name (codes "A") 12 ∷ []) ∷
    []) None

-- the items of the bound query
abbrev pub bound_items : List BoundExpr
bound_items =
    bound.Column 0 1 ∷ bound.Call (codes "E") (bound.Column 0 0 ∷ []) ∷ bound.Operation Opposite
    (bound.Operation NullTest (bound.Column 0 0 ∷ []) ∷ []) ∷ bound.Column 0 1 ∷ []

-- the bound query
abbrev pub bound_query : BoundQuery
bound_query =
    query.Select
    (roll-BoundSelect (record {
      items = bound_items;
      from =
          from.Comma (source.Table (codes "T")) ∷ [];
      conjuncts = [];
      grouping = None;
    }))

-- a column is bound by its place, a call by its name
pub record BindsByPlaceAndName : Type 0 where
  pub whole : (judged_statement selected catalog).value ≡ with_plans true
      (bound_as.Query bound_query)

-- ---- what is written, met and made

-- all columns of a row of T or S, and then values
abbrev pub met : List ℕ → List BoundExpr → List BoundExpr → BoundQuery
met n values conjuncts = query.Select (roll-BoundSelect
    (record {
      items = bound.Column 0 0 ∷ bound.Column 0 1 ∷ values;
      from =
          from.Comma (source.Table n) ∷ [];
      conjuncts = conjuncts;
      grouping = None;
    }))

-- K = 7
abbrev pub k_is_seven : BoundExpr
k_is_seven = bound.Operation (Comparing Equals)
    (bound.Column 0 0 ∷ bound.Literal (Int (pos 7)) ∷ [])

-- A IS NULL
abbrev pub a_is_null : BoundExpr
a_is_null = bound.Operation NullTest (bound.Column 0 1 ∷ [])

-- what INSERT, UPDATE, DELETE and CREATE TABLE are bound to
pub record BindsWriting : Type 0 where
  -- INSERT INTO T (A, K) VALUES (NULL, 7)
  pub by_the_list :
      (judged_statement (insert_listed (codes "T")
      (called (codes "A") 4 ∷ called (codes "K") 6 ∷ []) (null 12 ∷ number 14 ∷ [])) catalog).value
      ≡ with_plans true
      (bound_as.Insert (record {
        table = codes "T";
        source =
            query.Values (row.Row (bound.Literal Null ∷ bound.Literal (Int (pos 7)) ∷ []) ∷ []);
      })
      (Some (1 ∷ 0 ∷ [])))
  pub without_a_list : (judged_statement (insert (codes "T") ((null 5 ∷ null 7 ∷ []) ∷ []))
      catalog).value
      ≡ with_plans true
      (bound_as.Insert (record {
        table = codes "T";
        source =
            query.Values (row.Row (bound.Literal Null ∷ bound.Literal Null ∷ []) ∷ []);
      }) None)
  -- UPDATE S SET B = NULL, A = A
  pub in_another_order :
      (judged_statement (update (codes "S") ((called (codes "B") 3, null 5) ∷
      (called (codes "A") 7, name (codes "A") 9) ∷ []) None) catalog).value
      ≡ with_plans true (bound_as.Update (record {
        table = codes "S";
        targets = 1 ∷ 0 ∷ [];
        rows =
            met (codes "S") (bound.Literal Null ∷ bound.Column 0 0 ∷ []) [];
      }))
  -- DELETE FROM T WHERE K = 7 AND A IS NULL
  pub by_conjuncts :
      (judged_statement
      (delete (codes "T") (Some (chain (equal (name (codes "K") 4) 5 (number 6)) And 7
      (word (Is test.Null) 9 (name (codes "A") 8 ∷ []))))) catalog).value
      ≡ with_plans true
      (bound_as.Delete (record {
        table = codes "T";
        rows =
            met (codes "T") []
            (conjuncts_of (bound.Operation word_of.And (k_is_seven ∷ a_is_null ∷ [])));
      }))
  pub without_a_test : (judged_statement (delete (codes "T") None) catalog).value ≡ with_plans true
      (bound_as.Delete (record { table = codes "T"; rows = met (codes "T") [] [] }))
  -- the columns of a key in the order in which it lists them
  pub key_of_two_columns :
      (judged_statement (table_of (codes "V")
      (a_column 4 ∷ key 7 (k_and_a 10 12) ∷ k_column 15 (NotNull ∷ []) ∷ [])) catalog).value
      ≡ with_plans true (bound_as.Create (codes "V")
      (new.Table (record {
        columns = column (codes "A") type.Integer ∷
            record { name = codes "K"; data_type = type.Integer; not_null = true } ∷ [];
        key =
            1 ∷ 0 ∷ [];
      })))
  pub key_of_a_column :
      (judged_statement (table_of (codes "V")
      (a_column 4 ∷ k_column 7 (PrimaryKey (at 9) ∷ []) ∷ [])) catalog).value
      ≡ with_plans true (bound_as.Create (codes "V")
      (new.Table (record {
        columns = column (codes "A") type.Integer ∷ column
            (codes "K") type.Integer ∷ [];
        key = 1 ∷ [];
      })))
