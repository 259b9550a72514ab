-- Definitions: ISO/IEC 9075-2, 11.3, 11.4 and 11.7 (CREATE TABLE, its columns and its key), 11.31
-- and 11.62 (DROP), and 11.60 (CREATE FUNCTION and CREATE PROCEDURE).
use Rattle.std.specs.Prelude.{List, [], ◌∷◌, Option, Some, None}
use Rattle.sql_lex.specs.declared.token.TokenKind.TheVariants as kind
use Rattle.sql_lex.specs.declared.word.Word.TheVariants as w
use Rattle.sql_lex.specs.declared.sign.Sign.TheVariants as s
use Rattle.syntax_trees.specs.declared.anchor.Anchor.{Anchor}
use Rattle.syntax_trees.specs.declared.anchor.Ident.{Ident}
use Rattle.syntax_trees.specs.declared.data_type.DataType.{DataType}
use Rattle.statement_trees.specs.declared.definition.Characteristic.{Characteristic}
use Rattle.statement_trees.specs.declared.definition.CharacteristicKind.{CharacteristicKind}
use Rattle.statement_trees.specs.declared.definition.CharacteristicKind.TheVariants as characteristic_of
use Rattle.statement_trees.specs.declared.definition.Column.{Column}
use Rattle.statement_trees.specs.declared.definition.Constraint.{Constraint}
use Rattle.statement_trees.specs.declared.definition.Constraint.TheVariants as constraint
use Rattle.statement_trees.specs.declared.definition.DropObject.{DropObject}
use Rattle.statement_trees.specs.declared.definition.ObjectSort.{ObjectSort}
use Rattle.statement_trees.specs.declared.definition.ObjectSort.TheVariants as sort
use Rattle.statement_trees.specs.declared.definition.Parameter.{Parameter}
use Rattle.statement_trees.specs.declared.definition.ParameterMode.{ParameterMode}
use Rattle.statement_trees.specs.declared.definition.ParameterMode.TheVariants as mode_of
use Rattle.statement_trees.specs.declared.definition.TableElement.{TableElement}
use Rattle.statement_trees.specs.declared.definition.TableElement.TheVariants as element_of
use Rattle.statement_trees.specs.declared.statement.CreateFunction.{roll-CreateFunction}
use Rattle.statement_trees.specs.declared.statement.CreateProcedure.{roll-CreateProcedure}
use Rattle.statement_trees.specs.declared.statement.Stmt.{Stmt}
use Rattle.statement_trees.specs.declared.statement.Stmt.TheVariants as stmt_of
use Rattle.grammar_algebra.specs.Grammar.{optional, many}
use Rattle.grammar_algebra.specs.Notation.{word, sign, ◌~◌, ◌~>◌, ◌<~◌, ◌or◌, ◌=>◌}
use Rattle.grammar_sql.specs.Trees.{G, anchor_of, if_any, choice, bracketed, ident, data_type}
use Rattle.grammar_sql.specs.Trees.{Elements, Parameters, ModalParameters, Names}
use Rattle.grammar_sql.specs.Statements.{stmt}

-- ---- CREATE TABLE

-- NOT NULL
unfoldable pub not_null : G Constraint
not_null = (λ t. constraint.NotNull) => word w.Not ~> word w.Null

-- PRIMARY KEY
unfoldable pub key_words : G Anchor
key_words = anchor_of => word w.Primary <~ word w.Key

-- <unique specification> of one column: PRIMARY KEY
unfoldable pub primary_key : G Constraint
primary_key = constraint.PrimaryKey => key_words

-- <column constraint> := NOT NULL | PRIMARY KEY
unfoldable pub column_constraint : G Constraint
column_constraint = not_null or primary_key

-- {<column constraint>}
unfoldable pub constraints : G (List Constraint)
constraints = many column_constraint

-- the tree of <column definition>
abbrev pub column_of : Ident × (DataType × List Constraint) → Column
column_of p = record { name = p.0; data_type = p.1.0; constraints = p.1.1 }

-- <column definition> := <column name> <data type> {<column constraint>}
unfoldable pub column : G Column
column = column_of => ident ~ data_type ~ constraints

-- <column definition> as an element of a table
unfoldable pub table_column : G TableElement
table_column = element_of.Column => column

-- PRIMARY KEY '(' name {',' name} ')'
unfoldable pub table_key : G TableElement
table_key = (λ p. element_of.PrimaryKey p.0 p.1) => key_words ~ bracketed Names

-- element := name type {NOT NULL | PRIMARY KEY} | PRIMARY KEY '(' name {',' name} ')'
unfoldable pub element : G TableElement
element = table_column or table_key

-- {',' <table element>}
unfoldable pub more_elements : G (List TableElement)
more_elements = many (sign s.Comma ~> element)

-- <table element list> without its brackets: <table element> {',' <table element>}
unfoldable pub elements : G (List TableElement)
elements = (λ p. p.0 ∷ p.1) => element ~ more_elements

-- <table definition> after CREATE TABLE: <table name> '(' <table element list> ')'
unfoldable pub table_definition : G (Ident × List TableElement)
table_definition = ident ~ bracketed Elements

-- TABLE name '(' element {',' element} ')'
unfoldable pub create_table : G (Ident × List TableElement)
create_table = word w.Table ~> table_definition

-- the tree of <table definition>, with the place of CREATE for its anchor
abbrev pub table_of : Ident × List TableElement → Anchor → Stmt
table_of p anchor = stmt_of.CreateTable (record { anchor = anchor; name = p.0; elements = p.1 })

-- ---- routines

-- name type
unfoldable pub parameter : G Parameter
parameter = (λ p. record { mode = mode_of.In; name = p.0; data_type = p.1 }) => ident ~ data_type

-- {',' <SQL parameter declaration>} of a function
unfoldable pub more_parameters : G (List Parameter)
more_parameters = many (sign s.Comma ~> parameter)

-- <SQL parameter declaration> {',' <SQL parameter declaration>} of a function
unfoldable pub parameters : G (List Parameter)
parameters = (λ p. p.0 ∷ p.1) => parameter ~ more_parameters

-- <SQL parameter declaration list> of a function without its brackets: there may be none
unfoldable pub if_parameters : G (List Parameter)
if_parameters = if_any => optional parameters

-- IN | OUT | INOUT
unfoldable pub written_mode : G (ParameterMode × Anchor)
written_mode = choice (kind.Word w.In, mode_of.In)
    ((kind.Word w.Out, mode_of.Out) ∷ (kind.Word w.Inout, mode_of.Inout) ∷ [])

-- A parameter without a mode is IN.
abbrev pub mode_or_in : Option (ParameterMode × Anchor) → ParameterMode
mode_or_in None = mode_of.In
mode_or_in (Some p) = p.0

-- [<parameter mode>]
unfoldable pub mode : G ParameterMode
mode = mode_or_in => optional written_mode

-- param := [IN | OUT | INOUT] name type
unfoldable pub modal_parameter : G Parameter
modal_parameter = (λ p. record { mode = p.0; name = p.1.0; data_type = p.1.1 }) => mode ~ ident ~
    data_type

-- {',' <SQL parameter declaration>} of a procedure
unfoldable pub more_modal_parameters : G (List Parameter)
more_modal_parameters = many (sign s.Comma ~> modal_parameter)

-- <SQL parameter declaration> {',' <SQL parameter declaration>} of a procedure
unfoldable pub modal_parameters : G (List Parameter)
modal_parameters = (λ p. p.0 ∷ p.1) => modal_parameter ~ more_modal_parameters

-- <SQL parameter declaration list> of a procedure without its brackets: there may be none
unfoldable pub if_modal_parameters : G (List Parameter)
if_modal_parameters = if_any => optional modal_parameters

-- a characteristic by its first word
abbrev pub characteristic_as : CharacteristicKind → Anchor → Characteristic
characteristic_as k anchor = record { anchor = anchor; kind = k }

-- LANGUAGE SQL
unfoldable pub language : G Characteristic
language = (λ t. characteristic_as characteristic_of.LanguageSql (anchor_of t)) => word w.Language
    <~ word w.Sql

-- DETERMINISTIC
unfoldable pub deterministic : G Characteristic
deterministic = (λ t. characteristic_as characteristic_of.Deterministic (anchor_of t)) => word
    w.Deterministic

-- NOT DETERMINISTIC
unfoldable pub not_deterministic : G Characteristic
not_deterministic = (λ t. characteristic_as characteristic_of.NotDeterministic (anchor_of t)) =>
    word w.Not <~ word w.Deterministic

-- CONTAINS SQL
unfoldable pub contains_sql : G Characteristic
contains_sql = (λ t. characteristic_as characteristic_of.ContainsSql (anchor_of t)) => word
    w.Contains <~ word w.Sql

-- READS | MODIFIES
unfoldable pub data_access : G (CharacteristicKind × Anchor)
data_access = choice (kind.Word w.Reads, characteristic_of.ReadsSqlData)
    ((kind.Word w.Modifies, characteristic_of.ModifiesSqlData) ∷ [])

-- READS SQL DATA | MODIFIES SQL DATA
unfoldable pub data_characteristic : G Characteristic
data_characteristic = (λ p. characteristic_as p.0 p.1) => data_access <~ word w.Sql <~ word w.Data

-- RETURNS NULL | CALLED
unfoldable pub null_call : G (CharacteristicKind × Anchor)
null_call =
    (λ t. (characteristic_of.ReturnsNullOnNullInput, anchor_of t)) => word w.Returns <~ word w.Null
    or (λ t. (characteristic_of.CalledOnNullInput, anchor_of t)) => word w.Called

-- RETURNS NULL ON NULL INPUT | CALLED ON NULL INPUT
unfoldable pub null_characteristic : G Characteristic
null_characteristic = (λ p. characteristic_as p.0 p.1) => null_call <~ word w.On <~ word w.Null <~
    word w.Input

-- trait := LANGUAGE SQL | [NOT] DETERMINISTIC | CONTAINS SQL | READS SQL DATA | MODIFIES SQL DATA
--   | RETURNS NULL ON NULL INPUT | CALLED ON NULL INPUT
unfoldable pub characteristic : G Characteristic
characteristic = language or deterministic or not_deterministic or contains_sql or
    data_characteristic or null_characteristic

-- {<routine characteristic>}
unfoldable pub characteristics : G (List Characteristic)
characteristics = many characteristic

-- <returns clause> := RETURNS <data type>
unfoldable pub returns_type : G DataType
returns_type = word w.Returns ~> data_type

-- what a function is made of: its name, its parameters, its type, its characteristics and its body
abbrev pub FunctionParts : Type 0
FunctionParts = Ident × (List Parameter × (DataType × (List Characteristic × Stmt)))

-- <SQL-invoked function> after CREATE FUNCTION: <schema qualified routine name> '(' [<SQL parameter
-- declaration> ..] ')' <returns clause> {<routine characteristic>} <routine body>
unfoldable pub function_definition : G FunctionParts
function_definition = ident ~ bracketed Parameters ~ returns_type ~ characteristics ~ stmt

-- FUNCTION name '(' [name type {',' name type}] ')' RETURNS type {trait} stmt
unfoldable pub create_function : G FunctionParts
create_function = word w.Function ~> function_definition

-- the tree of a function's definition, with the place of CREATE for its anchor
abbrev pub function_of : FunctionParts → Anchor → Stmt
function_of p anchor = stmt_of.CreateFunction (roll-CreateFunction (record {
  anchor = anchor;
  name = p.0;
  parameters = p.1.0;
  returns = p.1.1.0;
  characteristics = p.1.1.1.0;
  body = p.1.1.1.1;
}))

-- the same of a procedure, which has no type
abbrev pub ProcedureParts : Type 0
ProcedureParts = Ident × (List Parameter × (List Characteristic × Stmt))

-- <SQL-invoked procedure> after CREATE PROCEDURE: <schema qualified routine name> '(' [<SQL
-- parameter declaration> ..] ')' {<routine characteristic>} <routine body>
unfoldable pub procedure_definition : G ProcedureParts
procedure_definition = ident ~ bracketed ModalParameters ~ characteristics ~ stmt

-- PROCEDURE name '(' [param {',' param}] ')' {trait} stmt
unfoldable pub create_procedure : G ProcedureParts
create_procedure = word w.Procedure ~> procedure_definition

-- the tree of a procedure's definition, with the place of CREATE for its anchor
abbrev pub procedure_of : ProcedureParts → Anchor → Stmt
procedure_of p anchor = stmt_of.CreateProcedure (roll-CreateProcedure (record {
  anchor = anchor;
  name = p.0;
  parameters = p.1.0;
  characteristics = p.1.1.0;
  body = p.1.1.1;
}))

-- ---- CREATE

-- CREATE, whose place is the statement's anchor
unfoldable pub create_word : G Anchor
create_word = anchor_of => word w.Create

-- what stands after CREATE
unfoldable pub created : G (Anchor → Stmt)
created = table_of => create_table or function_of => create_function or procedure_of =>
    create_procedure

-- CREATE, and what it makes
unfoldable pub create : G Stmt
create = (λ p. p.1 p.0) => create_word ~ created

-- ---- DROP

-- TABLE | FUNCTION | PROCEDURE
unfoldable pub object_sort : G ObjectSort
object_sort = (λ t. sort.Table) => word w.Table or (λ t. sort.Function) => word w.Function or
    (λ t. sort.Procedure) => word w.Procedure

-- name [RESTRICT]
unfoldable pub dropped_name : G Ident
dropped_name = ident <~ optional (word w.Restrict)

-- DROP, whose place is the statement's anchor
unfoldable pub drop_word : G Anchor
drop_word = anchor_of => word w.Drop

-- the tree of <drop table statement> or <drop routine statement>
abbrev pub dropped : Anchor × (ObjectSort × Ident) → DropObject
dropped p = record { anchor = p.0; sort = p.1.0; name = p.1.1 }

-- DROP (TABLE | FUNCTION | PROCEDURE) name [RESTRICT]
unfoldable pub drop_object : G DropObject
drop_object = dropped => drop_word ~ object_sort ~ dropped_name

-- ---- each of them

-- <SQL schema statement>: CREATE TABLE, CREATE FUNCTION, CREATE PROCEDURE or DROP
unfoldable pub ddl : G Stmt
ddl = create or stmt_of.Drop => drop_object
