-- Short words for trees and worlds in worked rows.
use Rattle.std.specs.Prelude.{ℕ, Bool, true, false, pos, List, [], ◌∷◌, codes, None}
use Rattle.sql_values.specs.declared.value.Value.{Value}
use Rattle.sql_values.specs.declared.value.Value.TheVariants.{Null, Int, Str, Bool as Truth}
use Rattle.sql_values.specs.declared.value.SqlType.{SqlType}
use Rattle.sql_values.specs.declared.value.SqlType.TheVariants.{Integer, Varchar, Boolean}
use Rattle.sql_values.specs.declared.operators.Operator.{Operator}
use Rattle.sql_values.specs.declared.operators.Operator.TheVariants.{Add, Subtract, Multiply}
use Rattle.sql_values.specs.declared.operators.Operator.TheVariants.{Divide}
use Rattle.sql_values.specs.declared.operators.Comparison.{Comparison}
use Rattle.sql_conditions.specs.Conditions.{Area}
use Rattle.row_types.specs.declared.ColumnType.{ColumnType}
use Rattle.row_types.specs.Rows.{Row}
use Rattle.row_types.specs.Tables.{Stored, Tables}
use Rattle.rel_algebra.specs.Tree.{Comparing, Expr, Literal, Variable, Chain, Operate, NoLink}
use Rattle.rel_algebra.specs.Tree.{MoreLinks, Exprs, NoExpr, MoreExprs, With, Routine, Function}
use Rattle.rel_algebra.specs.Tree.{Parameter, Mode, Query, Select, Values, Table, NoRow, MoreRows}
use Rattle.rel_algebra.specs.Tree.{Target, Stmt, Compound, Set, Stmts, NoStmt, MoreStmts, Insert}
use Rattle.rel_algebra.specs.Tree.{Delete, NoBranch, MoreBranches, If, Variables, NoVariable}
use Rattle.rel_algebra.specs.Tree.{MoreVariables, Handlers, NoHandler, MoreHandlers, HandlerType}
use Rattle.rel_algebra.specs.Tree.{ConditionValue}
use Rattle.rel_algebra.specs.States.{one_condition}
use Rattle.rel_algebra.specs.World.{World, Ends}
use Rattle.rel_algebra.specs.Doing.{Outcome, End}
use Rattle.rel_algebra.specs.Meaning.{call}

-- ---- values and tables

-- an INTEGER
abbrev pub int : ℕ → Value
int n = Int (pos n)

-- an INTEGER column that takes NULL
abbrev pub column : List ℕ → ColumnType
column name = record { name = name; data_type = Integer; not_null = false }

-- a table with the key K, and perhaps another column A
abbrev pub table_of : List ℕ → List ColumnType → List Row → Stored
table_of name more rows =
    record {
      name = name;
      table = record {
        columns = column (codes "K") ∷ more;
        key = 0 ∷ [];
        rows = rows;
      };
    }

-- a row of a key and a value
abbrev pub pair : ℕ → Value → Row
pair k a = int k ∷ a ∷ []

-- a row of a key
abbrev pub single : ℕ → Row
single k = int k ∷ []

-- T, with these rows
abbrev pub t_of : List Row → Stored
t_of rows = table_of (codes "T") (column (codes "A") ∷ []) rows

-- T (1, NULL), (2, 10), (3, 0)
abbrev pub three : List Row
three = pair 1 Null ∷ pair 2 (int 10) ∷ pair 3 (int 0) ∷ []

-- A, and AUDIT, each of one column
abbrev pub one_column : List ℕ → List Row → Stored
one_column name rows = table_of name [] rows

-- these tables, so many turns, and no active routine
abbrev pub world : Tables → ℕ → World
world tables turns = record { tables = tables; turns = turns; active = 0 }

-- no table, and a turn
abbrev pub empty : World
empty = world [] 1

-- T with its three rows, and so many turns
abbrev pub with_three : ℕ → World
with_three turns = world (t_of three ∷ []) turns

-- ---- expressions

-- an INTEGER literal
abbrev pub number : ℕ → Expr
number n = Literal (int n)

-- a truth value
abbrev pub truth : Bool → Expr
truth p = Literal (Truth p)

-- a text
abbrev pub words : List ℕ → Expr
words s = Literal (Str s)

-- a list of one expression
abbrev pub only : Expr → Exprs
only e = MoreExprs e NoExpr

-- a list of two
abbrev pub two : Expr → Expr → Exprs
two x y = MoreExprs x (MoreExprs y NoExpr)

-- an operator between two expressions
abbrev pub linked : Operator → Expr → Expr → Expr
linked operator x y = Chain x (MoreLinks operator y NoLink)

-- x + y
abbrev pub plus : Expr → Expr → Expr
plus = linked Add

-- x - y
abbrev pub minus : Expr → Expr → Expr
minus = linked Subtract

-- x * y
abbrev pub times : Expr → Expr → Expr
times = linked Multiply

-- x / y
abbrev pub over : Expr → Expr → Expr
over = linked Divide

-- a comparison
abbrev pub compares : Comparison → Expr → Expr → Expr
compares comparison x y = Operate (Comparing comparison) (two x y)

-- 1 / 0
abbrev pub zero_division : Expr
zero_division = over (number 1) (number 0)

-- no expression
abbrev pub none : Exprs
none = NoExpr

-- SELECT items FROM name WHERE conjuncts
abbrev pub select : Exprs → List ℕ → Exprs → Query
select items name conjuncts = Select items (Table name) conjuncts

-- VALUES (es)
abbrev pub row_of : Exprs → Query
row_of es = Values (MoreRows es NoRow)

-- ---- statements

-- an INTEGER variable
abbrev pub integer : ℕ → Target
integer slot = record { slot = slot; data_type = Integer }

-- a BOOLEAN variable
abbrev pub boolean : ℕ → Target
boolean slot = record { slot = slot; data_type = Boolean }

-- a VARCHAR(n) variable
abbrev pub varchar : ℕ → ℕ → Target
varchar n slot = record { slot = slot; data_type = Varchar n }

-- SET of an INTEGER
abbrev pub set : ℕ → Expr → Stmt
set slot e = Set (integer slot) e

-- SET of a variable to itself and more
abbrev pub more_by : ℕ → ℕ → Stmt
more_by slot n = set slot (plus (Variable slot) (number n))

-- statements in order
abbrev pub seq : List Stmt → Stmts
seq [] = NoStmt
seq (s ∷ ss) = MoreStmts s (seq ss)

-- a declaration of an INTEGER, with a default
abbrev pub declared : Expr → Variables → Variables
declared e more = MoreVariables 1 Integer (With e) more

-- a handler, and none after it
abbrev pub handler : HandlerType → ConditionValue → Stmt → Handlers
handler kind value action = MoreHandlers kind (value ∷ []) action NoHandler

-- BEGIN, with these variables and handlers
abbrev pub begin : Variables → Handlers → List Stmt → Stmt
begin variables handlers ss = Compound false variables 0 handlers (seq ss)

-- BEGIN ATOMIC
abbrev pub atomic : Variables → Handlers → List Stmt → Stmt
atomic variables handlers ss = Compound true variables 0 handlers (seq ss)

-- BEGIN END
abbrev pub nothing : Stmt
nothing = begin NoVariable NoHandler []

-- IF test THEN statements END IF
abbrev pub if_then : Expr → List Stmt → Stmt
if_then test ss = If (MoreBranches test (seq ss) NoBranch) NoStmt

-- INSERT INTO name VALUES (es)
abbrev pub insert : List ℕ → Exprs → Stmt
insert name es = Insert name None (row_of es)

-- DELETE FROM name WHERE conjuncts, of a table of one column or of two
abbrev pub delete_where : Exprs → List ℕ → Exprs → Stmt
delete_where columns name conjuncts = Delete name (select columns name conjuncts)

-- a function of one INTEGER that gives an INTEGER and doesn't call itself
abbrev pub function : Stmt → Routine
function body = Function false (Integer ∷ []) Integer false body

-- a parameter of a procedure
abbrev pub parameter : Mode → SqlType → Parameter
parameter mode t = record { mode = mode; data_type = t }

-- what a function of one parameter gives of a value
abbrev pub applied_to : Routine → Value → World → Ends Value
applied_to r v w = call r (v ∷ []) w

-- ---- endings

-- a condition without a text
abbrev pub untold : List ℕ → Area
untold state = one_condition state []

-- the first of two conditions is the newer
abbrev pub over_one : List ℕ → List ℕ → Area → Area
over_one state message area = record { state = state; message = message } ∷ area

-- how a statement ended, and the world that it left
abbrev pub seen : End → Outcome × World
seen e = (e.outcome, e.world)

-- a handler that takes several values
abbrev pub with_handler : HandlerType → ConditionValue → Stmt → Handlers → Handlers
with_handler kind value action more = MoreHandlers kind (value ∷ []) action more
