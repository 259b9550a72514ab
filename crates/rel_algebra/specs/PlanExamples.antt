-- Worked rows of plans, which hold by computation.
use Rattle.std.specs.Prelude.{ℕ, true, false, pos, ◌≡◌, ◌&&◌, List, [], ◌∷◌, codes, replicate, Bool}
use Rattle.std.specs.Prelude.{Ok, Err}
use Rattle.sql_values.specs.declared.value.Value.{Value}
use Rattle.sql_values.specs.declared.value.Value.TheVariants.{Null, Int, Bool as Truth}
use Rattle.sql_values.specs.declared.value.SqlType.TheVariants.{Integer}
use Rattle.sql_values.specs.declared.operators.Operator.{Operator}
use Rattle.sql_values.specs.declared.operators.Operator.TheVariants.{Add, Divide}
use Rattle.sql_values.specs.declared.operators.Comparison.TheVariants.{Equals, LessThan}
use Rattle.sql_conditions.specs.declared.condition.EngineCondition.TheVariants.{NumberOutOfRange}
use Rattle.sql_conditions.specs.declared.condition.EngineCondition.TheVariants.{DivisionByZero}
use Rattle.sql_conditions.specs.declared.condition.EngineCondition.TheVariants.{SeveralRows}
use Rattle.sql_conditions.specs.Conditions.{area_of}
use Rattle.row_types.specs.declared.ColumnType.{ColumnType}
use Rattle.row_types.specs.declared.cell.Cell.TheVariants.{Val, Cond}
use Rattle.row_types.specs.Cells.{Whole, Poisoned}
use Rattle.row_types.specs.Rows.{Row}
use Rattle.row_types.specs.Tables.{Tables}
use Rattle.rel_algebra.specs.Tree.{Count, Sum, Comparing, Arithmetic, NullTest, Opposite, Expr}
use Rattle.rel_algebra.specs.Tree.{Literal, Column, Variable, Chain, Operate, And, Or, CaseOf}
use Rattle.rel_algebra.specs.Tree.{Exists, Single, Call, NoLink, MoreLinks, Exprs, NoExpr}
use Rattle.rel_algebra.specs.Tree.{MoreExprs, Function, Returned, Return, Compound, NoVariable}
use Rattle.rel_algebra.specs.Tree.{NoHandler, MoreStmts, NoStmt, Query, Select, Grouped, Values}
use Rattle.rel_algebra.specs.Tree.{Ordered, NoRow, MoreRows, Table, LeftOuter}
use Rattle.rel_algebra.specs.World.{World, Ends, Gives, Raises}
use Rattle.rel_algebra.specs.Meaning.{ask}
use Rattle.rel_algebra.specs.Joins.{table_width}
use Rattle.rel_algebra.specs.Plain.{Inputs, planned}
use Rattle.rel_algebra.specs.Endings.{Ending}
use Rattle.rel_algebra.specs.Plan.{anew, Scalar, constant, column, word, Scalars, none, more}
use Rattle.rel_algebra.specs.Plan.{strict, and_word, or_word, case_word, exists, aggregate}
use Rattle.rel_algebra.specs.Plan.{PlanTree, scan, filter, keep, extend, apply, den, collected}
use Rattle.rel_algebra.specs.Emit.{plan, top}
use Rattle.rel_algebra.specs.Work.{work}
use Rattle.rel_algebra.specs.Removal.{all_removable}
use Rattle.rel_algebra.specs.Simple.{SimpleQuery}
use Rattle.rel_algebra.specs.Kinds.{Kinds, IntegerKind, tree_good}

-- a list of one expression
abbrev pub one : Expr → Exprs
one x = MoreExprs x NoExpr

-- a list of two
abbrev pub two : Expr → Expr → Exprs
two x y = MoreExprs x (MoreExprs y NoExpr)

-- one row of VALUES
abbrev pub row_of : Exprs → Query
row_of es = Values (MoreRows es NoRow)

-- an INTEGER
abbrev pub int : ℕ → Value
int n = Int (pos n)

-- an INTEGER literal
abbrev pub number : ℕ → Expr
number n = Literal (int n)

-- an operator between two expressions
abbrev pub arithmetic : Operator → Expr → Expr → Expr
arithmetic operator x y = Chain x (MoreLinks operator y NoLink)

-- x / y
abbrev pub over : Expr → Expr → Expr
over x y = arithmetic Divide x y

-- x = y
abbrev pub same : Expr → Expr → Expr
same x y = Operate (Comparing Equals) (two x y)

-- x > y
abbrev pub above : Expr → Expr → Expr
above x y = Operate (Comparing LessThan) (two y x)

-- a row of three INTEGERs
abbrev pub ints : ℕ → ℕ → ℕ → Row
ints a b c = int a ∷ int b ∷ int c ∷ []

-- an INTEGER column
abbrev pub int_column : List ℕ → ColumnType
int_column name = record { name = name; data_type = Integer; not_null = false }

-- the table T
abbrev pub t_name : List ℕ
t_name = codes "T"

-- the table D
abbrev pub d_name : List ℕ
d_name = codes "D"

-- tables T (K, A), D (K, G, V), E (K), of which the last is empty
abbrev pub tables : Tables
tables =
    record {
      name = t_name;
      table = record {
        columns = int_column (codes "K") ∷ int_column (codes "A") ∷ [];
        key = 0 ∷ [];
        rows = (int 1 ∷ Null ∷ [])
            ∷ (int 2 ∷ int 10 ∷ []) ∷ (int 3 ∷ int 0 ∷ []) ∷ [];
      };
    }
    ∷ record {
      name = d_name;
      table = record {
        columns = int_column (codes "K") ∷ int_column (codes "G") ∷ int_column (codes "V") ∷ [];
        key = 0 ∷ [];
        rows = ints 1 1 5 ∷ ints 2 2 0 ∷ ints 3 1 7 ∷ [];
      };
    }
    ∷ record {
      name = codes "E";
      table = record {
        columns = int_column (codes "K") ∷ [];
        key = 0 ∷ [];
        rows = [];
      };
    } ∷ []

-- these tables, without turns
abbrev pub world : World
world = record { tables = tables; turns = 0; active = 0 }

-- these tables, without arguments
abbrev pub inputs : Inputs
inputs = record { tables = tables; args = [] }

-- the plan of a query on these tables
abbrev pub planned_as : Query → PlanTree
planned_as q = plan q (table_width tables) (top 0)

-- what the plan of a query gives
abbrev pub runs : Query → Ending (List Row)
runs q = collected (den (planned_as q) inputs [])

-- what a query of this one value gives
abbrev pub value : Value → Ends (List Row)
value v = Gives ((v ∷ []) ∷ []) world

-- 10 / v > 0, and g = x
abbrev pub raising : Expr
raising = above (over (number 10) (Column 0 2)) (number 0)

-- g = x
abbrev pub group_is_x : Expr
group_is_x = same (Column 0 1) (Variable 0)

-- (SELECT SUM(item) FROM d WHERE tests)
abbrev pub sum_where : Expr → Exprs → Expr
sum_where item tests = Single (Grouped (Table d_name) tests 0 (one item) (Sum ∷ []) NoExpr
    (one (Column 0 0)))

-- a call of f (x): RETURN e
abbrev pub call_of : Expr → Expr → Expr
call_of e argument = Call (codes "F") (Returned (Integer ∷ []) Integer e) (one argument)

-- f(n)
abbrev pub of : Expr → ℕ → Query
of e n = row_of (one (call_of e (number n)))

-- (SELECT SUM(v) FROM d WHERE 10 / v > 0 AND g = x)
abbrev pub f : Expr
f = sum_where (Column 0 2) (two raising group_is_x)

-- the same with the equality first
abbrev pub swapped : Expr
swapped = sum_where (Column 0 2) (two group_is_x raising)

-- the sum of items that are out of range, with the tests of f
abbrev pub past_range : Expr
past_range = sum_where (arithmetic Add (number 9223372036854775807) (Column 0 2))
    (two raising group_is_x)

-- (SELECT 100 / a FROM t)
abbrev pub hundredths : Expr
hundredths = Single (Select (one (over (number 100) (Column 0 1))) (Table t_name) NoExpr)

-- SELECT t.k, SUM(d.v) AS s FROM t LEFT JOIN d ON d.g = t.k GROUP BY t.k ORDER BY s DESC
abbrev pub sums : Query
sums =
    Ordered (Grouped (LeftOuter (Table t_name) (Table d_name)
    (one (same (Column 0 3) (Column 0 0)))) NoExpr 1 (two (Column 0 0) (Column 0 4))
    (Sum ∷ []) NoExpr (two (Column 0 0) (Column 0 1)))
    (record { place = 1; descending = true } ∷ [])

-- SELECT g, COUNT(*) AS n FROM d GROUP BY g HAVING 10 / SUM(v) > 0
abbrev pub counts : Query
counts =
    Grouped (Table d_name) NoExpr 1
    (MoreExprs (Column 0 1) (two (Literal (Truth true)) (Column 0 2))) (Count ∷ Sum ∷ [])
    (one (above (over (number 10) (Column 0 2)) (number 0))) (two (Column 0 0) (Column 0 1))

-- inv (x): RETURN 100 / x
abbrev pub inv : Expr → Expr
inv x = call_of (over (number 100) (Variable 0)) x

-- SELECT inv(a) FROM t
abbrev pub inverses : Query
inverses = Select (one (inv (Column 0 1))) (Table t_name) NoExpr

-- SELECT inv(inv(a)) FROM t
abbrev pub twice : Query
twice = Select (one (inv (inv (Column 0 1)))) (Table t_name) NoExpr

-- SELECT k FROM t WHERE 100 / a = 10
abbrev pub tenths : Query
tenths = Select (one (Column 0 0)) (Table t_name)
    (one (same (over (number 100) (Column 0 1)) (number 10)))

-- SELECT swapped(k) FROM t
abbrev pub sums_of_keys : Query
sums_of_keys = Select (one (call_of swapped (Column 0 0))) (Table t_name) NoExpr

-- SELECT k FROM t WHERE EXISTS (SELECT v FROM d WHERE t.k comparison d.g)
abbrev pub keys_where : (Expr → Expr → Expr) → Query
keys_where comparison = Select (one (Column 0 0)) (Table t_name) (one (Exists
    (Select (one (Column 0 2)) (Table d_name) (one (comparison (Column 1 0) (Column 0 1))))))

-- SELECT (SELECT COUNT(*) FROM d AS e WHERE e.g = d.g AND e.k = $0 AND e.v = d.v) FROM d
abbrev pub between : Query
between =
    Select (one (Single (Grouped (Table d_name) (MoreExprs (same (Column 0 1) (Column 1 1))
    (two (same (Column 0 0) (Variable 0)) (same (Column 0 2) (Column 1 2)))) 0
    (one (Literal (Truth true)))
    (Count ∷ []) NoExpr (one (Column 0 0))))) (Table d_name) NoExpr

-- SELECT t.k, d.k FROM t LEFT JOIN d ON NULL = d.g AND 1 / 0 = 1
abbrev pub unknown_pairs : Query
unknown_pairs =
    Select (two (Column 0 0) (Column 0 2)) (LeftOuter (Table t_name) (Table d_name)
    (two (same (Literal Null) (Column 0 3)) (same (over (number 1) (number 0)) (number 1)))) NoExpr

-- one (x): RETURN 1, called with 1 / 0
abbrev pub unread_argument : Query
unread_argument = row_of (one (call_of (number 1) (over (number 1) (number 0))))

-- #i, ^1.i, and TRUE where a column is a value
abbrev pub col : ℕ → Scalar
col i = column 0 i

-- a list of one scalar
abbrev pub only : Scalar → Scalars
only s = more s none

-- a list of two
abbrev pub both_of : Scalar → Scalar → Scalars
both_of s t = more s (more t none)

-- TRUE where column i is a value, and else its area
abbrev pub given_value : ℕ → Scalar
given_value i = word or_word
    (both_of (word (strict NullTest) (only (col i))) (constant (Truth true)))

-- a scalar, where column i is a value
abbrev pub guarded : ℕ → Scalar → Scalar
guarded i s = word case_word (both_of (word and_word (only (given_value i))) s)

-- x / y as a scalar
abbrev pub divided : Scalar → Scalar → Scalar
divided s t = word (strict (Arithmetic Divide)) (both_of s t)

-- x = y as a scalar
abbrev pub equal : Scalar → Scalar → Scalar
equal s t = word (strict (Comparing Equals)) (both_of s t)

-- the kinds of the tables' columns
abbrev pub table_kinds : List ℕ → Kinds
table_kinds name = replicate (table_width tables name) IntegerKind

-- each operand has its kind in the plan of a query
abbrev pub has_kinds : Query → Bool
has_kinds q = tree_good (planned_as q) table_kinds [] []

-- worked rows of queries, by the meaning. 7.13, 7.16, 7.17 and 7.19
pub record QueriesWorked : Type 0 where
  -- another group's condition comes first
  pub other_group : ask (of f 9) world ≡ Raises (area_of DivisionByZero) world
  -- also where the group has rows
  pub own_group : ask (of f 1) world ≡ Raises (area_of DivisionByZero) world
  -- with the equality first the group's sum is given
  pub swapped_sum : ask (of swapped 1) world ≡ value (int 12)
  -- of a group without rows it is NULL
  pub swapped_none : ask (of swapped 9) world ≡ value Null
  -- and the group's own condition is raised
  pub swapped_raises : ask (of swapped 2) world ≡ Raises (area_of DivisionByZero) world
  -- an item of the first row raises before the second row's test
  pub first_row : ask (of past_range 1) world ≡ Raises (area_of NumberOutOfRange) world
  -- where the first row is left out, the second row's test raises
  pub second_row : ask (of past_range 2) world ≡ Raises (area_of DivisionByZero) world
  -- an empty table raises nothing
  pub no_row : ask (Select (two (call_of f (Column 0 0)) hundredths) (Table (codes "E")) NoExpr)
      world ≡ Gives [] world
  -- a condition goes before the number of rows
  pub condition_first : ask (row_of (one hundredths)) world ≡ Raises (area_of DivisionByZero) world
  -- a scalar subquery of several rows raises 21000
  pub several : ask (row_of (one (Single (Select (one (Column 0 1)) (Table t_name) NoExpr)))) world
      ≡ Raises (area_of SeveralRows) world
  -- NULL AND FALSE, NULL OR TRUE, NOT NULL, 1 = NULL
  pub truth : ask (row_of (MoreExprs (And (two (Literal Null) (Literal (Truth false))))
      (MoreExprs (Or (two (Literal Null) (Literal (Truth true))))
      (two (Operate Opposite (one (Literal Null))) (same (number 1) (Literal Null)))))) world
      ≡ Gives
      ((Truth false ∷ Truth true ∷ Null ∷ Null ∷ []) ∷ []) world
  -- a left row without a pair stands with NULLs
  pub left_join : ask sums world
      ≡ Gives ((int 1 ∷ int 12 ∷ []) ∷ (int 2 ∷ int 0 ∷ []) ∷ (int 3 ∷ Null ∷ []) ∷ []) world
  -- a condition in HAVING is raised
  pub having_raises : ask counts world ≡ Raises (area_of DivisionByZero) world
  -- VALUES (10 / 2, 1), (f(1), 2)
  pub several_rows : ask (Values (MoreRows (two (over (number 10) (number 2)) (number 1))
      (MoreRows (two (call_of swapped (number 1)) (number 2)) NoRow))) world
      ≡ Gives ((int 5 ∷ int 1 ∷ []) ∷ (int 12 ∷ int 2 ∷ []) ∷ []) world
  -- VALUES (1), (inv(0)), (10 / 0)
  pub second_raises : ask (Values
      (MoreRows (one (number 1))
      (MoreRows (one (inv (number 0))) (MoreRows (one (over (number 10) (number 0))) NoRow))))
      world ≡ Raises (area_of DivisionByZero) world
  -- a query that has no row stands alone: (SELECT k FROM t WHERE k = 2) + 1
  pub own_row : ask (row_of
      (one (arithmetic Add (Single
      (Select (one (Column 0 0)) (Table t_name) (one (same (Column 0 0) (number 2)))))
      (number 1)))) world ≡ value (int 3)
  -- a pair leaves at the first conjunct of ON that is not true
  pub pairs_leave : ask unknown_pairs world
      ≡ Gives ((int 1 ∷ Null ∷ []) ∷ (int 2 ∷ Null ∷ []) ∷ (int 3 ∷ Null ∷ []) ∷ []) world
  -- an argument is evaluated, also where the body does not read it
  pub argument_raises : ask unread_argument world ≡ Raises (area_of DivisionByZero) world
  -- a call in the argument of a call raises
  pub twice_called : ask twice world ≡ Raises (area_of DivisionByZero) world

-- worked rows of plans
pub record PlansWorked : Type 0 where
  -- queries that have plans
  pub has_plan : planned sums_of_keys && planned twice ≡ true
  -- no function that calls itself has a plan, and rows of VALUES have one length
  pub no_plan : planned (row_of
      (one (Call (codes "F") (Function true [] Integer false (Return (number 1))) NoExpr))) ≡ false
  -- one that returns NULL on NULL input has one
  pub plan_on_null : planned
      (row_of (one (Call (codes "F") (Function false [] Integer true (Return (number 1))) NoExpr)))
      ≡ true
  -- a body of several statements has one, where each is in form
  pub plan_of_statements : planned
      (row_of (one (Call (codes "F") (Function false [] Integer false
      (Compound false NoVariable 0 NoHandler (MoreStmts (Return (number 1)) NoStmt))) NoExpr)))
      ≡ true
  -- rows of VALUES of two lengths have none
  pub uneven : planned (Values
      (MoreRows (one (number 1)) (MoreRows (two (number 1) (number 2)) NoRow))) ≡ false
  -- VALUES of several rows by its plan
  pub several_rows : runs (Values (MoreRows (two (over (number 10) (number 2)) (number 1))
      (MoreRows (two (call_of swapped (number 1)) (number 2)) NoRow)))
      ≡ Ok ((int 5 ∷ int 1 ∷ []) ∷ (int 12 ∷ int 2 ∷ []) ∷ [])
  -- the first condition in the order of the rows
  pub second_raises : runs (Values
      (MoreRows (one (number 1))
      (MoreRows (one (inv (number 0))) (MoreRows (one (over (number 10) (number 0))) NoRow))))
      ≡ Err (area_of DivisionByZero)
  -- the row whose test raises stays, poisoned, after those before it
  pub poisoned : den (planned_as tenths) inputs [] ≡ Whole (Val (int 2) ∷ [])
      ∷ Poisoned (area_of DivisionByZero) ∷ []
  -- a condition in a cell that nothing reads: the CASE's first arm is not taken
  pub unread : den (planned_as
      (Select (one (CaseOf (number 2) (number 1) (inv (Column 0 1)) (one (Column 0 0))))
      (Table t_name) NoExpr)) inputs []
      ≡ Whole (Val (int 1) ∷ []) ∷ Whole (Val (int 2) ∷ []) ∷ Whole (Val (int 3) ∷ []) ∷ []
  -- a condition stands in its cell
  pub cells : den (planned_as inverses) inputs [] ≡ Whole (Val Null ∷ [])
      ∷ Whole (Val (int 10) ∷ []) ∷ Whole (Cond (area_of DivisionByZero) ∷ []) ∷
      []
  -- Scan T; Extend #1; Extend div(100, #2); Keep #3: an argument that is a column raises nothing
  pub call_plan : planned_as inverses
      ≡ keep (3 ∷ []) (extend (only (divided (constant (int 100)) (col 2)))
      (extend (only (col 1)) (scan t_name 2)))
  -- a call in a call: Scan T; Extend #1; Extend div(100, #2); Extend case(.., div(100, #3)); Keep
  -- #4
  pub twice_plan : planned_as twice
      ≡ keep (4 ∷ []) (extend (only (guarded 3 (divided (constant (int 100)) (col 3))))
      (extend (only (divided (constant (int 100)) (col 2)))
      (extend (only (col 1)) (scan t_name 2))))
  -- Scan T; Extend #0; Apply TRUE aggregate sum #0 of
  --   Scan D; Filter eq(#1, ^1.2); Filter lt(0, div(10, #2)); Keep #2
  -- Extend case(.., #3); Keep #4
  pub fold_plan : planned_as sums_of_keys
      ≡ keep (4 ∷ []) (extend (only (guarded 3 (col 3)))
      (apply (constant (Truth true)) (aggregate ((Sum, 0) ∷ [])) anew
      (keep (2 ∷ []) (filter (word (strict (Comparing LessThan))
      (both_of (constant (int 0)) (divided (constant (int 10)) (col 2))))
      (filter (equal (col 1) (column 1 2)) (scan d_name 3))))
      (extend (only (col 0)) (scan t_name 2))))
  -- the conjunct is turned: Filter eq(#1, ^1.0)
  pub exists_plan : planned_as (keys_where same)
      ≡ keep (0 ∷ []) (filter (col 2)
      (apply (constant (Truth true)) exists anew
      (keep (2 ∷ []) (filter (equal (col 1) (column 1 0)) (scan d_name 3)))
      (scan t_name 2)))
  -- each Apply can be removed
  pub can_go : all_removable (planned_as sums_of_keys)
      && all_removable (planned_as (keys_where same)) ≡ true
  -- its conjuncts are one run
  pub between_is_simple : SimpleQuery between (table_width tables) true
  -- the one that names the argument goes first: Filter eq(#0, $0), eq(#1, ^1.1), eq(#2, ^1.2)
  pub between_goes : all_removable (plan between (table_width tables) (top 1)) ≡ true
  -- an Apply whose query has another comparison can't be
  pub cannot_go : all_removable (planned_as (keys_where above)) ≡ false
  -- the plans give the same by computation
  pub plan_swapped : runs (of swapped 1) ≡ Ok ((int 12 ∷ []) ∷ [])
  -- LEFT JOIN by its plan
  pub plan_left_join : runs sums
      ≡ Ok ((int 1 ∷ int 12 ∷ []) ∷ (int 2 ∷ int 0 ∷ []) ∷ (int 3 ∷ Null ∷ []) ∷ [])
  -- pairs whose test is unknown leave
  pub plan_pairs_leave : runs unknown_pairs
      ≡ Ok ((int 1 ∷ Null ∷ []) ∷ (int 2 ∷ Null ∷ []) ∷ (int 3 ∷ Null ∷ []) ∷ [])
  -- an argument that nothing reads raises
  pub plan_argument_raises : runs unread_argument ≡ Err (area_of DivisionByZero)
  -- Scan takes three rows, the first Extend three with one node, the second three with three, Keep
  -- three; and three are given
  pub steps : work (planned_as inverses) inputs [] ≡ 39
  -- each operand has its kind
  pub kinds_fit : has_kinds sums_of_keys && has_kinds sums ≡ true
  -- k AND k
  pub kinds_differ : has_kinds (Select (one (And (two (Column 0 0) (Column 0 0))))
      (Table t_name) NoExpr) ≡ false
