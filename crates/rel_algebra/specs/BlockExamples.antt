-- Worked rows of queries that call functions whose bodies are blocks, which hold by computation:
-- what each gives by itself, and by its plan.
use Rattle.std.specs.Prelude.{true, false, ◌≡◌, ◌&&◌, List, [], ◌∷◌, codes, negsuc, None, Ok, Err}
use Rattle.sql_values.specs.declared.value.Value.{Value}
use Rattle.sql_values.specs.declared.value.Value.TheVariants.{Null, Int, Bool as Truth}
use Rattle.sql_values.specs.declared.value.SqlType.TheVariants.{Integer}
use Rattle.sql_values.specs.declared.operators.Operator.TheVariants.{Add}
use Rattle.row_types.specs.Rows.{Row}
use Rattle.rel_algebra.specs.Tree.{Sum, NullTest, Opposite, Expr, Literal, Column, Variable}
use Rattle.rel_algebra.specs.Tree.{Operate, Call, NoExpr, Routine, Function, Query, Select, Grouped}
use Rattle.rel_algebra.specs.Tree.{Table, Target}
use Rattle.rel_algebra.specs.Tree.{Exit, State, Without, With, NoVariable, MoreVariables, Stmt}
use Rattle.rel_algebra.specs.Tree.{Insert, Compound, If, Set, SelectInto, Signal, Return}
use Rattle.rel_algebra.specs.Tree.{NoStmt, MoreStmts, NoBranch, MoreBranches, NoHandler}
use Rattle.rel_algebra.specs.Tree.{MoreHandlers}
use Rattle.rel_algebra.specs.States.{one_condition}
use Rattle.rel_algebra.specs.World.{Gives, Raises}
use Rattle.rel_algebra.specs.Meaning.{ask}
use Rattle.rel_algebra.specs.Joins.{table_width}
use Rattle.rel_algebra.specs.Plain.{planned}
use Rattle.rel_algebra.specs.Plan.{and_word, anew, apply, column, constant, extend, keep, scan}
use Rattle.rel_algebra.specs.Plan.{single, strict, word}
use Rattle.rel_algebra.specs.Emit.{stmt_body}
use Rattle.rel_algebra.specs.Bodies.{Body}
use Rattle.rel_algebra.specs.BodyChain.{inline_with, of_type}
use Rattle.rel_algebra.specs.Removal.{all_removable}
use Rattle.rel_algebra.specs.WellFormed.{tree_fits}
use Rattle.rel_algebra.specs.PlanExamples.{above, arithmetic, col, d_name, has_kinds, int, number}
use Rattle.rel_algebra.specs.PlanExamples.{one, only, over, planned_as, row_of, runs, same, t_name}
use Rattle.rel_algebra.specs.PlanExamples.{tables, two, world}

-- a function of one INTEGER that returns an INTEGER
abbrev pub block : Stmt → Routine
block statement = Function false (Integer ∷ []) Integer false statement

-- a call of it, by some name
abbrev pub call : Stmt → Expr → Expr
call statement x = Call (codes "F") (block statement) (one x)

-- the INTEGER variable s, after the parameter x
abbrev pub s_variable : Target
s_variable = record { slot = 1; data_type = Integer }

-- -1
abbrev pub minus_one : Value
minus_one = Int (negsuc 0)

-- safe: BEGIN DECLARE EXIT HANDLER FOR SQLSTATE '22012' RETURN -1; RETURN 100 / x; END
abbrev pub safe : Stmt
safe = Compound false NoVariable 0
    (MoreHandlers Exit (State (codes "22012") ∷ []) (Return (Literal minus_one)) NoHandler)
    (MoreStmts (Return (over (number 100) (Variable 0))) NoStmt)

-- total: BEGIN DECLARE s INTEGER; SELECT SUM(v) INTO s FROM d WHERE g = x;
--   IF s IS NULL THEN SET s = -1; END IF; RETURN s; END
abbrev pub total : Stmt
total = Compound false (MoreVariables 1 Integer Without NoVariable) 0 NoHandler
    (MoreStmts (SelectInto (Grouped (Table d_name) (one (same (Column 0 1) (Variable 0))) 0
    (one (Column 0 2)) (Sum ∷ []) NoExpr (one (Column 0 0))) (s_variable ∷ []))
    (MoreStmts (If (MoreBranches (Operate NullTest (one (Variable 1)))
    (MoreStmts (Set s_variable (Literal minus_one)) NoStmt) NoBranch) NoStmt)
    (MoreStmts (Return (Variable 1)) NoStmt)))

-- both: BEGIN DECLARE s INTEGER DEFAULT total(x); RETURN s + safe(s); END
abbrev pub both : Stmt
both = Compound false
    (MoreVariables 1 Integer (With (call total (Variable 0))) NoVariable) 0 NoHandler
    (MoreStmts (Return (arithmetic Add (Variable 1) (call safe (Variable 1)))) NoStmt)

-- small: IF x > 2 THEN SIGNAL SQLSTATE '45000'; ELSE RETURN x; END IF
abbrev pub small : Stmt
small = If (MoreBranches (above (Variable 0) (number 2))
    (MoreStmts (Signal (codes "45000") Without) NoStmt) NoBranch)
    (MoreStmts (Return (Variable 0)) NoStmt)

-- adding: BEGIN INSERT INTO d VALUES (4, x, 0); RETURN x; END
abbrev pub adding : Stmt
adding = Compound false NoVariable 0 NoHandler
    (MoreStmts (Insert d_name None (row_of (two (number 4) (Variable 0))))
    (MoreStmts (Return (Variable 0)) NoStmt))

-- SELECT f(column i) FROM t
abbrev pub of_each : Stmt → Expr → Query
of_each statement x = Select (one (call statement x)) (Table t_name) NoExpr

-- seven: RETURN 7
abbrev pub seven : Stmt
seven = Return (number 7)

-- the same of a function that returns NULL on NULL input
abbrev pub of_each_known : Stmt → Expr → Query
of_each_known statement x =
    Select (one (Call (codes "F") (Function false (Integer ∷ []) Integer true statement) (one x)))
    (Table t_name) NoExpr

-- SELECT k FROM t WHERE small(k) = 1
abbrev pub small_keys : Query
small_keys = Select (one (Column 0 0)) (Table t_name)
    (one (same (call small (Column 0 0)) (number 1)))

-- rows of one value
abbrev pub values : List Value → List Row
values [] = []
values (v ∷ vs) = (v ∷ []) ∷ values vs

-- worked rows of calls of blocks, by the meaning and by plans. ISO/IEC 9075-4, 14.1, 14.2, 14.5,
-- 17.2, and 9075-2, 10.4 (routine invocation) and 14.7 (select statement: single row)
pub record BlocksWorked : Type 0 where
  -- their queries have plans
  pub have_plans : planned (of_each safe (Column 0 1)) && (planned (of_each total (Column 0 0))
      && (planned (of_each both (Column 0 0)) && planned small_keys)) ≡ true
  -- a call with too few values has none
  pub too_few : planned (row_of (one (Call (codes "F") (block safe) NoExpr))) ≡ false
  -- a function that changes a table has none
  pub no_change : planned (of_each adding (Column 0 0)) ≡ false
  -- safe(NULL), safe(10), safe(0)
  pub handled : ask (of_each safe (Column 0 1)) world
      ≡ Gives (values (Null ∷ int 10 ∷ minus_one ∷ [])) world
  -- by the plan
  pub handled_plan : runs (of_each safe (Column 0 1))
      ≡ Ok (values (Null ∷ int 10 ∷ minus_one ∷ []))
  -- total(1), total(2), total(3)
  pub summed : ask (of_each total (Column 0 0)) world
      ≡ Gives (values (int 12 ∷ int 0 ∷ minus_one ∷ [])) world
  -- by the plan
  pub summed_plan : runs (of_each total (Column 0 0))
      ≡ Ok (values (int 12 ∷ int 0 ∷ minus_one ∷ []))
  -- 12 + 100 / 12, 0 + -1, -1 + 100 / -1
  pub nested : ask (of_each both (Column 0 0)) world
      ≡ Gives (values (int 20 ∷ minus_one ∷ Int (negsuc 100) ∷ [])) world
  -- by the plan
  pub nested_plan : runs (of_each both (Column 0 0))
      ≡ Ok (values (int 20 ∷ minus_one ∷ Int (negsuc 100) ∷ []))
  -- small(3) raises
  pub refused : ask small_keys world ≡ Raises (one_condition (codes "45000") []) world
  -- by the plan
  pub refused_plan : runs small_keys ≡ Err (one_condition (codes "45000") [])
  -- Scan T; Extend #1; Apply TRUE single of the body, which reads
  -- coalesce(^1.2, cast:INTEGER(NULL)); Keep #3
  pub call_plan : planned_as (of_each safe (Column 0 1))
      ≡ keep (3 ∷ []) (apply (constant (Truth true)) single anew
      (inline_with (Body (Integer ∷ []) Integer (stmt_body safe)) (table_width tables)
      (only (of_type Integer (column 1 2))))
      (extend (only (col 1)) (scan t_name 2)))
  -- seven(NULL), seven(10), seven(0)
  pub on_null : ask (of_each_known seven (Column 0 1)) world
      ≡ Gives (values (Null ∷ int 7 ∷ int 7 ∷ [])) world
  -- by the plan
  pub on_null_plan : runs (of_each_known seven (Column 0 1))
      ≡ Ok (values (Null ∷ int 7 ∷ int 7 ∷ []))
  -- the Apply asks and(not(isnull(#2)))
  pub on_null_call_plan : planned_as (of_each_known seven (Column 0 1))
      ≡ keep (3 ∷ []) (apply (word and_word
      (only (word (strict Opposite) (only (word (strict NullTest) (only (col 2)))))))
      single anew
      (inline_with (Body (Integer ∷ []) Integer (stmt_body seven)) (table_width tables)
      (only (of_type Integer (column 1 2))))
      (extend (only (col 1)) (scan t_name 2)))
  -- each Apply can be removed
  pub can_go : all_removable (planned_as (of_each safe (Column 0 1)))
      && (all_removable (planned_as (of_each both (Column 0 0)))
      && all_removable (planned_as small_keys)) ≡ true
  -- the plans fit
  pub fit : tree_fits (planned_as (of_each safe (Column 0 1))) (table_width tables) [] 0
      && tree_fits (planned_as (of_each both (Column 0 0))) (table_width tables) [] 0 ≡ true
  -- each operand has its kind
  pub kinds : has_kinds (of_each safe (Column 0 1)) && (has_kinds (of_each both (Column 0 0))
      && has_kinds (row_of (one (call safe (Literal Null))))) ≡ true
