-- Worked rows of functions with statements, which hold by computation: what each gives, and what
-- its plan gives.
use Rattle.std.specs.Prelude.{◌≡◌, ℕ, true, false, ◌&&◌, pos, negsuc, List, [], ◌∷◌, codes, Option}
use Rattle.std.specs.Prelude.{Some, None, Ok, Err, length}
use Rattle.sql_values.specs.declared.value.Value.{Value}
use Rattle.sql_values.specs.declared.value.Value.TheVariants.{Null, Int, Str, Bool as Truth}
use Rattle.sql_values.specs.declared.value.SqlType.TheVariants.{Integer, Varchar}
use Rattle.sql_values.specs.declared.operators.Operator.{Operator}
use Rattle.sql_values.specs.declared.operators.Operator.TheVariants.{Add, Divide}
use Rattle.sql_values.specs.declared.operators.Comparison.TheVariants.{Equals, GreaterThan}
use Rattle.sql_conditions.specs.Conditions.{area_of}
use Rattle.sql_conditions.specs.declared.condition.EngineCondition.TheVariants.{DivisionByZero}
use Rattle.sql_conditions.specs.declared.condition.EngineCondition.TheVariants.{StringTooLong}
use Rattle.sql_conditions.specs.declared.condition.EngineCondition.TheVariants.{SeveralRows}
use Rattle.row_types.specs.declared.cell.Cell.TheVariants.{Val}
use Rattle.rel_algebra.specs.Tree.{Expr, Literal, Column, Variable, Chain, Operate, Comparing}
use Rattle.rel_algebra.specs.Tree.{MoreLinks, NoLink, MoreExprs, NoExpr, Select, Grouped, Table}
use Rattle.rel_algebra.specs.Tree.{Sum, AnyOf, Arithmetic, NullTest, ConditionValue, State}
use Rattle.rel_algebra.specs.Tree.{SqlException, NotFound}
use Rattle.rel_algebra.specs.Endings.{Ending, cell_end}
use Rattle.rel_algebra.specs.Joins.{table_width}
use Rattle.rel_algebra.specs.Plain.{Inputs}
use Rattle.rel_algebra.specs.Plan.{PlanTree, Scalar, Scalars, den, extend, keep, unit_row, constant}
use Rattle.rel_algebra.specs.Plan.{argument, word, more, case_word, or_word, strict, on_condition}
use Rattle.rel_algebra.specs.OnConditions.{matches_word}
use Rattle.regions.specs.Kinds.{RoutineTyped}
use Rattle.rel_algebra.specs.BodySteps.{case_of, code_is, col, only, tag, two}
use Rattle.rel_algebra.specs.BodyDispatch.{is_value}
use Rattle.regions.specs.Inline.{null_of, raised_area, without_return_cell, inline}
use Rattle.rel_algebra.specs.PlanExamples.{tables, t_name, d_name, table_kinds}
use Rattle.rel_algebra.specs.Removal.{all_removable, is_region, tree_within}
use Rattle.rel_algebra.specs.WellFormed.{tree_fits}
use Rattle.rel_algebra.specs.Kinds.{tree_good, Kinds, IntegerKind}
use Rattle.rel_algebra.specs.States.{without_return, invalid_number}
use Rattle.regions.specs.Tree.{ReturnedSqlstate, MessageText, Target, HandlerType, Continue, Exit}
use Rattle.regions.specs.Tree.{Without, With, Number, Stmt, Compound, If, SimpleCase, Set}
use Rattle.regions.specs.Tree.{SelectInto, Resignal, GetStatementItems, GetConditionItems, Leave}
use Rattle.regions.specs.Tree.{Return, Stmts, NoStmt, MoreStmts, NoBranch, MoreBranches, Variables}
use Rattle.regions.specs.Tree.{NoVariable, MoreVariables, Handlers, NoHandler, MoreHandlers}
use Rattle.regions.specs.Tree.{Routine, Body}
use Rattle.rel_algebra.specs.Theorem.{one_cell}
use Rattle.regions.specs.Meaning.{call}

-- ---- short ways to write trees

-- an INTEGER
abbrev pub int : ℕ → Value
int n = Int (pos n)

-- its literal
abbrev pub number : ℕ → Expr
number n = Literal (int n)

-- -1
abbrev pub minus_one : Expr
minus_one = Literal (Int (negsuc 0))

-- an operator between two operands
abbrev pub chain : Operator → Expr → Expr → Expr
chain o a b = Chain a (MoreLinks o b NoLink)

-- a / b
abbrev pub over : Expr → Expr → Expr
over = chain Divide

-- a + b
abbrev pub plus : Expr → Expr → Expr
plus = chain Add

-- a > b
abbrev pub above : Expr → Expr → Expr
above a b = Operate (Comparing GreaterThan) (MoreExprs a (MoreExprs b NoExpr))

-- a = b
abbrev pub same : Expr → Expr → Expr
same a b = Operate (Comparing Equals) (MoreExprs a (MoreExprs b NoExpr))

-- the parameter
abbrev pub x : Expr
x = Variable 0

-- statements in order
abbrev pub stmts : List Stmt → Stmts
stmts [] = NoStmt
stmts (s ∷ ss) = MoreStmts s (stmts ss)

-- the INTEGER variable of a slot
abbrev pub integer_at : ℕ → Target
integer_at i = record { slot = i; data_type = Integer }

-- the VARCHAR(n) variable of a slot
abbrev pub text_at : ℕ → ℕ → Target
text_at n i = record { slot = i; data_type = Varchar n }

-- SET of an INTEGER variable
abbrev pub set : ℕ → Expr → Stmt
set i e = Set (integer_at i) e

-- BEGIN with these declarations and statements
abbrev pub begin : Variables → Handlers → List Stmt → Stmt
begin vs hs ss = Compound false vs hs (stmts ss)

-- the same, ATOMIC
abbrev pub atomic : Variables → Handlers → List Stmt → Stmt
atomic vs hs ss = Compound true vs hs (stmts ss)

-- a handler for one value
abbrev pub handler : HandlerType → ConditionValue → Stmt → Handlers → Handlers
handler kind v action others = MoreHandlers kind (v ∷ []) action others

-- SQLSTATE '22012'
abbrev pub by_zero : ConditionValue
by_zero = State (codes "22012")

-- SQLSTATE '45000'
abbrev pub own_state : ConditionValue
own_state = State (codes "45000")

-- DECLARE .. INTEGER DEFAULT e
abbrev pub integer_named : Expr → Variables → Variables
integer_named e others = MoreVariables 1 Integer (With e) others

-- DECLARE of k variables INTEGER
abbrev pub integers : ℕ → Variables → Variables
integers k others = MoreVariables k Integer Without others

-- a function of one INTEGER that returns an INTEGER
abbrev pub function : Stmt → Routine
function body = Body (Integer ∷ []) Integer body

-- ---- what is asked

-- some tables, and the value of the parameter
abbrev pub inputs_with : Value → Inputs
inputs_with v = record { tables = tables; args = v ∷ [] }

-- the plan of a function, its parameter an argument
abbrev pub plan_of : Routine → PlanTree
plan_of r = inline r (table_width tables)

-- what a call gives, and its plan under a row outside
pub record Ends (r : Routine) (v : Value) (end : Ending Value) : Type 0 where
  -- by its meaning
  pub called : call r (v ∷ []) (inputs_with v) ≡ end
  -- by its plan
  pub planned : den (plan_of r) (inputs_with v) ((Val Null ∷ []) ∷ []) ≡ one_cell (cell_end end)

-- the plan is well formed, each operand has its kind, it is a chain over Unit without outer
-- columns, and each Apply in it can be removed
abbrev pub is_good : Routine → Kinds → ℕ → Rattle.std.specs.Prelude.Bool
is_good r ks n =
    tree_fits (plan_of r) (table_width tables) [] n && (tree_good (plan_of r) table_kinds [] ks
    && (is_region (plan_of r) && (tree_within (plan_of r) 0 && all_removable (plan_of r))))

-- BEGIN DECLARE EXIT HANDLER FOR SQLSTATE '22012' RETURN -1; RETURN 100 / x; END
abbrev pub safe : Routine
safe = function (begin NoVariable (handler Exit by_zero (Return minus_one) NoHandler)
    (Return (over (number 100) x) ∷ []))

-- BEGIN DECLARE r INTEGER DEFAULT 7; DECLARE CONTINUE HANDLER FOR SQLEXCEPTION SET r = r + 1; SET r
-- = 1 / x; RETURN r; END
abbrev pub counting : Routine
counting = function (begin (integer_named (number 7) NoVariable)
    (handler Continue SqlException (set 1 (plus (Variable 1) (number 1))) NoHandler)
    (set 1 (over (number 1) x) ∷ Return (Variable 1) ∷ []))

-- an inner general handler goes before an outer one that names the state
abbrev pub nested : Routine
nested = function (begin NoVariable (handler Exit by_zero (Return (number 1)) NoHandler)
    (begin NoVariable (handler Exit SqlException (Return (number 2)) NoHandler)
    (Return (over (number 1) x) ∷ []) ∷ []))

-- in one compound statement the one that names it goes first
abbrev pub beside : Routine
beside = function (begin NoVariable (handler Exit SqlException (Return (number 1))
    (handler Exit by_zero (Return (number 2)) NoHandler))
    (Return (over (number 1) x) ∷ []))

-- BEGIN DECLARE EXIT HANDLER FOR SQLEXCEPTION RESIGNAL SQLSTATE '45000' SET MESSAGE_TEXT = 'again';
-- RETURN 1 / x; END
abbrev pub resignals : Routine
resignals = function (begin NoVariable
    (handler Exit SqlException (Resignal (Some (codes "45000"))
    (With (Literal (Str (codes "again"))))) NoHandler)
    (Return (over (number 1) x) ∷ []))

-- BEGIN DECLARE v INTEGER; DECLARE CONTINUE HANDLER FOR NOT FOUND SET v = -1; SELECT a INTO v FROM
-- t WHERE k > x; RETURN v; END
abbrev pub into_by : (Expr → Expr → Expr) → Routine
into_by comparison = function (begin (integers 1 NoVariable)
    (handler Continue NotFound (set 1 minus_one) NoHandler)
    (SelectInto (Select (MoreExprs (Column 0 1) NoExpr) (Table t_name)
    (MoreExprs (comparison (Column 0 0) x) NoExpr)) (integer_at 1 ∷ [])
    ∷ Return (Variable 1) ∷ []))

-- the same with k > x
abbrev pub into_one : Routine
into_one = into_by above

-- the same with k = x, whose Apply can be removed
abbrev pub into_key : Routine
into_key = into_by same

-- BEGIN DECLARE v INTEGER; SELECT SUM(v) + 100 INTO v FROM d WHERE g = x; RETURN v; END: it is
-- folded, so that its Apply can be removed
abbrev pub into_sum : Routine
into_sum = function (begin (integers 1 NoVariable) NoHandler
    (SelectInto (Grouped (Table d_name) (MoreExprs (same (Column 0 1) x) NoExpr) 0
    (MoreExprs (Column 0 2) NoExpr) (Sum ∷ []) NoExpr
    (MoreExprs (plus (Column 0 0) (number 100)) NoExpr)) (integer_at 1 ∷ [])
    ∷ Return (Variable 1) ∷ []))

-- BEGIN DECLARE a INTEGER; DECLARE CONTINUE HANDLER FOR SQLEXCEPTION BEGIN DECLARE t INTEGER
-- DEFAULT 9; SET a = t; END; BEGIN DECLARE y INTEGER DEFAULT 5; SET y = y + 1 / x; RETURN y; END;
-- END
abbrev pub shadowed : ℕ → Routine
shadowed result = function (begin (integers 1 NoVariable)
    (handler Continue SqlException (begin (integer_named (number 9) NoVariable) NoHandler
    (set 1 (Variable 2) ∷ [])) NoHandler)
    (begin (integer_named (number 5) NoVariable) NoHandler
    (set 2 (plus (Variable 2) (over (number 1) x)) ∷ Return (Variable result) ∷ []) ∷ []))

-- CASE x WHEN 1 THEN RETURN 10; WHEN 1 / x THEN RETURN 20; END CASE, under a handler for case not
-- found and one for all else
abbrev pub cases : Routine
cases = function (begin NoVariable
    (handler Exit (State (codes "20000")) (Return (number 3))
    (handler Exit SqlException (Return (number 4)) NoHandler))
    (SimpleCase x (MoreBranches (number 1) (stmts (Return (number 10) ∷ []))
    (MoreBranches (over (number 4) x) (stmts (Return (number 20) ∷ [])) NoBranch)) NoStmt ∷ []))

-- IF x > 1 THEN SET r = 1; LEAVE of the inner block; .. ELSE SET r = 2; END IF
abbrev pub leaves : Routine
leaves = function (begin (integers 1 NoVariable) NoHandler
    (begin NoVariable NoHandler
    (If (MoreBranches (above x (number 1)) (stmts (set 1 (number 1) ∷ Leave 0 ∷ [])) NoBranch)
    (stmts (set 1 (number 2) ∷ []))
    ∷ set 1 (plus (Variable 1) (number 5)) ∷ []) ∷ Return (Variable 1) ∷ []))

-- an ATOMIC one raises as a whole, to the handler outside it, and then the list goes on after it
abbrev pub whole : Routine
whole = function (begin (integer_named (number 0) NoVariable)
    (handler Continue SqlException (set 1 (plus (Variable 1) (number 1))) NoHandler)
    (atomic (integer_named (number 3) NoVariable) NoHandler
    (set 1 (number 10) ∷ set 2 (over (number 1) x) ∷ set 1 (number 20) ∷ []) ∷ Return (Variable 1)
    ∷ []))

-- the default of an inner block raises: the block as a whole does
abbrev pub default_raises : Routine
default_raises = function (begin (integer_named (number 0) NoVariable)
    (handler Continue SqlException (set 1 (number 8)) NoHandler)
    (begin (integer_named (over (number 1) x) NoVariable)
    (handler Continue SqlException (set 1 (number 9)) NoHandler) (set 1 (Variable 2) ∷ [])
    ∷ Return (Variable 1) ∷ []))

-- no RETURN where x is above 5
abbrev pub may_end : Routine
may_end = function (begin NoVariable NoHandler
    (If (MoreBranches (above x (number 5)) NoStmt NoBranch) (stmts (Return (number 1) ∷ [])) ∷ []))

-- GET STACKED DIAGNOSTICS CONDITION x s = RETURNED_SQLSTATE, m = MESSAGE_TEXT; RETURN NUMBER
abbrev pub texts : ℕ → Routine
texts n = Body (Integer ∷ []) (Varchar 30) (begin
    (MoreVariables 1 (Varchar 30) Without (integers 1 NoVariable))
    (handler Exit SqlException (begin NoVariable NoHandler
    (GetStatementItems (record { item = Number; target = integer_at 2 } ∷ [])
    ∷ GetConditionItems (Variable n) (record { item = ReturnedSqlstate; target = text_at 30 1 }
    ∷ record { item = MessageText; target = text_at 30 1 } ∷ [])
    ∷ Return (Variable 1) ∷ [])) NoHandler)
    (set 2 (over (number 1) (number 0)) ∷ []))

-- VARCHAR(2): the value is assigned after the body, so no handler takes what that raises
abbrev pub assigned_last : Routine
assigned_last = Body (Integer ∷ []) (Varchar 2)
    (begin NoVariable (handler Exit SqlException (Return (Literal (Str (codes "a")))) NoHandler)
    (Return (Literal (Str (codes "abc"))) ∷ []))

-- a new cell at code k
abbrev pub when_at : ℕ → Scalar → ℕ → Scalar
when_at k new old = case_of (code_is k) new (col old)

-- whether a handler value waits for the area in column t
abbrev pub raised_as : ConditionValue → ℕ → Scalar
raised_as v t = word (on_condition (matches_word v)) (only (col t))

-- a value in column 4 or 5 is returned; an area goes to a code
abbrev pub returning : ℕ → ℕ → Scalars → Scalars
returning k t arms =
    more (when_at k (case_of (is_value t) (col t) (col 1)) 1)
    (two (when_at k (word case_word (more (is_value t) (more (tag 0) arms))) 0)
    (when_at k (word (strict NullTest) (only (col t))) 2))

-- matches:SQLEXCEPTION, 1, k
abbrev pub unhandled_at : ℕ → ℕ → Scalars
unhandled_at k t = more (raised_as SqlException t) (two (tag 1) (tag k))

-- what the functions above give for some values, and that their plans are good
pub record RoutinesWorked : Type 0 where
  -- the plan of safe, from its end down to Unit
  pub safe_plan : plan_of safe
      ≡ keep (4 ∷ []) (extend (only (word case_word
      (more (code_is 0) (more (col 1) (more (code_is 1) (two raised_area without_return_cell))))))
      (keep (5 ∷ 1 ∷ 2 ∷ 3 ∷ []) (extend (only
      (case_of (word (strict AnyOf) (more (col 0) (two (tag 6) (tag 7)))) (tag 3) (col 0)))
      (keep (7 ∷ 6 ∷ 8 ∷ 3 ∷ 4 ∷ []) (extend (returning 7 5 (unhandled_at 7 5))
      (extend (only (constant (Int (negsuc 0)))) (extend (only (col 2))
      (keep (4 ∷ 1 ∷ 2 ∷ 3 ∷ []) (extend (only
      (when_at 5 (word case_word (more (word or_word (only (raised_as by_zero 2)))
      (two (tag 7) (tag 2)))) 0))
      (keep (6 ∷ 5 ∷ 7 ∷ 3 ∷ []) (extend (returning 6 4
      (more (word or_word (only (raised_as by_zero 4))) (more (tag 5) (unhandled_at 6 4))))
      (extend (only (word (strict (Arithmetic Divide)) (two (constant (int 100)) (col 3))))
      (keep (4 ∷ 1 ∷ 2 ∷ 3 ∷ []) (extend (only (when_at 3 (tag 6) 0))
      (extend (more (tag 3) (more (null_of Integer) (two (constant (Truth false)) (argument 0))))
      unit_row)))))))))))))))
  -- what each gives for a value of x; NULL is no error
  pub safe_zero : Ends safe (int 0) (Ok (Int (negsuc 0)))
  pub safe_five : Ends safe (int 5) (Ok (int 20))
  pub safe_null : Ends safe Null (Ok Null)
  pub counting_zero : Ends counting (int 0) (Ok (int 8))
  pub counting_one : Ends counting (int 1) (Ok (int 1))
  pub nested_zero : Ends nested (int 0) (Ok (int 2))
  pub beside_zero : Ends beside (int 0) (Ok (int 2))
  pub resignals_zero : Ends resignals (int 0)
      (Err (record { state = codes "45000"; message = codes "again" } ∷ area_of DivisionByZero))
  pub resignals_one : Ends resignals (int 1) (Ok (int 1))
  -- the table has the keys 1, 2, 3
  pub into_none : Ends into_one (int 3) (Ok (Int (negsuc 0)))
  pub into_several : Ends into_one (int 0) (Err (area_of SeveralRows))
  pub into_last : Ends into_one (int 2) (Ok (int 0))
  pub into_key_two : Ends into_key (int 2) (Ok (int 10))
  pub into_key_none : Ends into_key (int 9) (Ok (Int (negsuc 0)))
  pub into_sum_one : Ends into_sum (int 1) (Ok (int 112))
  pub into_sum_none : Ends into_sum (int 9) (Ok Null)
  pub shadowed_zero : Ends (shadowed 2) (int 0) (Ok (int 5))
  pub shadowed_outer : Ends (shadowed 1) (int 0) (Ok (int 9))
  pub shadowed_one : Ends (shadowed 2) (int 1) (Ok (int 6))
  pub cases_one : Ends cases (int 1) (Ok (int 10))
  pub cases_two : Ends cases (int 2) (Ok (int 20))
  pub cases_none : Ends cases (int 3) (Ok (int 3))
  pub cases_zero : Ends cases (int 0) (Ok (int 4))
  pub leaves_two : Ends leaves (int 2) (Ok (int 1))
  pub leaves_one : Ends leaves (int 1) (Ok (int 7))
  pub whole_zero : Ends whole (int 0) (Ok (int 11))
  pub whole_one : Ends whole (int 1) (Ok (int 20))
  pub default_zero : Ends default_raises (int 0) (Ok (int 8))
  pub default_one : Ends default_raises (int 1) (Ok (int 1))
  pub may_end_six : Ends may_end (int 6) (Err without_return)
  pub may_end_one : Ends may_end (int 1) (Ok (int 1))
  pub texts_one : Ends (texts 0) (int 1) (Ok (Str (codes "division by zero")))
  pub texts_two : Ends (texts 0) (int 2) (Err invalid_number)
  pub refused_last : Ends assigned_last (int 1) (Err (area_of StringTooLong))
  -- each plan is well formed and well kinded, and its Applies can be removed
  pub safe_good : is_good safe (IntegerKind ∷ []) 1 ≡ true
  pub counting_good : is_good counting (IntegerKind ∷ []) 1 ≡ true
  pub nested_good : is_good nested (IntegerKind ∷ []) 1 ≡ true
  pub resignals_good : is_good resignals (IntegerKind ∷ []) 1 ≡ true
  pub into_sum_good : is_good into_sum (IntegerKind ∷ []) 1 ≡ true
  pub into_key_good : is_good into_key (IntegerKind ∷ []) 1 ≡ true
  pub shadowed_2_good : is_good (shadowed 2) (IntegerKind ∷ []) 1 ≡ true
  pub cases_good : is_good cases (IntegerKind ∷ []) 1 ≡ true
  pub leaves_good : is_good leaves (IntegerKind ∷ []) 1 ≡ true
  pub whole_good : is_good whole (IntegerKind ∷ []) 1 ≡ true
  pub default_raises_good : is_good default_raises (IntegerKind ∷ []) 1 ≡ true
  pub may_end_good : is_good may_end (IntegerKind ∷ []) 1 ≡ true
  pub texts_0_good : is_good (texts 0) (IntegerKind ∷ []) 1 ≡ true
  pub assigned_last_good : is_good assigned_last (IntegerKind ∷ []) 1 ≡ true
  -- so their statements are typed
  pub safe_typed : RoutineTyped safe table_kinds
  pub into_sum_typed : RoutineTyped into_sum table_kinds
  pub texts_0_typed : RoutineTyped (texts 0) table_kinds
