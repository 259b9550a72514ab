-- Worked rows of loops, CASE, calls and turns, which hold by computation. ISO/IEC 9075-4, 14.5 to
-- 14.13, and 9075-2, 10.4, 15.1 and 15.2.
use Rattle.std.specs.Prelude.{ℕ, negsuc, true, false, ◌≡◌, List, [], ◌∷◌, codes}
use Rattle.sql_values.specs.declared.value.Value.{Value}
use Rattle.sql_values.specs.declared.value.Value.TheVariants.{Null, Int}
use Rattle.sql_values.specs.declared.value.SqlType.TheVariants.{Integer, Varchar}
use Rattle.sql_values.specs.declared.operators.Comparison.TheVariants.{Equals, LessThan}
use Rattle.sql_values.specs.declared.operators.Comparison.TheVariants.{LessThanOrEquals}
use Rattle.sql_conditions.specs.declared.condition.EngineCondition.TheVariants.{RecursionTooDeep}
use Rattle.sql_conditions.specs.declared.condition.EngineCondition.TheVariants.{NumberOutOfRange}
use Rattle.sql_conditions.specs.declared.condition.EngineCondition.TheVariants.{SeveralRows}
use Rattle.sql_conditions.specs.declared.condition.EngineCondition.TheVariants.{StringTooLong}
use Rattle.sql_conditions.specs.Conditions.{area_of}
use Rattle.rel_algebra.specs.Tree.{Literal, Column, Variable, Coalesce, CallSelf, Stmt, NoStmt}
use Rattle.rel_algebra.specs.Tree.{MoreExprs}
use Rattle.rel_algebra.specs.Tree.{Routine, Function, Procedure, Return, Set, Signal, Without}
use Rattle.rel_algebra.specs.Tree.{Continue, Exit, SqlException, NotFound, NoVariable}
use Rattle.rel_algebra.specs.Tree.{MoreVariables, NoHandler, SearchedCase, SimpleCase}
use Rattle.rel_algebra.specs.Tree.{MoreBranches, NoBranch, Loop, While, Repeat, Leave, Iterate}
use Rattle.rel_algebra.specs.Tree.{SelectInto, CallProcedure, CallItself, InMode}
use Rattle.rel_algebra.specs.Tree.{OutMode, InoutMode, MoreValues, MoreTargets, MoreGiven}
use Rattle.rel_algebra.specs.Tree.{NoArgument}
use Rattle.rel_algebra.specs.States.{case_not_found}
use Rattle.rel_algebra.specs.World.{Ends, Gives, Raises, RunsOut}
use Rattle.rel_algebra.specs.Doing.{Next, Raising, Spent}
use Rattle.rel_algebra.specs.Meaning.{run, run_call}
use Rattle.meaning_rows.specs.Short.{int, number, truth, words, minus, times, compares}
use Rattle.meaning_rows.specs.Short.{zero_division, integer, varchar, only, none, set, more_by}
use Rattle.meaning_rows.specs.Short.{seq, declared, handler, begin, nothing, if_then}
use Rattle.meaning_rows.specs.Short.{select, parameter, function, applied_to, world, empty}
use Rattle.meaning_rows.specs.Short.{with_three, seen}

-- DECLARE i INTEGER DEFAULT 0; WHILE i < 3 DO SET i = i + 1; END WHILE
abbrev pub three_turns : Stmt
three_turns = begin (declared (number 0) NoVariable) NoHandler
    (While (compares LessThan (Variable 0) (number 3)) (seq (more_by 0 1 ∷ [])) ∷ [])

-- three turns are enough, and two are not
pub record TurnsOfWhile : Type 0 where
  pub three : seen (run three_turns (world [] 3)) ≡ (Next, world [] 0)
  pub two : seen (run three_turns (world [] 2)) ≡ (Spent, world [] 0)

-- dbl (INOUT n INTEGER): SET n = n * 2
abbrev pub double : Routine
double = Procedure false (parameter InoutMode Integer ∷ []) (set 0 (times (Variable 0) (number 2)))

-- what CALL gives back
pub record GivenBack : Type 0 where
  -- CALL dbl(21) of a script
  pub inout : run_call double (MoreValues (number 21) NoArgument) empty ≡ Gives (int 42 ∷ []) empty
  -- in a function: CALL dbl(x); RETURN x
  pub stored : applied_to (function
      (begin NoVariable NoHandler
      (CallProcedure (codes "DBL") double (MoreTargets (integer 0) NoArgument) ∷ Return (Variable 0)
      ∷ []))) (int 21) empty
      ≡ Gives (int 42) empty
  -- OUT starts as NULL, and IN gives nothing back
  pub out : run_call (Procedure false (parameter OutMode Integer ∷ parameter InMode Integer
      ∷ []) nothing) (MoreGiven (MoreValues (number 3) NoArgument)) empty ≡ Gives (Null ∷ []) empty

-- (OUT a INTEGER, OUT b VARCHAR(3)): SET a = 5; SET b = 'abc'; and perhaps more
abbrev pub giving : List Stmt → Routine
giving more = Procedure false (parameter OutMode Integer ∷ parameter OutMode (Varchar 3) ∷ [])
    (begin NoVariable NoHandler (set 0 (number 5) ∷ Set (varchar 3 1) (words (codes "abc")) ∷ more))

-- r INTEGER DEFAULT 1; s VARCHAR(n); CONTINUE HANDLER FOR SQLEXCEPTION BEGIN END; CALL (r, s);
-- RETURN r
abbrev pub taking : ℕ → List Stmt → Ends Value
taking n more = applied_to
    (function (begin (declared (number 1) (MoreVariables 1 (Varchar n) Without NoVariable))
    (handler Continue SqlException nothing)
    (CallProcedure (codes "P") (giving more)
    (MoreTargets (integer 1) (MoreTargets (varchar n 2) NoArgument)) ∷ Return (Variable 1) ∷ [])))
    (int 0) empty

-- all values that come back are converted first, and they come back after a normal end alone
pub record AllOrNoneStored : Type 0 where
  pub all : taking 3 [] ≡ Gives (int 5) empty
  pub refused : taking 2 [] ≡ Gives (int 1) empty
  pub raises : taking 3 (set 0 zero_division ∷ []) ≡ Gives (int 1) empty

-- fact (n): BEGIN IF n <= 1 THEN RETURN 1; END IF; RETURN n * fact(n - 1); END
abbrev pub factorial : Routine
factorial = Function true (Integer ∷ []) Integer false (begin NoVariable NoHandler
    (if_then (compares LessThanOrEquals (Variable 0) (number 1)) (Return (number 1) ∷ [])
    ∷ Return (times (Variable 0) (CallSelf (Integer ∷ []) (only (minus (Variable 0) (number 1)))))
    ∷ []))

-- fact(n), with so many turns
abbrev pub fact : ℕ → ℕ → Ends Value
fact n turns = applied_to factorial (int n) (world [] turns)

-- a turn for each activation, and at most 24 of them
pub record SelfCallsTakeTurns : Type 0 where
  pub enough : fact 5 5 ≡ Gives (int 120) (world [] 0)
  pub too_few : fact 5 4 ≡ RunsOut (world [] 0)
  pub twenty : fact 20 30 ≡ Gives (int 2432902008176640000) (world [] 10)
  pub out_of_range : fact 24 30 ≡ Raises (area_of NumberOutOfRange) (world [] 6)
  pub too_deep : fact 25 30 ≡ Raises (area_of RecursionTooDeep) (world [] 6)

-- down (INOUT n INTEGER): BEGIN IF n > 0 THEN SET n = n - 1; CALL down(n); SET n = n + 2; END IF;
-- END
abbrev pub down : Routine
down = Procedure true (parameter InoutMode Integer ∷ []) (begin NoVariable NoHandler
    (if_then (compares LessThan (number 0) (Variable 0))
    (set 0 (minus (Variable 0) (number 1)) ∷ CallItself (parameter InoutMode Integer ∷ [])
    (MoreTargets (integer 0) NoArgument) ∷ more_by 0 2 ∷ []) ∷ []))

-- the same of a procedure
pub record ProceduresCallThemselves : Type 0 where
  pub three : run_call down (MoreValues (number 3) NoArgument) (world [] 9)
      ≡ Gives (int 6 ∷ []) (world [] 5)
  pub too_deep : run_call down (MoreValues (number 24) NoArgument) (world [] 30)
      ≡ Raises (area_of RecursionTooDeep) (world [] 6)

-- with RETURNS NULL ON NULL INPUT the body isn't run, and no turn is taken
pub record NullOnNull : Type 0 where
  pub null : applied_to (Function true (Integer ∷ []) Integer true (Return zero_division)) Null
      (world [] 0) ≡ Gives Null (world [] 0)
  pub called : applied_to (Function false (Integer ∷ []) Integer false (Return (number 4))) Null
      empty ≡ Gives (int 4) empty
  pub not_null : applied_to (Function false (Integer ∷ []) Integer true (Return (number 4)))
      (int 1) empty ≡ Gives (int 4) empty
  -- f (x): RETURN COALESCE(f(NULL), 5): the self-call takes no turn
  pub itself : applied_to (Function true (Integer ∷ []) Integer true
      (Return (Coalesce (MoreExprs (CallSelf (Integer ∷ []) (only (Literal Null)))
      (only (number 5)))))) (int 1) (world [] 9) ≡ Gives (int 5) (world [] 8)

-- a function's value is assigned at the call: no handler of its body takes that
pub record ValueAssignedAtCall : Type 0 where
  pub refused : applied_to (Function false (Integer ∷ []) (Varchar 2) false
      (begin NoVariable (handler Exit SqlException (Return (words (codes "x"))))
      (Return (words (codes "abc")) ∷ []))) (int 1) empty
      ≡ Raises (area_of StringTooLong) empty

-- BEGIN CASE WHEN FALSE THEN SIGNAL SQLSTATE '45000'; END CASE; END
pub record CaseNotFound : Type 0 where
  pub raises : seen (run (begin NoVariable NoHandler
      (SearchedCase (MoreBranches (truth false) (seq (Signal (codes "45000") Without ∷ []))
      NoBranch) NoStmt ∷ [])) empty)
      ≡ (Raising case_not_found, empty)
  -- CASE x WHEN 1 THEN RETURN 5; ELSE RETURN 6; END CASE
  pub equal : applied_to (function
      (SimpleCase (Variable 0) (MoreBranches (number 1) (seq (Return (number 5) ∷ [])) NoBranch)
      (seq (Return (number 6) ∷ [])))) (int 1) empty ≡ Gives (int 5) empty
  pub unknown : applied_to (function
      (SimpleCase (Variable 0) (MoreBranches (number 1) (seq (Return (number 5) ∷ [])) NoBranch)
      (seq (Return (number 6) ∷ [])))) Null empty ≡ Gives (int 6) empty

-- p (x): r DEFAULT 7; SELECT a INTO r FROM t WHERE k = x; RETURN r
abbrev pub look_up : Routine
look_up = function (begin (declared (number 7) NoVariable) NoHandler
    (SelectInto (select (only (Column 0 1)) (codes "T")
    (only (compares Equals (Column 0 0) (Variable 0)))) (integer 1 ∷ []) ∷ Return (Variable 1)
    ∷ []))

-- the same with CONTINUE HANDLER FOR NOT FOUND SET r = -1
abbrev pub look_up_or : Routine
look_up_or = function (begin (declared (number 7) NoVariable)
    (handler Continue NotFound (set 1 (minus (number 0) (number 1))))
    (SelectInto (select (only (Column 0 1)) (codes "T")
    (only (compares Equals (Column 0 0) (Variable 0)))) (integer 1 ∷ []) ∷ Return (Variable 1)
    ∷ []))

-- one row, and none
pub record IntoAndNotFound : Type 0 where
  pub one : applied_to look_up (int 2) (with_three 1) ≡ Gives (int 10) (with_three 1)
  pub no_row : applied_to look_up (int 9) (with_three 1) ≡ Gives (int 7) (with_three 1)
  pub handled : applied_to look_up_or (int 9) (with_three 1) ≡ Gives (Int (negsuc 0)) (with_three 1)
  pub several : applied_to (function
      (begin (declared (number 7) NoVariable) NoHandler
      (SelectInto (select (only (Column 0 1)) (codes "T") none) (integer 1 ∷ []) ∷ [])))
      (int 9) (with_three 1) ≡ Raises (area_of SeveralRows) (with_three 1)

-- loops and their labels: r DEFAULT 0; statement; RETURN r
abbrev pub looped : List Stmt → Ends Value
looped ss = applied_to (function (begin (declared (number 0) NoVariable) NoHandler ss)) (int 0)
    (world [] 9)

-- RETURN r
abbrev pub back : Stmt
back = Return (Variable 1)

-- IF r = n THEN
abbrev pub at : ℕ → Stmt → Stmt
at n s = if_then (compares Equals (Variable 1) (number n)) (s ∷ [])

-- a loop or compound statement ends, or its next run starts. ISO/IEC 9075-4, 14.8 and 14.9
pub record LeaveAndIterate : Type 0 where
  -- l: LOOP SET r = r + 1; IF r = 2 THEN LEAVE l; END IF; END LOOP
  pub leave : looped (Loop (seq (more_by 1 1 ∷ at 2 (Leave 0) ∷ [])) ∷ back ∷ [])
      ≡ Gives (int 2) (world [] 7)
  -- l: WHILE r < 3 DO SET r = r + 1; ITERATE l; SET r = 9; END WHILE
  pub iterate : looped (While (compares LessThan (Variable 1) (number 3))
      (seq (more_by 1 1 ∷ Iterate 0 ∷ set 1 (number 9) ∷ [])) ∷ back ∷ [])
      ≡ Gives (int 3) (world [] 6)
  -- l: REPEAT SET r = r + 1; ITERATE l; UNTIL r = 2 END REPEAT: the test is evaluated
  pub iterate_repeat : looped
      (Repeat (seq (more_by 1 1 ∷ Iterate 0 ∷ [])) (compares Equals (Variable 1) (number 2)) ∷ back
      ∷ []) ≡ Gives (int 2) (world [] 7)
  -- l: LOOP m: LOOP SET r = r + 1; IF r = 1 THEN ITERATE l; END IF; LEAVE l; END LOOP; END LOOP
  pub outer : looped (Loop (seq (Loop (seq (more_by 1 1 ∷ at 1 (Iterate 1) ∷ Leave 1 ∷ [])) ∷ []))
      ∷ back ∷ []) ≡ Gives (int 2) (world [] 5)
  -- b: BEGIN SET r = 1; LEAVE b; SET r = 2; END
  pub compound : looped (begin NoVariable NoHandler (set 1 (number 1) ∷ Leave 0 ∷ set 1 (number 2)
      ∷ []) ∷ back ∷ []) ≡ Gives (int 1) (world [] 9)
