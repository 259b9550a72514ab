-- Worked rows of where CONTINUE goes on, which hold by computation: after the innermost statement
-- that raised, and for a test, the query of FOR or a RETURN after the whole IF, CASE, loop or
-- RETURN. ISO/IEC 9075-4, 14.2 (handler declaration).
use Rattle.std.specs.Prelude.{ℕ, true, false, ◌≡◌, [], ◌∷◌, codes}
use Rattle.sql_values.specs.declared.value.SqlType.TheVariants.{Integer}
use Rattle.rel_algebra.specs.Tree.{Variable, Stmt, NoStmt, Return, Signal, Without}
use Rattle.rel_algebra.specs.Tree.{Continue, SqlException, NoVariable, NoHandler, If}
use Rattle.rel_algebra.specs.Tree.{SearchedCase, SimpleCase, MoreBranches, NoBranch, Loop, While}
use Rattle.rel_algebra.specs.Tree.{Repeat, For, Leave, SelectInto, CallProcedure, Procedure}
use Rattle.rel_algebra.specs.Tree.{InMode, MoreValues, NoArgument}
use Rattle.rel_algebra.specs.World.{Gives, Ends}
use Rattle.sql_values.specs.declared.value.Value.{Value}
use Rattle.meaning_rows.specs.Short.{int, number, truth, over, minus, compares}
use Rattle.meaning_rows.specs.Short.{zero_division, integer, only, set, more_by, seq}
use Rattle.meaning_rows.specs.Short.{declared, handler, begin, atomic, nothing, function}
use Rattle.meaning_rows.specs.Short.{applied_to, parameter, world}
use Rattle.meaning_rows.specs.Short.{row_of}
use Rattle.sql_values.specs.declared.operators.Comparison.TheVariants.{Equals}

-- r DEFAULT 0; CONTINUE HANDLER FOR SQLEXCEPTION SET r = r + 100; statement; SET r = r + 1; RETURN
-- r
abbrev pub goes_on : Stmt → Ends Value
goes_on s = applied_to (function
    (begin (declared (number 0) NoVariable) (handler Continue SqlException (more_by 1 100))
    (s ∷ more_by 1 1 ∷ Return (Variable 1) ∷ []))) (int 0) (world [] 9)

-- a value, with so many turns left
abbrev pub gives : ℕ → ℕ → Ends Value
gives n turns = Gives (int n) (world [] turns)

-- SET r = r + 10
abbrev pub ten : Stmt
ten = more_by 1 10

-- 101 where it goes on after the statement, more where it goes on inside it
pub record ContinuePlaces : Type 0 where
  -- SET r = 1 / 0
  pub of_set : goes_on (set 1 zero_division) ≡ gives 101 9
  -- BEGIN SET r = 1 / 0; SET r = r + 10; END
  pub of_inner : goes_on (begin NoVariable NoHandler (set 1 zero_division ∷ ten ∷ [])) ≡ gives 111 9
  -- BEGIN ATOMIC SET r = 1 / 0; SET r = r + 10; END
  pub of_atomic : goes_on (atomic NoVariable NoHandler (set 1 zero_division ∷ ten ∷ []))
      ≡ gives 101 9
  -- BEGIN DECLARE y INTEGER DEFAULT 1 / 0; SET r = r + 10; END
  pub of_default : goes_on (begin (declared zero_division NoVariable) NoHandler (ten ∷ []))
      ≡ gives 101 9
  -- IF 1 / 0 = 1 THEN SET r = r + 10; ELSE SET r = r + 10; END IF
  pub of_if : goes_on (If (MoreBranches (compares Equals zero_division (number 1))
      (seq (ten ∷ [])) NoBranch) (seq (ten ∷ []))) ≡ gives 101 9
  -- IF FALSE THEN SET r = r + 10; ELSEIF 1 / 0 = 1 THEN SET r = r + 10; ELSE SET r = r + 10; END IF
  pub of_elseif : goes_on (If
      (MoreBranches (truth false) (seq (ten ∷ []))
      (MoreBranches (compares Equals zero_division (number 1)) (seq (ten ∷ [])) NoBranch))
      (seq (ten ∷ [])))
      ≡ gives 101 9
  -- IF TRUE THEN SET r = 1 / 0; SET r = r + 10; END IF: what raised is inside
  pub in_if : goes_on (If (MoreBranches (truth true) (seq (set 1 zero_division ∷ ten ∷ []))
      NoBranch) NoStmt) ≡ gives 111 9
  -- CASE WHEN 1 / 0 = 1 THEN SET r = r + 10; ELSE SET r = r + 10; END CASE
  pub of_case : goes_on (SearchedCase (MoreBranches (compares Equals zero_division (number 1))
      (seq (ten ∷ [])) NoBranch) (seq (ten ∷ []))) ≡ gives 101 9
  -- CASE 1 / 0 WHEN 1 THEN SET r = r + 10; ELSE SET r = r + 10; END CASE
  pub of_operand : goes_on (SimpleCase zero_division
      (MoreBranches (number 1) (seq (ten ∷ [])) NoBranch) (seq (ten ∷ []))) ≡ gives 101 9
  -- CASE 1 WHEN 1 / 0 THEN SET r = r + 10; ELSE SET r = r + 10; END CASE
  pub of_when : goes_on (SimpleCase (number 1)
      (MoreBranches zero_division (seq (ten ∷ [])) NoBranch) (seq (ten ∷ []))) ≡ gives 101 9
  -- CASE WHEN FALSE THEN SET r = r + 10; END CASE
  pub of_no_case : goes_on (SearchedCase (MoreBranches (truth false) (seq (ten ∷ [])) NoBranch)
      NoStmt) ≡ gives 101 9
  -- WHILE 1 / 0 = 1 DO SET r = r + 10; END WHILE
  pub of_while : goes_on (While (compares Equals zero_division (number 1)) (seq (ten ∷ [])))
      ≡ gives 101 9
  -- WHILE 1 / (2 - r) = 1 DO .. with r from 1 on: the second test raises, after one run
  pub of_second_test : goes_on
      (begin NoVariable NoHandler (set 1 (number 1)
      ∷ While (compares Equals (over (number 1) (minus (number 2) (Variable 1))) (number 1))
      (seq (more_by 1 1 ∷ [])) ∷ []))
      ≡ gives 103 8
  -- REPEAT SET r = r + 10; UNTIL 1 / 0 = 1 END REPEAT
  pub of_until : goes_on (Repeat (seq (ten ∷ [])) (compares Equals zero_division (number 1)))
      ≡ gives 111 8
  -- b: LOOP SET r = 1 / 0; SET r = r + 10; LEAVE b; END LOOP: what raised is inside
  pub in_loop : goes_on (Loop (seq (set 1 zero_division ∷ ten ∷ Leave 0 ∷ []))) ≡ gives 111 8
  -- FOR c AS VALUES (1 / 0) DO SET r = r + 10; END FOR
  pub of_for : goes_on (For (row_of (only zero_division)) (seq (ten ∷ []))) ≡ gives 101 9
  -- RETURN 1 / 0
  pub of_return : goes_on (Return zero_division) ≡ gives 101 9
  -- SIGNAL SQLSTATE '45000'
  pub of_signal : goes_on (Signal (codes "45000") Without) ≡ gives 101 9
  -- CALL of BEGIN SET x = 1 / 0; SET x = 2; END: the call raises, and goes on after it
  pub of_call : goes_on (CallProcedure (codes "P")
      (Procedure false (parameter InMode Integer ∷ [])
      (begin NoVariable NoHandler (set 0 zero_division ∷ set 0 (number 2) ∷ [])))
      (MoreValues (number 1) NoArgument)) ≡ gives 101 9
  -- and in the arguments of a CALL
  pub of_argument : goes_on
      (CallProcedure (codes "P") (Procedure false (parameter InMode Integer ∷ []) nothing)
      (MoreValues zero_division NoArgument)) ≡ gives 101 9
  -- SELECT 1 / 0 INTO r FROM (VALUES (1))
  pub of_into : goes_on (SelectInto (row_of (only zero_division)) (integer 1 ∷ [])) ≡ gives 101 9
