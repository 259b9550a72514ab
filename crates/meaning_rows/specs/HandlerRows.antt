-- Worked rows of handlers, which hold by computation. ISO/IEC 9075-4, 14.2 (handler declaration),
-- and 17.3 (resignal statement).
use Rattle.std.specs.Prelude.{ℕ, ◌≡◌, List, [], ◌∷◌, codes, Some, None}
use Rattle.sql_values.specs.declared.value.Value.TheVariants.{Null}
use Rattle.sql_conditions.specs.declared.condition.EngineCondition.TheVariants.{DivisionByZero}
use Rattle.sql_conditions.specs.Conditions.{area_of}
use Rattle.rel_algebra.specs.Tree.{Variable, Stmt, Routine, Return, Signal, Resignal, Leave}
use Rattle.rel_algebra.specs.Tree.{Without, With, Continue, Exit, State, SqlException, SqlWarning}
use Rattle.rel_algebra.specs.Tree.{NotFound, NoVariable, NoHandler}
use Rattle.rel_algebra.specs.States.{without_return}
use Rattle.rel_algebra.specs.World.{Gives, Raises}
use Rattle.meaning_rows.specs.Short.{int, number, words, over, plus, zero_division, set, more_by}
use Rattle.meaning_rows.specs.Short.{declared, handler, with_handler, begin, atomic, nothing}
use Rattle.meaning_rows.specs.Short.{function, applied_to, over_one, untold, empty}

-- r INTEGER DEFAULT 7; CONTINUE HANDLER FOR SQLEXCEPTION SET r = r + 1; SET r = 1 / x; RETURN r
abbrev pub counting : Routine
counting = function (begin (declared (number 7) NoVariable)
    (handler Continue SqlException (more_by 1 1))
    (set 1 (over (number 1) (Variable 0)) ∷ Return (Variable 1) ∷ []))

-- the action counts, and the SET stores nothing
pub record ContinueInFunction : Type 0 where
  pub zero : applied_to counting (int 0) empty ≡ Gives (int 8) empty
  pub one : applied_to counting (int 1) empty ≡ Gives (int 1) empty
  pub null : applied_to counting Null empty ≡ Gives Null empty

-- RETURN n / x
abbrev pub ratio : ℕ → Stmt
ratio n = Return (over (number n) (Variable 0))

-- RETURN n
abbrev pub returns : ℕ → Stmt
returns n = Return (number n)

-- EXIT HANDLER FOR SQLSTATE '22012' RETURN 1; BEGIN EXIT HANDLER FOR SQLEXCEPTION RETURN 2; RETURN
-- 10 / x; END
abbrev pub inner_first : Routine
inner_first = function (begin NoVariable (handler Exit (State (codes "22012")) (returns 1))
    (begin NoVariable (handler Exit SqlException (returns 2)) (ratio 10 ∷ []) ∷ []))

-- EXIT HANDLER FOR SQLEXCEPTION RETURN 2; EXIT HANDLER FOR SQLSTATE '22012' RETURN 1; RETURN 10 / x
abbrev pub named_first : Routine
named_first = function (begin NoVariable
    (with_handler Exit SqlException (returns 2) (handler Exit (State (codes "22012")) (returns 1)))
    (ratio 10 ∷ []))

-- the inner handler, and in one compound statement the one that names the state
pub record InnermostThenNamed : Type 0 where
  pub inner : applied_to inner_first (int 0) empty ≡ Gives (int 2) empty
  pub named : applied_to named_first (int 0) empty ≡ Gives (int 1) empty
  pub neither : applied_to named_first (int 1) empty ≡ Gives (int 10) empty

-- CONTINUE HANDLER FOR SQLEXCEPTION BEGIN END; RETURN 1 / x
abbrev pub no_return : Routine
no_return = function (begin NoVariable (handler Continue SqlException nothing) (ratio 1 ∷ []))

-- the end of the body is reached
pub record EndsWithoutReturn : Type 0 where
  pub raises : applied_to no_return (int 0) empty ≡ Raises without_return empty

-- EXIT HANDLER FOR SQLEXCEPTION action; RETURN 1 / x
abbrev pub exit_by : Stmt → Routine
exit_by action = function (begin NoVariable (handler Exit SqlException action) (ratio 1 ∷ []))

-- the conditions that the action handles, raised again
pub record Resignals : Type 0 where
  -- RESIGNAL SQLSTATE '45000' SET MESSAGE_TEXT = 'bad row'
  pub with_state : applied_to
      (exit_by (Resignal (Some (codes "45000")) (With (words (codes "bad row"))))) (int 0) empty
      ≡ Raises (over_one (codes "45000") (codes "bad row") (area_of DivisionByZero)) empty
  -- RESIGNAL SQLSTATE '45000'
  pub with_state_alone : applied_to (exit_by (Resignal (Some (codes "45000")) Without))
      (int 0) empty
      ≡ Raises (over_one (codes "45000") [] (area_of DivisionByZero)) empty
  -- RESIGNAL SET MESSAGE_TEXT = 'bad row'
  pub with_text : applied_to (exit_by (Resignal None (With (words (codes "bad row")))))
      (int 0) empty
      ≡ Raises (over_one (codes "22012") (codes "bad row") []) empty
  -- RESIGNAL
  pub again : applied_to (exit_by (Resignal None Without)) (int 0) empty
      ≡ Raises (area_of DivisionByZero) empty

-- r DEFAULT 0; CONTINUE HANDLER FOR SQLEXCEPTION SET r = r + 100; inner; SET r = r + 10; RETURN r
abbrev pub around : Stmt → Routine
around inner = function (begin (declared (number 0) NoVariable)
    (handler Continue SqlException (more_by 1 100))
    (inner ∷ more_by 1 10 ∷ Return (Variable 1) ∷ []))

-- SET r = 1 / x; SET r = r + 1
abbrev pub inside_it : List Stmt
inside_it = set 1 (over (number 1) (Variable 0)) ∷ more_by 1 1 ∷ []

-- CONTINUE goes on after the innermost statement that raised, which an ATOMIC compound statement is
-- as a whole
pub record ContinueInsideCompound : Type 0 where
  pub not_atomic : applied_to (around (begin NoVariable NoHandler inside_it)) (int 0) empty
      ≡ Gives (int 111) empty
  pub as_a_whole : applied_to (around (atomic NoVariable NoHandler inside_it)) (int 0) empty
      ≡ Gives (int 110) empty
  pub one : applied_to (around (begin NoVariable NoHandler inside_it)) (int 1) empty
      ≡ Gives (int 12) empty

-- y DEFAULT 1 / x; SET r = 5
abbrev pub default_raises : Stmt
default_raises = begin (declared (over (number 1) (Variable 0)) NoVariable)
    (handler Exit SqlException (set 1 (number 50))) (set 1 (number 5) ∷ [])

-- a default's condition is raised by its compound statement as a whole: its own handlers don't take
-- it
pub record DefaultRaises : Type 0 where
  pub outside : applied_to (around default_raises) (int 0) empty ≡ Gives (int 110) empty
  pub not_raised : applied_to (around default_raises) (int 1) empty ≡ Gives (int 15) empty

-- what no handler takes of the classes warning and no data is dropped
pub record UnhandledIsDropped : Type 0 where
  pub no_data : applied_to (function
      (begin NoVariable NoHandler (Signal (codes "02000") Without ∷ returns 3 ∷ []))) (int 0) empty
      ≡ Gives (int 3) empty
  pub warning : applied_to (function
      (begin NoVariable NoHandler (Signal (codes "01000") Without ∷ returns 3 ∷ []))) (int 0) empty
      ≡ Gives (int 3) empty
  pub general : applied_to (function (begin NoVariable (handler Exit SqlException (returns 4))
      (Signal (codes "02000") Without ∷ returns 3 ∷ []))) (int 0) empty
      ≡ Gives (int 3) empty
  pub taken : applied_to (function (begin NoVariable (handler Exit NotFound (returns 4))
      (Signal (codes "02000") Without ∷ returns 3 ∷ []))) (int 0) empty
      ≡ Gives (int 4) empty
  pub exception : applied_to
      (function (begin NoVariable (handler Exit SqlWarning (returns 4))
      (Signal (codes "45000") Without ∷ returns 3 ∷ []))) (int 0) empty
      ≡ Raises (untold (codes "45000")) empty

-- r DEFAULT 1; CONTINUE HANDLER FOR SQLEXCEPTION BEGIN s DEFAULT 1 / 0; SET r = 9; END; BEGIN y
-- DEFAULT 4; SET y = 1 / x; RETURN y * 1 + r; END
abbrev pub locals_aside : Routine
locals_aside = function (begin (declared (number 1) NoVariable)
    (handler Continue SqlException (begin (declared (number 30) NoVariable) NoHandler
    (set 1 (Variable 2) ∷ set 2 (number 70) ∷ [])))
    (begin (declared (number 4) NoVariable) NoHandler (set 2 (over (number 1) (Variable 0))
    ∷ Return (plus (Variable 2) (Variable 1)) ∷ []) ∷ []))

-- The variables of an action and those of the statement that raised have the same slots, and are
-- others.
pub record ActionsHaveTheirOwn : Type 0 where
  pub kept : applied_to locals_aside (int 0) empty ≡ Gives (int 34) empty

-- An action sees the handlers outside its compound statement alone.
-- EXIT HANDLER FOR SQLEXCEPTION RETURN 8; BEGIN EXIT HANDLER FOR SQLEXCEPTION RETURN 1 / 0; RETURN
-- 1 / x; END
pub record ActionsSeeOutside : Type 0 where
  pub outer : applied_to (function (begin NoVariable (handler Exit SqlException (returns 8))
      (begin NoVariable (handler Exit SqlException (Return zero_division)) (ratio 1 ∷ []) ∷ [])))
      (int 0) empty ≡ Gives (int 8) empty
  pub none_outside : applied_to
      (function (begin NoVariable (handler Exit SqlException (Return zero_division))
      (ratio 1 ∷ []))) (int 0) empty
      ≡ Raises (area_of DivisionByZero) empty

-- a: BEGIN BEGIN CONTINUE HANDLER FOR SQLEXCEPTION LEAVE a; BEGIN SET x = 1 / x; END; RETURN 1;
-- END; RETURN 2; END; RETURN 3
pub record ActionsLeave : Type 0 where
  pub outside : applied_to (function (begin NoVariable NoHandler
      (begin NoVariable NoHandler
      (begin NoVariable (handler Continue SqlException (Leave 1))
      (begin NoVariable NoHandler (set 0 (over (number 1) (Variable 0)) ∷ []) ∷ returns 1 ∷ [])
      ∷ returns 2 ∷ [])
      ∷ returns 3 ∷ []))) (int 0) empty ≡ Gives (int 3) empty
