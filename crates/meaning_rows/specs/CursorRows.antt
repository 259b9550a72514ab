-- Worked rows of cursors, FOR and diagnostics, which hold by computation. ISO/IEC 9075-2, 14.4 to
-- 14.6 and 23.1, and ISO/IEC 9075-4, 14.13 (for statement).
use Rattle.std.specs.Prelude.{ℕ, true, false, ◌≡◌, List, [], ◌∷◌, codes, Some, None}
use Rattle.sql_values.specs.declared.value.Value.{Value}
use Rattle.sql_values.specs.declared.value.Value.TheVariants.{Null, Str}
use Rattle.sql_values.specs.declared.value.SqlType.TheVariants.{Integer, Varchar, Boolean}
use Rattle.sql_values.specs.declared.operators.Comparison.TheVariants.{Equals}
use Rattle.rel_algebra.specs.Tree.{Column, Variable, Literal, Coalesce, Query, Stmt}
use Rattle.rel_algebra.specs.Tree.{Routine, Procedure, Set, Signal, Resignal}
use Rattle.rel_algebra.specs.Tree.{Without, With, Continue, Exit, SqlException, NotFound}
use Rattle.rel_algebra.specs.Tree.{NoVariable, MoreVariables, NoHandler, Handlers, Compound}
use Rattle.rel_algebra.specs.Tree.{Variables, Loop, For, Leave, Iterate, Open, Fetch, Close, Delete}
use Rattle.rel_algebra.specs.Tree.{Insert, OutMode, MoreGiven}
use Rattle.rel_algebra.specs.Tree.{NoArgument, GetStatementItems, GetConditionItems, Current}
use Rattle.rel_algebra.specs.Tree.{Stacked, Number, RowCount, ReturnedSqlstate, MessageText}
use Rattle.rel_algebra.specs.Tree.{StatementRead, ConditionRead, StatementItem, ConditionItem}
use Rattle.rel_algebra.specs.Tree.{WhichArea, Target, CallProcedure}
use Rattle.rel_algebra.specs.States.{invalid_cursor, invalid_number}
use Rattle.rel_algebra.specs.States.{not_stacked, not_active, null_text}
use Rattle.rel_algebra.specs.World.{World, Ends, Gives, Raises}
use Rattle.rel_algebra.specs.Doing.{Raising}
use Rattle.rel_algebra.specs.Meaning.{run, run_call}
use Rattle.meaning_rows.specs.Short.{int, number, truth, words, over, plus, compares, zero_division}
use Rattle.meaning_rows.specs.Short.{integer, boolean, varchar, only, two, none, set, more_by, seq}
use Rattle.meaning_rows.specs.Short.{handler, begin, nothing, if_then}
use Rattle.meaning_rows.specs.Short.{select, parameter, world, empty}
use Rattle.meaning_rows.specs.Short.{with_three, t_of, row_of, seen, untold}

-- BEGIN with cursors
abbrev pub with_cursors : ℕ → Variables → Handlers → List Stmt → Stmt
with_cursors n variables handlers ss = Compound false variables n handlers (seq ss)

-- SELECT column FROM t
abbrev pub column_of : ℕ → Query
column_of i = select (only (Column 0 i)) (codes "T") none

-- OPEN of a cursor over the column A
abbrev pub open_a : Stmt
open_a = Open 0 (column_of 1)

-- cur (OUT s INTEGER): v INTEGER; done BOOLEAN DEFAULT FALSE; c1 CURSOR FOR SELECT a FROM t;
-- CONTINUE HANDLER FOR NOT FOUND SET done = TRUE; SET s = 0; OPEN c1; l: LOOP FETCH c1 INTO v; IF
-- done THEN LEAVE l; END IF; SET s = s + COALESCE(v, 1); END LOOP l; CLOSE c1; and perhaps more
abbrev pub summing : List Stmt → Routine
summing more = Procedure false (parameter OutMode Integer ∷ [])
    (with_cursors 1 (MoreVariables 1 Integer Without
    (MoreVariables 1 Boolean (With (truth false)) NoVariable))
    (handler Continue NotFound (Set (boolean 2) (truth true)))
    (set 0 (number 0) ∷ open_a
    ∷ Loop (seq (Fetch 0 (integer 1 ∷ []) ∷ if_then (Variable 2) (Leave 0 ∷ [])
    ∷ set 0 (plus (Variable 0) (Coalesce (two (Variable 1) (number 1)))) ∷ []))
    ∷ Close 0 ∷ more))

-- what a CALL gives of a procedure with one OUT parameter
abbrev pub given : Routine → World → Ends (List Value)
given r = run_call r (MoreGiven NoArgument)

-- NULL counts 1
pub record CursorSum : Type 0 where
  pub sum : given (summing []) (with_three 9) ≡ Gives (int 11 ∷ []) (with_three 5)
  pub closed_twice : given (summing (Close 0 ∷ [])) (with_three 9)
      ≡ Raises invalid_cursor (with_three 5)

-- s (OUT s INTEGER), with these statements
abbrev pub giving : Stmt → Routine
giving s = Procedure false (parameter OutMode Integer ∷ []) s

-- each row in turn
pub record ForLoops : Type 0 where
  -- SET s = 0; FOR r AS SELECT k, a FROM t DO SET s = s + COALESCE(r.a, r.k); END FOR
  pub sum : given (giving (begin NoVariable NoHandler (set 0 (number 0)
      ∷ For (select (two (Column 0 0) (Column 0 1)) (codes "T") none)
      (seq (set 0 (plus (Variable 0) (Coalesce (two (Variable 2) (Variable 1)))) ∷ [])) ∷ [])))
      (with_three 9)
      ≡ Gives (int 11 ∷ []) (with_three 6)
  -- the answer is made at its start: FOR r AS SELECT k FROM t DO DELETE FROM t; SET s = k; END FOR
  pub of_its_start : given (giving
      (For (column_of 0) (seq (Delete (codes "T")
      (select (two (Column 0 0) (Column 0 1)) (codes "T") none) ∷ set 0 (Variable 1) ∷ []))))
      (with_three 9)
      ≡ Gives (int 3 ∷ []) (world (t_of [] ∷ []) 6)
  -- ITERATE takes the next row
  pub iterates : given (giving
      (For (column_of 0) (seq (set 0 (Variable 1) ∷ Iterate 0 ∷ set 0 (number 9) ∷ []))))
      (with_three 9) ≡ Gives (int 3 ∷ []) (with_three 6)

-- closed and open
pub record CursorStates : Type 0 where
  -- OPEN c1; DELETE FROM t; FETCH c1 INTO v: the rows are those at OPEN
  pub of_open : given (giving
      (with_cursors 1 NoVariable NoHandler (Open 0 (column_of 0)
      ∷ Delete (codes "T") (select (two (Column 0 0) (Column 0 1)) (codes "T") none)
      ∷ Fetch 0 (integer 0 ∷ []) ∷ [])))
      (with_three 1) ≡ Gives (int 1 ∷ []) (world (t_of [] ∷ []) 1)
  pub opened_twice : given (giving (with_cursors 1 NoVariable NoHandler (open_a ∷ open_a ∷ [])))
      (with_three 1) ≡ Raises invalid_cursor (with_three 1)
  pub fetched_closed : given
      (giving (with_cursors 1 NoVariable NoHandler (Fetch 0 (integer 0 ∷ []) ∷ []))) (with_three 1)
      ≡ Raises invalid_cursor (with_three 1)
  -- its query raises, and it stays closed: CONTINUE HANDLER FOR SQLEXCEPTION SET s = 5; OPEN c1;
  -- CLOSE c1
  pub stays_closed : given (giving
      (with_cursors 1 NoVariable (handler Exit SqlException (set 0 (number 5)))
      (Open 0 (row_of (only zero_division)) ∷ Close 0 ∷ []))) (with_three 1)
      ≡ Gives (int 5 ∷ []) (with_three 1)
  -- closed as its compound statement ends, in whatever way: it can be opened in the next run of the
  -- loop
  pub closed_at_end : given
      (giving (begin NoVariable NoHandler (set 0 (number 0)
      ∷ Loop (seq (with_cursors 1 NoVariable NoHandler
      (Open 0 (column_of 0) ∷ more_by 0 1 ∷ if_then (compares Equals (Variable 0) (number 2))
      (Leave 1 ∷ []) ∷ Iterate 1 ∷ []) ∷ [])) ∷ []))) (with_three 9)
      ≡ Gives (int 2 ∷ []) (with_three 7)
  -- a FETCH whose storing is refused has moved on: s INTEGER; v VARCHAR(1) DEFAULT 'a'; CONTINUE
  -- HANDLER FOR SQLEXCEPTION BEGIN END
  pub moved_on : given (giving
      (with_cursors 1 (MoreVariables 1 (Varchar 1) (With (words (codes "a"))) NoVariable)
      (handler Continue SqlException nothing)
      (Open 0 (row_of (only (words (codes "bc")))) ∷ Fetch 0 (varchar 1 1 ∷ [])
      ∷ Fetch 0 (varchar 1 1 ∷ []) ∷ set 0 (number 4) ∷ []))) (with_three 1)
      ≡ Gives (int 4 ∷ []) (with_three 1)
  -- an action's cursor and that of the statement that raised have one slot, and are two
  pub actions_have_their_own : given
      (giving (with_cursors 0 NoVariable
      (handler Continue SqlException
      (with_cursors 1 NoVariable NoHandler (Open 0 (column_of 0) ∷ [])))
      (with_cursors 1 NoVariable NoHandler (Open 0 (column_of 0) ∷ Fetch 0 (integer 0 ∷ [])
      ∷ Signal (codes "45000") Without ∷ Fetch 0 (integer 0 ∷ []) ∷ []) ∷ []))) (with_three 1)
      ≡ Gives (int 2 ∷ []) (with_three 1)

-- ---- diagnostics

-- an item into a variable
abbrev pub reads : StatementItem → Target → StatementRead
reads item target = record { item = item; target = target }

-- an item of a condition into a variable
abbrev pub reads_of : ConditionItem → Target → ConditionRead
reads_of item target = record { item = item; target = target }

-- GET which DIAGNOSTICS CONDITION n s = RETURNED_SQLSTATE
abbrev pub state_into : WhichArea → ℕ → Target → Stmt
state_into which n target =
    GetConditionItems which (number n) (reads_of ReturnedSqlstate target ∷ [])

-- dg (OUT s VARCHAR(5), OUT n INTEGER): EXIT HANDLER FOR SQLEXCEPTION GET STACKED DIAGNOSTICS
-- CONDITION n s = RETURNED_SQLSTATE; SET n = 1 / 0
abbrev pub diagnosing : ℕ → Routine
diagnosing n = Procedure false (parameter OutMode (Varchar 5) ∷ parameter OutMode Integer ∷ [])
    (begin NoVariable (handler Exit SqlException (state_into Stacked n (varchar 5 0)))
    (set 1 zero_division ∷ []))

-- what an action reads
pub record StackedDiagnostics : Type 0 where
  pub first : run_call (diagnosing 1) (MoreGiven (MoreGiven NoArgument)) empty
      ≡ Gives (Str (codes "22012") ∷ Null ∷ []) empty
  pub second : run_call (diagnosing 2) (MoreGiven (MoreGiven NoArgument)) empty
      ≡ Raises invalid_number empty
  -- DECLARE n INTEGER; GET STACKED DIAGNOSTICS n = NUMBER
  pub no_action : seen (run (begin (MoreVariables 1 Integer Without NoVariable) NoHandler
      (GetStatementItems Stacked (reads Number (integer 0) ∷ []) ∷ [])) empty)
      ≡ (Raising not_stacked, empty)
  -- the number is not looked at before
  pub tested_first : seen (run (begin (MoreVariables 1 Integer Without NoVariable) NoHandler
      (state_into Stacked 9 (integer 0) ∷ [])) empty) ≡ (Raising not_stacked, empty)
  pub resignal : seen (run (begin NoVariable NoHandler (Resignal None Without ∷ [])) empty)
      ≡ (Raising not_active, empty)
  -- the state isn't looked at before: RESIGNAL SET MESSAGE_TEXT = NULL
  pub resignal_first : seen
      (run (begin NoVariable NoHandler (Resignal None (With (Literal Null)) ∷ [])) empty)
      ≡ (Raising not_active, empty)
  pub signal : seen (run (begin NoVariable NoHandler (Signal (codes "45000") Without ∷ [])) empty)
      ≡ (Raising (untold (codes "45000")), empty)
  pub null : seen (run (begin NoVariable NoHandler (Signal (codes "45000") (With (Literal Null))
      ∷ [])) empty) ≡ (Raising null_text, empty)
  -- a routine that an action calls doesn't stand in its text
  pub called : seen (run (begin NoVariable
      (handler Exit SqlException
      (CallProcedure (codes "P") (Procedure false [] (Resignal None Without)) NoArgument))
      (Signal (codes "45000") Without ∷ [])) empty)
      ≡ (Raising not_active, empty)

-- (OUT s VARCHAR(9), OUT n INTEGER), with these handlers and statements
abbrev pub telling : Handlers → List Stmt → Ends (List Value)
telling handlers ss = run_call
    (Procedure false (parameter OutMode (Varchar 9) ∷ parameter OutMode Integer ∷ [])
    (begin NoVariable handlers ss)) (MoreGiven (MoreGiven NoArgument)) (with_three 1)

-- what is given back
abbrev pub told : Value → Value → Ends (List Value)
told s n = Gives (s ∷ n ∷ []) (with_three 1)

-- GET DIAGNOSTICS CONDITION 1 s = RETURNED_SQLSTATE; GET DIAGNOSTICS n = ROW_COUNT
abbrev pub tell : List Stmt
tell = state_into Current 1 (varchar 9 0) ∷ GetStatementItems Current (reads RowCount (integer 1)
    ∷ []) ∷ []

-- DELETE FROM t WHERE k = 9; INSERT of as many rows as T has
abbrev pub copies : List Stmt → List Stmt
copies more = Insert (codes "T") None (select (two (plus (Column 0 0) (number 3)) (Column 0 1))
    (codes "T") none)
    ∷ Delete (codes "T") (select (two (Column 0 0) (Column 0 1)) (codes "T")
    (only (compares Equals (over (Column 0 0) (number 4)) (number 1)))) ∷ more

-- the state of the first condition, and ROW_COUNT
pub record CurrentDiagnostics : Type 0 where
  -- at the start of a routine
  pub at_start : telling NoHandler tell ≡ told (Str (codes "00000")) (int 0)
  -- INSERT of three rows and DELETE of three; GET itself changes nothing
  pub rows : telling NoHandler (copies tell) ≡ told (Str (codes "00000")) (int 3)
  -- and SET sets ROW_COUNT to 0
  pub after_set : telling NoHandler (copies (set 1 (number 5) ∷ tell))
      ≡ told (Str (codes "00000")) (int 0)
  -- no row is met: no handler, and the list goes on
  pub no_row : telling NoHandler
      (Delete (codes "T") (select (two (Column 0 0) (Column 0 1)) (codes "T") (only (truth false)))
      ∷ tell) ≡ told (Str (codes "02000")) (int 0)
  -- at the start of an action, and after its end
  pub in_action : telling (handler Continue SqlException (begin NoVariable NoHandler tell))
      (Signal (codes "45000") Without ∷ []) ≡ told (Str (codes "45000")) (int 0)
  pub after_action : telling (handler Continue SqlException nothing) (Signal (codes "45000") Without
      ∷ tell) ≡ told (Str (codes "00000")) (int 0)
  -- all items are converted, and then stored: MESSAGE_TEXT is too long for s, and n stays NULL
  pub all_or_none : telling
      (handler Exit SqlException (begin NoVariable (handler Exit SqlException nothing)
      (GetConditionItems Stacked (number 1) (reads_of ReturnedSqlstate (varchar 9 0)
      ∷ reads_of MessageText (varchar 3 0) ∷ []) ∷ []))) (set 1 zero_division ∷ [])
      ≡ told Null Null
  -- RESIGNAL SQLSTATE '45000' in an inner action: the outer one sees two conditions, and the first
  -- is 45000
  pub two_conditions : telling
      (handler Exit SqlException
      (begin NoVariable NoHandler (GetStatementItems Stacked (reads Number (integer 1) ∷ [])
      ∷ state_into Stacked 1 (varchar 9 0) ∷ [])))
      (begin NoVariable (handler Exit SqlException (Resignal (Some (codes "45000")) Without))
      (set 1 zero_division ∷ []) ∷ []) ≡ told (Str (codes "45000")) (int 2)
