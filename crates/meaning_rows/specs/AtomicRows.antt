-- Worked rows of ATOMIC compound statements, UNDO and units, which hold by computation. ISO/IEC
-- 9075-4, 14.1 (compound statement) and 14.2 (handler declaration).
use Rattle.std.specs.Prelude.{ℕ, true, false, ◌≡◌, List, [], ◌∷◌, codes, None}
use Rattle.sql_values.specs.declared.value.SqlType.TheVariants.{Integer}
use Rattle.sql_values.specs.declared.operators.Comparison.TheVariants.{Equals}
use Rattle.sql_conditions.specs.declared.condition.EngineCondition.TheVariants.{ConstraintViolated}
use Rattle.sql_conditions.specs.Conditions.{area_of}
use Rattle.row_types.specs.Rows.{Row}
use Rattle.rel_algebra.specs.Tree.{Column, Variable, Call, Expr, Stmt, Routine}
use Rattle.rel_algebra.specs.Tree.{Procedure, Return, Signal, Without, With, Continue, Exit, Undo}
use Rattle.rel_algebra.specs.Tree.{State, SqlException, NoVariable, NoHandler, Loop}
use Rattle.rel_algebra.specs.Tree.{Insert, Grouped, Table, Count}
use Rattle.rel_algebra.specs.Tree.{Leave, SelectInto, CallProcedure, InMode, MoreValues, NoArgument}
use Rattle.rel_algebra.specs.Tree.{For, While}
use Rattle.rel_algebra.specs.States.{one_condition}
use Rattle.rel_algebra.specs.World.{World}
use Rattle.rel_algebra.specs.Doing.{Next, Raising, Spent}
use Rattle.rel_algebra.specs.Meaning.{run}
use Rattle.meaning_rows.specs.Short.{int, number, truth, words, plus, compares, zero_division}
use Rattle.meaning_rows.specs.Short.{integer, only, two, none, set, seq, declared, handler}
use Rattle.meaning_rows.specs.Short.{begin, atomic, nothing, insert, delete_where}
use Rattle.meaning_rows.specs.Short.{select, parameter, function, world}
use Rattle.meaning_rows.specs.Short.{one_column, single, pair, t_of, row_of, seen}

-- A and AUDIT
abbrev pub with_audit : List Row → List Row → World
with_audit rows audits = world (one_column (codes "A") rows ∷ one_column (codes "AUDIT") audits
    ∷ []) 5

-- INSERT INTO audit SELECT COUNT(*) FROM a
abbrev pub audit : Stmt
audit = Insert (codes "AUDIT") None (Grouped (Table (codes "A")) none 0 (only (truth true))
    (Count ∷ []) none (only (Column 0 0)))

-- INSERT INTO a VALUES (n)
abbrev pub into_a : ℕ → Stmt
into_a n = insert (codes "A") (only (number n))

-- DELETE FROM a WHERE k = n
abbrev pub out_of_a : ℕ → Stmt
out_of_a n = delete_where (only (Column 0 0)) (codes "A")
    (only (compares Equals (Column 0 0) (number n)))

-- the rows of A are as at the start before AUDIT takes their number
pub record UndoTakesBackFirst : Type 0 where
  pub undone : seen (run (atomic NoVariable (handler Undo SqlException audit) (into_a 2 ∷ out_of_a 1
      ∷ into_a 2 ∷ [])) (with_audit (single 1 ∷ []) []))
      ≡ (Next, with_audit (single 1 ∷ []) (single 1 ∷ []))
  -- EXIT in its place keeps them
  pub exited : seen (run (atomic NoVariable (handler Exit SqlException audit) (into_a 2 ∷ out_of_a 1
      ∷ into_a 2 ∷ [])) (with_audit (single 1 ∷ []) []))
      ≡ (Next, with_audit (single 2 ∷ []) (single 1 ∷ []))
  -- an inner ATOMIC compound statement that raises is undone, and then the outer one
  pub nested : seen (run (atomic NoVariable (handler Undo (State (codes "23000")) audit)
      (into_a 2 ∷ atomic NoVariable NoHandler (into_a 3 ∷ into_a 3 ∷ []) ∷ []))
      (with_audit (single 1 ∷ []) []))
      ≡ (Next, with_audit (single 1 ∷ []) (single 1 ∷ []))
  -- an action that raises undoes its ATOMIC compound statement, and what it did
  pub action_raises : seen (run
      (atomic NoVariable (handler Exit SqlException
      (begin NoVariable NoHandler (into_a 7 ∷ into_a 7 ∷ []))) (into_a 2 ∷ into_a 2 ∷ []))
      (with_audit (single 1 ∷ []) []))
      ≡ (Raising (area_of ConstraintViolated), with_audit (single 1 ∷ []) [])

-- INSERT INTO t VALUES (9, 9); SIGNAL SQLSTATE '45000' SET MESSAGE_TEXT = 'x'
abbrev pub insert_and_signal : List Stmt
insert_and_signal = insert (codes "T") (two (number 9) (number 9))
    ∷ Signal (codes "45000") (With (words (codes "x"))) ∷ []

-- the insertion stays in a compound statement that is not ATOMIC
pub record AtomicBlockAndSignal : Type 0 where
  pub kept : seen (run (begin NoVariable NoHandler insert_and_signal) (world (t_of [] ∷ []) 1))
      ≡ (
        Raising (one_condition (codes "45000") (codes "x")),
        world (t_of (pair 9 (int 9) ∷ []) ∷ []) 1,
      )
  pub undone : seen (run (atomic NoVariable NoHandler insert_and_signal) (world (t_of [] ∷ []) 1))
      ≡ (Raising (one_condition (codes "45000") (codes "x")), world (t_of [] ∷ []) 1)
  -- an outer handler doesn't see inside it, and takes what it raises as a whole
  pub taken : seen (run (begin NoVariable (handler Continue SqlException nothing)
      (atomic NoVariable NoHandler insert_and_signal ∷ [])) (world (t_of [] ∷ []) 1))
      ≡ (Next, world (t_of [] ∷ []) 1)
  -- RETURN and LEAVE undo nothing
  pub left : seen (run (atomic NoVariable NoHandler (insert (codes "T") (two (number 9) (number 9))
      ∷ Leave 0 ∷ [])) (world (t_of [] ∷ []) 1))
      ≡ (Next, world (t_of (pair 9 (int 9) ∷ []) ∷ []) 1)

-- EXIT HANDLER FOR SQLEXCEPTION SIGNAL SQLSTATE '45000'; INSERT INTO t VALUES (4, 4); l: LOOP
-- INSERT INTO t VALUES (5, 5); DELETE FROM t WHERE k = 5;
abbrev pub endless : Stmt
endless = begin NoVariable (handler Exit SqlException (Signal (codes "45000") Without))
    (insert (codes "T") (two (number 4) (number 4))
    ∷ Loop (seq (insert (codes "T") (two (number 5) (number 5))
    ∷ delete_where (two (Column 0 0) (Column 0 1)) (codes "T")
    (only (compares Equals (Column 0 0) (number 5))) ∷ [])) ∷ [])

-- no handler takes that no turn is left; the script takes the changes back
pub record NoTurnLeft : Type 0 where
  pub none : seen (run endless (world (t_of [] ∷ []) 0))
      ≡ (Spent, world (t_of (pair 4 (int 4) ∷ []) ∷ []) 0)
  pub seven : seen (run endless (world (t_of [] ∷ []) 7))
      ≡ (Spent, world (t_of (pair 4 (int 4) ∷ []) ∷ []) 0)

-- wr (x): BEGIN INSERT INTO a VALUES (x); RETURN x; END
abbrev pub writer : Routine
writer = function (begin NoVariable NoHandler (insert (codes "A") (only (Variable 0))
    ∷ Return (Variable 0) ∷ []))

-- wr(n)
abbrev pub writes : ℕ → Expr
writes n = Call (codes "WR") writer (only (number n))

-- wr(n) + 1 / 0
abbrev pub writes_and_raises : ℕ → Expr
writes_and_raises n = plus (writes n) zero_division

-- CONTINUE HANDLER FOR SQLEXCEPTION BEGIN END; statements
abbrev pub going_on : List Stmt → Stmt
going_on ss = begin (declared (number 0) NoVariable) (handler Continue SqlException nothing) ss

-- A with these rows
abbrev pub of_a : List Row → World
of_a rows = world (one_column (codes "A") rows ∷ []) 5

-- What raises is a unit: the tables are as before it, and what stands before it stays.
pub record UnitsTakeBack : Type 0 where
  -- SET r = wr(1); SET r = wr(2) + 1 / 0
  pub of_set : seen (run (going_on (set 0 (writes 1) ∷ set 0 (writes_and_raises 2) ∷ [])) (of_a []))
      ≡ (Next, of_a (single 1 ∷ []))
  -- DECLARE r DEFAULT wr(1); DECLARE s DEFAULT wr(2) + 1 / 0: each default is a unit, and the
  -- compound statement raises
  pub of_default : seen (run
      (going_on (begin (declared (writes 1) (declared (writes_and_raises 2) NoVariable)) NoHandler
      [] ∷ [])) (of_a [])) ≡ (Next, of_a (single 1 ∷ []))
  -- the same ATOMIC
  pub of_atomic_default : seen
      (run (going_on (atomic (declared (writes 1) (declared (writes_and_raises 2) NoVariable))
      NoHandler [] ∷ [])) (of_a [])) ≡ (Next, of_a [])
  -- WHILE wr(2) + 1 / 0 = 1 DO END WHILE
  pub of_test : seen (run (going_on (set 0 (writes 1)
      ∷ While (compares Equals (writes_and_raises 2) (number 1)) (seq (nothing ∷ [])) ∷ []))
      (of_a [])) ≡ (Next, of_a (single 1 ∷ []))
  -- FOR c AS VALUES (wr(2) + 1 / 0) DO
  pub of_for : seen (run (going_on (set 0 (writes 1) ∷ For (row_of (only (writes_and_raises 2)))
      (seq (nothing ∷ [])) ∷ [])) (of_a [])) ≡ (Next, of_a (single 1 ∷ []))
  -- SELECT wr(2) + 1 / 0 INTO r
  pub of_into : seen (run (going_on (set 0 (writes 1)
      ∷ SelectInto (row_of (only (writes_and_raises 2))) (integer 0 ∷ []) ∷ [])) (of_a []))
      ≡ (Next, of_a (single 1 ∷ []))
  -- INSERT INTO a VALUES (wr(2)), which stands then already: the writer's row goes too
  pub of_insert : seen (run (going_on (insert (codes "A") (only (writes 2)) ∷ [])) (of_a []))
      ≡ (Next, of_a [])
  -- CALL p(wr(2) + 1 / 0)
  pub of_argument : seen (run
      (going_on (CallProcedure (codes "P") (Procedure false (parameter InMode Integer ∷ []) nothing)
      (MoreValues (writes_and_raises 2) NoArgument) ∷ [])) (of_a []))
      ≡ (Next, of_a [])
  -- CALL of a procedure that raises keeps what its statements did
  pub not_of_call : seen (run
      (going_on (CallProcedure (codes "P")
      (Procedure false [] (begin NoVariable NoHandler (into_a 1 ∷ set 0 zero_division ∷ [])))
      NoArgument ∷ [])) (of_a []))
      ≡ (Next, of_a (single 1 ∷ []))
  -- SELECT wr(k) INTO r FROM t WHERE FALSE: no row is no exception
  pub no_row : seen (run (going_on
      (SelectInto (select (only (Column 0 0)) (codes "A")
      (only (compares Equals (writes 2) (number 3)))) (integer 0 ∷ []) ∷ []))
      (of_a (single 1 ∷ [])))
      ≡ (Next, of_a (single 1 ∷ single 2 ∷ []))
