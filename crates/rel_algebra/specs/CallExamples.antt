-- Worked rows of calls whose arguments and results are cut or refused, which hold by computation:
-- what each gives by itself, and by its plan.
use Rattle.std.specs.Prelude.{ℕ, ◌≡◌, List, [], ◌∷◌, codes}
use Rattle.sql_values.specs.declared.value.Value.TheVariants.{Null, Str}
use Rattle.sql_values.specs.declared.value.SqlType.{SqlType}
use Rattle.sql_values.specs.declared.value.SqlType.TheVariants.{Integer, Varchar}
use Rattle.sql_conditions.specs.declared.condition.EngineCondition.TheVariants.{DivisionByZero}
use Rattle.sql_conditions.specs.declared.condition.EngineCondition.TheVariants.{StringTooLong}
use Rattle.rel_algebra.specs.Tree.{Assign, Call, CaseOf, Expr, Exprs, Returned, Routine, Variable}
use Rattle.rel_algebra.specs.Plan.{Scalar, argument, constant, extend, keep, strict, unit_row, word}
use Rattle.rel_algebra.specs.Emit.{routine_plan}
use Rattle.rel_algebra.specs.Joins.{table_width}
use Rattle.rel_algebra.specs.PlanExamples.{col, guarded, int, number, one, only, planned_as, row_of}
use Rattle.rel_algebra.specs.PlanExamples.{tables, two}
use Rattle.rel_algebra.specs.WordExamples.{Computes, Refuses, inverse_of_zero, text, unknown}

-- a function that only returns an expression
abbrev pub function : List SqlType → SqlType → Expr → Routine
function types returns e = Returned types returns e

-- a call of it, by some name
abbrev pub call : Routine → Exprs → Expr
call r es = Call (codes "F") r es

-- short (x VARCHAR(2)) RETURNS VARCHAR(5): RETURN x
abbrev pub short : Routine
short = function (Varchar 2 ∷ []) (Varchar 5) (Variable 0)

-- shortened (x VARCHAR(5)) RETURNS VARCHAR(2): RETURN x
abbrev pub shortened : Routine
shortened = function (Varchar 5 ∷ []) (Varchar 2) (Variable 0)

-- unread (x VARCHAR(2)) RETURNS INTEGER: RETURN 1
abbrev pub unread : Routine
unread = function (Varchar 2 ∷ []) Integer (number 1)

-- text_first (x VARCHAR(2), y INTEGER), number_first (y INTEGER, x VARCHAR(2)): RETURN 1
abbrev pub text_first : Routine
text_first = function (Varchar 2 ∷ Integer ∷ []) Integer (number 1)

-- a function of a number and a text
abbrev pub number_first : Routine
number_first = function (Integer ∷ Varchar 2 ∷ []) Integer (number 1)

-- 'abc'
abbrev pub abc : Expr
abc = text (codes "abc")

-- assigned to VARCHAR(n)
abbrev pub cut : ℕ → Scalar → Scalar
cut n s = word (strict (Assign (Varchar n))) (only s)

-- worked rows of calls, by the meaning and by plans. 9.2 (store assignment) and 10.4 (routine
-- invocation)
pub record CallsAssign : Type 0 where
  -- short('ab'), short('ab   '), short(NULL), short('abc')
  pub fits : Computes (call short (one (text (codes "ab")))) (Str (codes "ab"))
  -- spaces that are too many are cut
  pub argument_cut : Computes (call short (one (text (codes "ab   ")))) (Str (codes "ab"))
  -- NULL stands
  pub no_text : Computes (call short (one unknown)) Null
  -- a longer text raises 22001
  pub argument_refused : Refuses (call short (one abc)) StringTooLong
  -- shortened('ab '), shortened('abc')
  pub result_cut : Computes (call shortened (one (text (codes "ab ")))) (Str (codes "ab"))
  -- the same of the result
  pub result_refused : Refuses (call shortened (one abc)) StringTooLong
  -- a cell that nothing reads: unread('abc') raises, but for CASE 2 WHEN 1 THEN unread('abc') ELSE
  -- 5 END
  pub unread_refused : Refuses (call unread (one abc)) StringTooLong
  -- an argument of a call that is not reached raises nothing
  pub not_called : Computes (CaseOf (number 2) (number 1) (call unread (one abc)) (one (number 5)))
      (int 5)
  -- the first argument is assigned before the second is evaluated
  pub text_before : Refuses (call text_first (two abc inverse_of_zero)) StringTooLong
  -- an argument that raises goes before one that is refused
  pub number_before : Refuses (call number_first (two inverse_of_zero abc)) DivisionByZero
  -- Unit; Extend assign(VARCHAR(2), 'abc'); Extend case(.., assign(VARCHAR(5), #0)); Keep #1: a
  -- literal that may be refused is guarded
  pub call_plan : planned_as (row_of (one (call short (one abc))))
      ≡ keep (1 ∷ []) (extend (only (guarded 0 (cut 5 (col 0))))
      (extend (only (cut 2 (constant (Str (codes "abc"))))) unit_row))
  -- Unit; Extend assign(VARCHAR(2), $0); Keep #0
  pub own_plan : routine_plan shortened (table_width tables)
      ≡ keep (0 ∷ []) (extend (only (cut 2 (argument 0))) unit_row)
