-- Worked rows of words over values of all types, which hold by computation: what each gives by
-- itself, and by its plan.
use Rattle.std.specs.Prelude.{ℕ, true, false, negsuc, ◌≡◌, List, [], ◌∷◌, codes, Ok, Err}
use Rattle.sql_values.specs.declared.value.Value.{Value}
use Rattle.sql_values.specs.declared.value.Value.TheVariants.{Null, Int, Str, Bool as Truth}
use Rattle.sql_values.specs.declared.value.SqlType.TheVariants.{Integer, Varchar, Boolean}
use Rattle.sql_values.specs.declared.operators.Operator.TheVariants.{Concatenate}
use Rattle.sql_values.specs.declared.operators.Comparison.TheVariants.{LessThan}
use Rattle.sql_conditions.specs.declared.condition.EngineCondition.{EngineCondition}
use Rattle.sql_conditions.specs.declared.condition.EngineCondition.TheVariants.{DivisionByZero}
use Rattle.sql_conditions.specs.declared.condition.EngineCondition.TheVariants.{StringTooLong}
use Rattle.sql_conditions.specs.declared.condition.EngineCondition.TheVariants.{SubstringError}
use Rattle.sql_conditions.specs.declared.condition.EngineCondition.TheVariants.{InvalidTextForCast}
use Rattle.sql_conditions.specs.Conditions.{area_of}
use Rattle.rel_algebra.specs.Tree.{Operation, AnyOf, Assign, Cast, CharLength, Comparing, Modulo}
use Rattle.rel_algebra.specs.Tree.{Substring, Expr, Literal, MoreExprs, Operate, And, CaseOf}
use Rattle.rel_algebra.specs.Tree.{Coalesce}
use Rattle.rel_algebra.specs.World.{Raises}
use Rattle.rel_algebra.specs.Meaning.{ask}
use Rattle.rel_algebra.specs.PlanExamples.{one, two, row_of, int, number, arithmetic, over, same}
use Rattle.rel_algebra.specs.PlanExamples.{world, runs, value, has_kinds}

-- VALUES of the expression has this one value
abbrev pub Computes : Expr → Value → Type 0
Computes e v = (ask (row_of (one e)) world ≡ value v) × (runs (row_of (one e)) ≡ Ok ((v ∷ []) ∷ []))

-- VALUES of the expression raises this condition
abbrev pub Refuses : Expr → EngineCondition → Type 0
Refuses e c = (ask (row_of (one e)) world ≡ Raises (area_of c) world)
    × (runs (row_of (one e)) ≡ Err (area_of c))

-- a text
abbrev pub text : List ℕ → Expr
text s = Literal (Str s)

-- -(n + 1)
abbrev pub below_zero : ℕ → Expr
below_zero n = Literal (Int (negsuc n))

-- NULL
abbrev pub unknown : Expr
unknown = Literal Null

-- an operation on one operand
abbrev pub on_one : Operation → Expr → Expr
on_one op x = Operate op (one x)

-- on two
abbrev pub on_two : Operation → Expr → Expr → Expr
on_two op x y = Operate op (two x y)

-- on three
abbrev pub on_three : Operation → Expr → Expr → Expr → Expr
on_three op x y z = Operate op (MoreExprs x (two y z))

-- 1 / 0
abbrev pub inverse_of_zero : Expr
inverse_of_zero = over (number 1) (number 0)

-- worked rows of words, by the meaning and by plans. 6.12, 6.13, 6.27, 6.28, 6.32, 6.39, 8.2, 8.4
-- and 9.2
pub record WordsWorked : Type 0 where
  -- 'ab' || 'c', 'ab' || NULL
  pub joined : Computes (arithmetic Concatenate (text (codes "ab")) (text (codes "c")))
      (Str (codes "abc"))
  -- || with NULL is NULL
  pub joined_null : Computes (arithmetic Concatenate (text (codes "ab")) unknown) Null
  -- 'ab' < 'abc', 'a' = 'a '
  pub prefix_first : Computes (on_two (Comparing LessThan) (text (codes "ab")) (text (codes "abc")))
      (Truth true)
  -- texts are compared without padding
  pub no_padding : Computes (same (text (codes "a")) (text (codes "a "))) (Truth false)
  -- MOD(-7, 3), MOD(7, 0)
  pub remainder : Computes (on_two Modulo (below_zero 6) (number 3)) (Int (negsuc 0))
  -- MOD by zero raises
  pub no_divisor : Refuses (on_two Modulo (number 7) (number 0)) DivisionByZero
  -- CHAR_LENGTH('abc'), CHAR_LENGTH(NULL)
  pub length : Computes (on_one CharLength (text (codes "abc"))) (int 3)
  -- the length of NULL is NULL
  pub no_length : Computes (on_one CharLength unknown) Null
  -- SUBSTRING('abcde' FROM 2 FOR 3), SUBSTRING('abcde' FROM 4), SUBSTRING('abcde' FROM -1 FOR 3),
  -- SUBSTRING('abcde' FROM 1 FOR -1)
  pub part : Computes (on_three Substring (text (codes "abcde")) (number 2) (number 3))
      (Str (codes "bcd"))
  -- SUBSTRING without a length takes the rest
  pub rest : Computes (on_two Substring (text (codes "abcde")) (number 4)) (Str (codes "de"))
  -- one that begins before the text
  pub before : Computes (on_three Substring (text (codes "abcde")) (below_zero 0) (number 3))
      (Str (codes "a"))
  -- a length below zero raises
  pub no_part : Refuses (on_three Substring (text (codes "abcde")) (number 1) (below_zero 0))
      SubstringError
  -- CAST(' -12 ' AS INTEGER), CAST('1x' AS INTEGER), CAST('abc' AS VARCHAR(2)), CAST(123 AS
  -- VARCHAR(2)), CAST('unknown' AS BOOLEAN)
  pub spelled : Computes (on_one (Cast Integer) (text (codes " -12 "))) (Int (negsuc 11))
  -- a text that spells no number raises
  pub not_spelled : Refuses (on_one (Cast Integer) (text (codes "1x"))) InvalidTextForCast
  -- CAST to a shorter VARCHAR cuts
  pub cut : Computes (on_one (Cast (Varchar 2)) (text (codes "abc"))) (Str (codes "ab"))
  -- a number that does not fit raises
  pub no_room : Refuses (on_one (Cast (Varchar 2)) (number 123)) StringTooLong
  -- 'unknown' is NULL
  pub unknown_word : Computes (on_one (Cast Boolean) (text (codes "unknown"))) Null
  -- 'ab ' and 'abc' given to a target of VARCHAR(2)
  pub assigned : Computes (on_one (Assign (Varchar 2)) (text (codes "ab "))) (Str (codes "ab"))
  -- assignment of a longer text raises
  pub not_assigned : Refuses (on_one (Assign (Varchar 2)) (text (codes "abc"))) StringTooLong
  -- 1 IN (NULL, 1), 2 IN (NULL, 1), 2 IN (3, 1), NULL IN (1, 2)
  pub is_among : Computes (on_three AnyOf (number 1) unknown (number 1)) (Truth true)
  -- unknown where an item is NULL and none before is equal
  pub may_be_among : Computes (on_three AnyOf (number 2) unknown (number 1)) Null
  -- none is equal
  pub not_among : Computes (on_three AnyOf (number 2) (number 3) (number 1)) (Truth false)
  -- NULL is among nothing that is known
  pub null_among : Computes (on_three AnyOf unknown (number 1) (number 2)) Null
  -- FALSE AND 1 / 0 = 1, CASE 2 WHEN 1 THEN 1 / 0 ELSE 5 END, COALESCE(3, 1 / 0)
  pub decided : Computes (And (two (Literal (Truth false)) (same inverse_of_zero (number 1))))
      (Truth false)
  -- a result that is not taken raises nothing
  pub not_taken : Computes (CaseOf (number 2) (number 1) inverse_of_zero (one (number 5))) (int 5)
  -- COALESCE looks no further
  pub not_needed : Computes (Coalesce (two (number 3) inverse_of_zero)) (int 3)
  -- 'a' || CAST(1 AS VARCHAR(9)), SUBSTRING('a' FROM MOD(3, 2) FOR CHAR_LENGTH('b')); and 'a' || 1,
  -- CAST(1 AS BOOLEAN), 'a' = 1
  pub kinds_fit : has_kinds
      (row_of (two (arithmetic Concatenate (text (codes "a"))
      (on_one (Cast (Varchar 9)) (number 1)))
      (on_three Substring (text (codes "a")) (on_two Modulo (number 3) (number 2))
      (on_one CharLength (text (codes "b")))))) ≡ true
  -- || wants texts
  pub number_is_no_text : has_kinds
      (row_of (one (arithmetic Concatenate (text (codes "a")) (number 1)))) ≡ false
  -- a number is cast to no truth value
  pub number_is_no_truth : has_kinds (row_of (one (on_one (Cast Boolean) (number 1)))) ≡ false
  -- a text is compared with no number
  pub kinds_differ : has_kinds (row_of (one (same (text (codes "a")) (number 1)))) ≡ false
