-- Worked rows: functions that return NULL on NULL input, by their CASE.
use Rattle.std.specs.Prelude.{ℕ, ◌≡◌, pos, List, [], ◌∷◌}
use Rattle.sql_values.specs.declared.operators.Operator.TheVariants.{Divide}
use Rattle.sql_values.specs.declared.value.Value.{Value}
use Rattle.sql_values.specs.declared.value.Value.TheVariants.{Null, Int}
use Rattle.sql_values.specs.declared.value.SqlType.TheVariants.{Integer}
use Rattle.sql_conditions.specs.Conditions.{area_of}
use Rattle.sql_conditions.specs.declared.condition.EngineCondition.TheVariants.{DivisionByZero}
use Rattle.bound_trees.specs.declared.expr.BoundExpr.{BoundExpr}
use Rattle.bound_trees.specs.declared.expr.BoundExpr.TheVariants as bound
use Rattle.bound_trees.specs.declared.expr.BoundOperation.TheVariants as word
use Rattle.rel_algebra.specs.Tree.{Literal, Variable, Chain, NoLink, MoreLinks, Returned}
use Rattle.rel_algebra.specs.World.{World, Ends, Gives, Raises}
use Rattle.rel_algebra.specs.Meaning.{call}
use Rattle.null_guards.specs.Guards.{guarded, guarded_tree}

-- a number
abbrev pub number : ℕ → Value
number n = Int (pos n)

-- RETURN 7 of two parameters
abbrev pub seven : List Value → World → Ends Value
seven = call (Returned (Integer ∷ Integer ∷ []) Integer (guarded_tree 2 (Literal (number 7))))

-- RETURN 1 / y of two parameters, of which y is the second
abbrev pub inverse : List Value → World → Ends Value
inverse = call (Returned (Integer ∷ Integer ∷ []) Integer (guarded_tree 2
    (Chain (Literal (number 1)) (MoreLinks Divide (Variable 1) NoLink))))

-- RETURN 7 without parameters
abbrev pub alone : List Value → World → Ends Value
alone = call (Returned [] Integer (guarded_tree 0 (Literal (number 7))))

-- which calls give NULL
pub record NullCalls : Type 0 where
  -- with NULL as one argument, as the other, as both, and as none
  pub first_null : (w : World) → seven (Null ∷ number 1 ∷ []) w ≡ Gives Null w
  pub second_null : (w : World) → seven (number 1 ∷ Null ∷ []) w ≡ Gives Null w
  pub both_null : (w : World) → seven (Null ∷ Null ∷ []) w ≡ Gives Null w
  pub none_null : (w : World) → seven (number 1 ∷ number 2 ∷ []) w ≡ Gives (number 7) w
  -- where one is NULL the body is not evaluated
  pub not_evaluated : (w : World) → inverse (Null ∷ number 0 ∷ []) w ≡ Gives Null w
  pub evaluated : (w : World) →
      inverse (number 1 ∷ number 0 ∷ []) w ≡ Raises (area_of DivisionByZero) w
  -- without parameters nothing is asked
  pub no_parameters : (w : World) → alone [] w ≡ Gives (number 7) w
  -- the bound trees of one, two and no parameters
  pub of_one : (e : BoundExpr) → guarded 1 e ≡ bound.Operation word.Case
      (bound.Operation word.Or (bound.Operation word.NullTest (bound.Variable 0 ∷ []) ∷ [])
      ∷ bound.Literal Null ∷ e ∷ [])
  pub of_two : (e : BoundExpr) → guarded 2 e ≡ bound.Operation word.Case
      (bound.Operation word.Or (bound.Operation word.NullTest (bound.Variable 0 ∷ []) ∷
      bound.Operation word.NullTest (bound.Variable 1 ∷ []) ∷ []) ∷ bound.Literal Null ∷ e ∷ [])
  pub of_none : (e : BoundExpr) → guarded 0 e ≡ e
