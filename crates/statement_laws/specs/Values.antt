-- How a statement goes on from the end of an evaluation: with what it gives, with the conditions
-- that it raises, or without a turn left. ISO/IEC 9075-4, 4.8 (conditions).
use Rattle.std.specs.Prelude.{◌≡◌, List, Option, true, false, ℕ}
use Rattle.sql_values.specs.declared.value.Value.{Value}
use Rattle.sql_values.specs.Values.{is_true}
use Rattle.sql_conditions.specs.Conditions.{Area}
use Rattle.row_types.specs.Rows.{Row}
use Rattle.rel_algebra.specs.World.{World, Frame, Eval, Gives, Raises, RunsOut, unit, choose}
use Rattle.rel_algebra.specs.Doing.{Doing, Spent, ends}
use Rattle.rel_algebra.specs.Handlers.{Scopes, failing, with_called, with_value}

-- a statement that evaluates something of this type, which keeps what it wrote
pub record CalledGoesOn (A : Type 0) : Type 0 where
  -- it goes on with what is given
  pub gives : (scopes : Scopes) (e : Frame → Eval A) (go : A → Doing) (f : Frame) (w u : World)
      (a : A) → e f w ≡ Gives a u → with_called scopes e go f w ≡ go a f u
  -- it raises what is raised
  pub raises : (scopes : Scopes) (e : Frame → Eval A) (go : A → Doing) (f : Frame) (w u : World)
      (area : Area) → e f w ≡ Raises area u → with_called scopes e go f w ≡ failing scopes area f u
  -- it ends where no turn is left
  pub runs_out : (scopes : Scopes) (e : Frame → Eval A) (go : A → Doing) (f : Frame)
      (w u : World) → e f w ≡ RunsOut u → with_called scopes e go f w ≡ ends Spent f u

-- the same where what is evaluated is a unit
pub record ValueGoesOn (A : Type 0) : Type 0 where
  -- it goes on with what is given
  pub gives : (scopes : Scopes) (e : Frame → Eval A) (go : A → Doing) (f : Frame) (w u : World)
      (a : A) → unit (e f) w ≡ Gives a u → with_value scopes e go f w ≡ go a f u
  -- it raises what is raised
  pub raises : (scopes : Scopes) (e : Frame → Eval A) (go : A → Doing) (f : Frame) (w u : World)
      (area : Area) → unit (e f) w ≡ Raises area u →
      with_value scopes e go f w ≡ failing scopes area f u
  -- it ends where no turn is left
  pub runs_out : (scopes : Scopes) (e : Frame → Eval A) (go : A → Doing) (f : Frame)
      (w u : World) → unit (e f) w ≡ RunsOut u → with_value scopes e go f w ≡ ends Spent f u

-- what follows a test's value
pub record TestGoesOn : Type 0 where
  -- one way where it is true
  pub is : (v : Value) (go rest : Doing) → is_true v ≡ true → choose v go rest ≡ go
  -- and the other where it is not
  pub is_not : (v : Value) (go rest : Doing) → is_true v ≡ false → choose v go rest ≡ rest

-- of each type that statements evaluate
pub record EvaluationsGoOn : Type 0 where
  pub called_values : CalledGoesOn (List Value)
  pub value : ValueGoesOn Value
  pub perhaps : ValueGoesOn (Option Value)
  pub values : ValueGoesOn (List Value)
  pub rows : ValueGoesOn (List Row)
  pub number : ValueGoesOn ℕ
  pub found : ValueGoesOn (Option (List Value))
  pub test : TestGoesOn
