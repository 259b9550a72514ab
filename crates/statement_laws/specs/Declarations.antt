-- The variables of a compound statement, one declaration after another. ISO/IEC 9075-4, 14.1
-- (compound statement) and 14.3 (SQL variable declaration).
use Rattle.std.specs.Prelude.{ℕ, ◌≡◌, [], replicate}
use Rattle.sql_values.specs.declared.value.Value.{Value}
use Rattle.sql_values.specs.declared.value.Value.TheVariants.{Null}
use Rattle.sql_values.specs.declared.value.SqlType.{SqlType}
use Rattle.sql_values.specs.Casts.{assigned}
use Rattle.sql_conditions.specs.Conditions.{Area}
use Rattle.rel_algebra.specs.Tree.{Expr, Variables, NoVariable, MoreVariables, Without, With}
use Rattle.rel_algebra.specs.World.{World, Frame, Eval, Gives, Raises, RunsOut, Called, outcome}
use Rattle.rel_algebra.specs.World.{unit, ◌>>=◌}
use Rattle.rel_algebra.specs.Doing.{with_more}
use Rattle.rel_algebra.specs.Meaning.{ev, declare}

-- the value of a default, as its variables take it: a unit
abbrev pub default_of : SqlType → Expr → Called → Frame → Eval Value
default_of t e self f = unit (do
  x ← ev e self [] f
  outcome (assigned t x))

-- declarations, from one on
pub record DeclarationsGoOn : Type 0 where
  -- none is left
  pub none : (vs : Variables) (self : Called) (f : Frame) (w : World) → vs ≡ NoVariable →
      declare vs self f w ≡ Gives f w
  -- variables without a default are NULL
  pub nulls : (vs : Variables) (n : ℕ) (t : SqlType) (more : Variables) (self : Called)
      (f : Frame) (w : World) → vs ≡ MoreVariables n t Without more →
      declare vs self f w ≡ declare more self (with_more (replicate n Null) f) w
  -- each of the others has the default's value
  pub defaults : (vs : Variables) (n : ℕ) (t : SqlType) (e : Expr) (more : Variables)
      (self : Called) (f : Frame) (w u : World) (v : Value) →
      vs ≡ MoreVariables n t (With e) more → default_of t e self f w ≡ Gives v u →
      declare vs self f w ≡ declare more self (with_more (replicate n v) f) u
  -- a default raises
  pub raises : (vs : Variables) (n : ℕ) (t : SqlType) (e : Expr) (more : Variables)
      (self : Called) (f : Frame) (w u : World) (area : Area) →
      vs ≡ MoreVariables n t (With e) more → default_of t e self f w ≡ Raises area u →
      declare vs self f w ≡ Raises area u
  -- no turn is left
  pub runs_out : (vs : Variables) (n : ℕ) (t : SqlType) (e : Expr) (more : Variables)
      (self : Called) (f : Frame) (w u : World) →
      vs ≡ MoreVariables n t (With e) more → default_of t e self f w ≡ RunsOut u →
      declare vs self f w ≡ RunsOut u
