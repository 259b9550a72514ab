-- The arguments of CALL, one after another. ISO/IEC 9075-2, 10.4 (routine invocation).
use Rattle.std.specs.Prelude.{◌≡◌, List, [], ◌∷◌, ◌++◌, drop, Ok, Err}
use Rattle.sql_values.specs.declared.value.Value.{Value}
use Rattle.sql_values.specs.declared.value.Value.TheVariants.{Null}
use Rattle.sql_values.specs.declared.value.ValueFault.{ValueFault}
use Rattle.sql_conditions.specs.Conditions.{Area, area_of}
use Rattle.rel_algebra.specs.Tree.{Expr, Parameter, Target, Arguments, NoArgument, MoreValues}
use Rattle.rel_algebra.specs.Tree.{MoreTargets, MoreGiven}
use Rattle.rel_algebra.specs.World.{World, Frame, Ends, Eval, Gives, Raises, RunsOut, Called}
use Rattle.rel_algebra.specs.World.{condition_of, outcome, give, after, variable_of, ◌>>=◌}
use Rattle.rel_algebra.specs.Calls.{passed}
use Rattle.rel_algebra.specs.Meaning.{ev, argue}

-- the value of an argument, as the next parameter takes it
abbrev pub passing : Expr → List Parameter → Called → Frame → Eval Value
passing e ps self f = do
  v ← ev e self [] f
  outcome (passed ps v)

-- the arguments from one on, after these values
abbrev pub argued : List Value → Arguments → List Parameter → Called → Frame → World →
    Ends (List Value)
argued values args ps self f w = after (argue args ps self f w) (λ more. give (values ++ more))

-- arguments, from one on
pub record ArgumentsGoOn : Type 0 where
  -- as they start there is no value
  pub starts : (args : Arguments) (ps : List Parameter) (self : Called) (f : Frame) (w : World) →
      argued [] args ps self f w ≡ argue args ps self f w
  -- none is left
  pub none : (values : List Value) (args : Arguments) (ps : List Parameter) (self : Called)
      (f : Frame) (w : World) → args ≡ NoArgument → argued values args ps self f w ≡ Gives values w
  -- the value of an IN parameter
  pub gives : (values : List Value) (args : Arguments) (e : Expr) (more : Arguments)
      (ps : List Parameter) (self : Called) (f : Frame) (w u : World) (v : Value) →
      args ≡ MoreValues e more → passing e ps self f w ≡ Gives v u →
      argued values args ps self f w ≡ argued (values ++ v ∷ []) more (drop 1 ps) self f u
  -- it raises
  pub raises : (values : List Value) (args : Arguments) (e : Expr) (more : Arguments)
      (ps : List Parameter) (self : Called) (f : Frame) (w u : World) (area : Area) →
      args ≡ MoreValues e more → passing e ps self f w ≡ Raises area u →
      argued values args ps self f w ≡ Raises area u
  -- no turn is left
  pub runs_out : (values : List Value) (args : Arguments) (e : Expr) (more : Arguments)
      (ps : List Parameter) (self : Called) (f : Frame) (w u : World) →
      args ≡ MoreValues e more → passing e ps self f w ≡ RunsOut u →
      argued values args ps self f w ≡ RunsOut u
  -- the value of a variable, for an OUT or INOUT parameter
  pub variable : (values : List Value) (args : Arguments) (t : Target) (more : Arguments)
      (ps : List Parameter) (self : Called) (f : Frame) (w : World) (v : Value) →
      args ≡ MoreTargets t more → passed ps (variable_of t.slot f) ≡ Ok v →
      argued values args ps self f w ≡ argued (values ++ v ∷ []) more (drop 1 ps) self f w
  -- its parameter doesn't take it
  pub refused : (values : List Value) (args : Arguments) (t : Target) (more : Arguments)
      (ps : List Parameter) (self : Called) (f : Frame) (w : World) (fault : ValueFault) →
      args ≡ MoreTargets t more → passed ps (variable_of t.slot f) ≡ Err fault →
      argued values args ps self f w ≡ Raises (area_of (condition_of fault)) w
  -- the OUT value that is given back to a script starts as NULL
  pub given : (values : List Value) (args more : Arguments) (ps : List Parameter) (self : Called)
      (f : Frame) (w : World) → args ≡ MoreGiven more →
      argued values args ps self f w ≡ argued (values ++ Null ∷ []) more (drop 1 ps) self f w
