-- What calls pass, and how they end. ISO/IEC 9075-2, 10.4 (routine invocation), 15.1 (call
-- statement) and 15.2 (return statement).
use Rattle.std.specs.Prelude.{Bool, ◌&&◌, if◌then◌else◌, List, [], ◌∷◌}
use Rattle.std.specs.List.{list_any}
use Rattle.sql_values.specs.declared.value.Value.{Value}
use Rattle.sql_values.specs.declared.value.Value.TheVariants.{Null}
use Rattle.sql_values.specs.declared.value.SqlType.{SqlType}
use Rattle.sql_values.specs.Values.{Outcome as Assigned, is_null}
use Rattle.sql_values.specs.Casts.{assigned}
use Rattle.std.specs.Prelude.{Ok}
use Rattle.rel_algebra.specs.Tree.{Target, Mode, InMode, OutMode, InoutMode, Parameter, Arguments}
use Rattle.rel_algebra.specs.Tree.{NoArgument, MoreValues, MoreTargets, MoreGiven}
use Rattle.rel_algebra.specs.States.{without_return}
use Rattle.rel_algebra.specs.World.{Frame, Ends, RunsOut, Eval, give, outcome, raise_area, Called}
use Rattle.rel_algebra.specs.World.{Calling}
use Rattle.rel_algebra.specs.Doing.{Outcome, Returning, Raising, Spent, End, Doing, take_values}
use Rattle.rel_algebra.specs.Doing.{storing}
use Rattle.rel_algebra.specs.Handlers.{Scopes, with_called, with_value}

-- ---- parameters

-- the value that a parameter takes; one of OUT starts as NULL
abbrev pub passed_by : Mode → SqlType → Value → Assigned
passed_by InMode t v = assigned t v
passed_by OutMode t v = Ok Null
passed_by InoutMode t v = assigned t v

-- the value that the next parameter takes
abbrev pub passed : List Parameter → Value → Assigned
passed [] v = Ok v
passed (p ∷ ps) v = passed_by p.mode p.data_type v

-- one value more, where it goes back
abbrev pub back_by : Mode → Value → List Value → List Value
back_by InMode v vs = vs
back_by OutMode v vs = v ∷ vs
back_by InoutMode v vs = v ∷ vs

-- the values of the OUT and INOUT parameters, which have the first slots
abbrev pub outs_of : List Parameter → List Value → List Value
outs_of [] vs = []
outs_of (p ∷ ps) [] = []
outs_of (p ∷ ps) (v ∷ vs) = back_by p.mode v (outs_of ps vs)

-- the variables into which they are stored
abbrev pub targets_of : Arguments → List Target
targets_of NoArgument = []
targets_of (MoreValues e more) = targets_of more
targets_of (MoreTargets t more) = t ∷ targets_of more
targets_of (MoreGiven more) = targets_of more

-- ---- how bodies end

-- a function's value is assigned to its type when the body has ended
abbrev pub returned_or : SqlType → Outcome → Eval Value
returned_or t (Returning v) = outcome (assigned t v)
returned_or t (Raising area) = raise_area area
returned_or t Spent = λ w. RunsOut w
returned_or t _ = raise_area without_return

-- how a call of a function ends, by the end of its body. 15.2 (return statement)
abbrev pub returned : SqlType → End → Ends Value
returned t e = returned_or t e.outcome e.world

-- the values that a procedure gives back, by how its body ends; an exception gives none back. 15.1
-- (call statement)
abbrev pub given_or : List Parameter → Outcome → Frame → Eval (List Value)
given_or ps (Raising area) f = raise_area area
given_or ps Spent f = λ w. RunsOut w
given_or ps _ f = give (outs_of ps f.variables)

-- how a call of a procedure ends, by the end of its body. 15.1 (call statement)
abbrev pub given_back : List Parameter → End → Ends (List Value)
given_back ps e = given_or ps e.outcome e.frame e.world

-- RETURNS NULL ON NULL INPUT
abbrev pub null_or : Bool → Called → Called
null_or null_call go values = if null_call && list_any is_null values then give Null else go values

-- ---- CALL

-- The arguments are a unit; what the procedure did stays, also where it raises; all values that
-- come back are converted, and then stored.
abbrev pub calling : Scopes → (Frame → Eval (List Value)) → Calling → List Target → Doing
calling scopes arguments procedure targets =
    with_value scopes arguments (λ values. with_called scopes (λ f. procedure values) (λ outs.
    with_called scopes (λ f. take_values targets outs) (storing targets)))
