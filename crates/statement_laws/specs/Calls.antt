-- CALL in three steps, routines that call themselves, and how bodies end. ISO/IEC 9075-2, 10.4
-- (routine invocation), 15.1 (call statement) and 15.2 (return statement).
use Rattle.std.specs.Prelude.{ℕ, ◌≡◌, ◌-◌, suc, Bool, true, false, List, ◌&&◌}
use Rattle.std.specs.List.{list_any}
use Rattle.sql_values.specs.declared.value.Value.{Value}
use Rattle.sql_values.specs.declared.value.Value.TheVariants.{Null}
use Rattle.sql_values.specs.declared.value.SqlType.{SqlType}
use Rattle.sql_values.specs.Values.{is_null}
use Rattle.sql_conditions.specs.declared.condition.EngineCondition.TheVariants.{RecursionTooDeep}
use Rattle.sql_conditions.specs.Conditions.{Area, area_of}
use Rattle.rel_algebra.specs.Tree.{Parameter, Target, Stmt, Function, Procedure}
use Rattle.rel_algebra.specs.States.{success}
use Rattle.rel_algebra.specs.World.{World, Frame, Ends, Eval, Gives, Raises, RunsOut, Answering}
use Rattle.rel_algebra.specs.World.{Called, Calling, unit, turn, with_active, activation, call_of}
use Rattle.rel_algebra.specs.World.{most_active, no_self, no_again, frame_of}
use Rattle.rel_algebra.specs.Doing.{End, Outcome, Next, Spent, ends, take_values, put_in}
use Rattle.rel_algebra.specs.Doing.{with_diagnostics}
use Rattle.rel_algebra.specs.Handlers.{Scopes, failing}
use Rattle.rel_algebra.specs.Calls.{null_or, calling, returned, returned_or, given_back, given_or}
use Rattle.rel_algebra.specs.Meaning.{Context, start_of, does, call, perform}

-- ---- CALL

-- its arguments, what the procedure does, and the values that come back
pub record CallGoesOn (scopes : Scopes) (arguments : Frame → Eval (List Value))
    (procedure : Calling) (targets : List Target) (f : Frame) (w : World) : Type 0 where
  -- an argument raises
  pub raises : (u : World) (area : Area) → unit (arguments f) w ≡ Raises area u →
      calling scopes arguments procedure targets f w ≡ failing scopes area f u
  pub runs_out : (u : World) → unit (arguments f) w ≡ RunsOut u →
      calling scopes arguments procedure targets f w ≡ ends Spent f u
  -- the procedure raises: what it did stays
  pub raises_inside : (u v : World) (values : List Value) (area : Area) →
      unit (arguments f) w ≡ Gives values u → procedure values u ≡ Raises area v →
      calling scopes arguments procedure targets f w ≡ failing scopes area f v
  pub runs_out_inside : (u v : World) (values : List Value) →
      unit (arguments f) w ≡ Gives values u → procedure values u ≡ RunsOut v →
      calling scopes arguments procedure targets f w ≡ ends Spent f v
  -- a variable doesn't take its value: none is stored
  pub refused : (u v x : World) (values outs : List Value) (area : Area) →
      unit (arguments f) w ≡ Gives values u → procedure values u ≡ Gives outs v →
      take_values targets outs v ≡ Raises area x →
      calling scopes arguments procedure targets f w ≡ failing scopes area f x
  -- all values are stored
  pub stored : (u v x : World) (values outs taken : List Value) →
      unit (arguments f) w ≡ Gives values u → procedure values u ≡ Gives outs v →
      take_values targets outs v ≡ Gives taken x →
      calling scopes arguments procedure targets f w ≡
      ends Next (with_diagnostics success 0 (put_in targets taken f)) x

-- each CALL goes on so
abbrev pub CallsGoOn : Type 0
CallsGoOn = (scopes : Scopes) (arguments : Frame → Eval (List Value)) (procedure : Calling)
    (targets : List Target) (f : Frame) (w : World) →
    CallGoesOn scopes arguments procedure targets f w

-- ---- routines that call themselves

-- a routine that calls itself, by its body
pub record ActivationGoesOn (A : Type 0) : Type 0 where
  -- there is no room
  pub full : (body : Answering A → Answering A) (values : List Value) (w : World) →
      activation 0 body values w ≡ Raises (area_of RecursionTooDeep) w
  -- no turn is left
  pub spent : (room : ℕ) (body : Answering A → Answering A) (values : List Value) (w u : World) →
      turn w ≡ RunsOut u → activation (suc room) body values w ≡ RunsOut u
  -- its body is run, with one more active routine and less room
  pub runs : (room : ℕ) (body : Answering A → Answering A) (values : List Value) (w u : World)
      (e : Ends A) → turn w ≡ Gives tt u →
      body (activation room body) values (record u { active = suc u.active }) ≡ e →
      activation (suc room) body values w ≡ with_active u.active e
  -- the first activation, by how many routines are active
  pub first : (none : Answering A) (body : Answering A → Answering A) (values : List Value)
      (w : World) (room : ℕ) → room ≡ most_active - w.active →
      call_of true none body values w ≡ activation room body values w
  -- one that doesn't call itself is run
  pub plain : (none : Answering A) (body : Answering A → Answering A) (values : List Value)
      (w : World) (e : Ends A) → body none values w ≡ e → call_of false none body values w ≡ e

-- functions and procedures
pub record ActivationsGoOn : Type 0 where
  pub function : ActivationGoesOn Value
  pub procedure : ActivationGoesOn (List Value)

-- ---- bodies

-- RETURNS NULL ON NULL INPUT: whether an argument is NULL that isn't to be
abbrev pub null_given : Bool → List Value → Bool
null_given null_call values = null_call && list_any is_null values

-- where the body of a function stands, by what a call of itself does
abbrev pub function_start : Bool → Called → Context
function_start null_call self = start_of (null_or null_call self) no_again

-- what a function that calls itself does, by what a call of itself does
abbrev pub function_body : SqlType → Bool → Stmt → Called → Called
function_body returns null_call body self values w =
    returned returns (does body (function_start null_call self) (frame_of values) w)

-- the same of a procedure
abbrev pub procedure_body : List Parameter → Stmt → Calling → Calling
procedure_body parameters body again values w =
    given_back parameters (does body (start_of no_self again) (frame_of values) w)

-- calls, by how the body ends
pub record BodiesGoOn : Type 0 where
  -- a function by the end of its body
  pub returns : (t : SqlType) (e : End) (o : Outcome) (f : Frame) (w : World) →
      e ≡ ends o f w → returned t e ≡ returned_or t o w
  -- a procedure by the end of its body
  pub gives_back : (ps : List Parameter) (e : End) (o : Outcome) (f : Frame) (w : World) →
      e ≡ ends o f w → given_back ps e ≡ given_or ps o f w
  -- a function isn't run where an argument is NULL
  pub null : (calls_itself : Bool) (parameters : List SqlType) (returns : SqlType)
      (null_call : Bool) (body : Stmt) (values : List Value) (w : World) →
      null_given null_call values ≡ true →
      call (Function calls_itself parameters returns null_call body) values w ≡ Gives Null w
  -- a function that doesn't call itself
  pub function : (parameters : List SqlType) (returns : SqlType) (null_call : Bool) (body : Stmt)
      (values : List Value) (w u : World) (o : Outcome) (g : Frame) →
      null_given null_call values ≡ false →
      does body (function_start null_call no_self) (frame_of values) w ≡ ends o g u →
      call (Function false parameters returns null_call body) values w ≡ returned_or returns o u
  -- one that calls itself
  pub function_itself : (parameters : List SqlType) (returns : SqlType) (null_call : Bool)
      (body : Stmt) (values : List Value) (w : World) (room : ℕ) →
      null_given null_call values ≡ false → room ≡ most_active - w.active →
      call (Function true parameters returns null_call body) values w ≡
      activation room (function_body returns null_call body) values w
  -- a procedure that doesn't call itself
  pub procedure : (parameters : List Parameter) (body : Stmt) (values : List Value) (w u : World)
      (o : Outcome) (g : Frame) →
      does body (start_of no_self no_again) (frame_of values) w ≡ ends o g u →
      perform (Procedure false parameters body) values w ≡ given_or parameters o g u
  -- one that calls itself
  pub procedure_itself : (parameters : List Parameter) (body : Stmt) (values : List Value)
      (w : World) (room : ℕ) → room ≡ most_active - w.active →
      perform (Procedure true parameters body) values w ≡
      activation room (procedure_body parameters body) values w
