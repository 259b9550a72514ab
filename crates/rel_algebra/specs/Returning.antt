-- What a function whose body is one RETURN means: its expression, and then the assignment to the
-- result's type; and which other functions are planned. ISO/IEC 9075-2, 10.4 (routine invocation)
-- and 15.2 (return statement).
use Rattle.std.specs.Prelude.{◌≡◌, ◌⊎◌, Bool, false, true, List, []}
use Rattle.sql_values.specs.declared.value.Value.{Value}
use Rattle.sql_values.specs.declared.value.SqlType.{SqlType}
use Rattle.sql_values.specs.Casts.{assigned}
use Rattle.rel_algebra.specs.Tree.{Expr, Stmt, Routine, Function, Returned, Return}
use Rattle.rel_algebra.specs.World.{World, Eval, ◌>>=◌, unit, outcome, frame_of, no_self, call_of}
use Rattle.rel_algebra.specs.Meaning.{ev, call}
use Rattle.rel_algebra.specs.Plain.{planned_expr, planned_routine, planned_stmt}

-- an evaluation, whose value is assigned to a type
abbrev pub assigned_to : SqlType → Eval Value → Eval Value
assigned_to returns e = do
  v ← e
  outcome (assigned returns v)

-- a function of this form
pub record IsReturned (r : Routine) : Type 0 where
  pub parameters : List SqlType
  pub returns : SqlType
  pub body : Expr
  pub form : r ≡ Returned parameters returns body

-- a function whose body is a statement in form: it is no part of itself
pub record IsBlock (r : Routine) : Type 0 where
  pub parameters : List SqlType
  pub returns : SqlType
  pub null_call : Bool
  pub body : Stmt
  pub form : r ≡ Function false parameters returns null_call body
  pub in_form : planned_stmt body ≡ true

-- what a call of such a function means, and that no other routine is planned than those of the two
-- forms
pub record ReturnedMeans : Type 0 where
  -- the expression is a unit, also where the function calls itself
  pub called : (calls_itself : Bool) (parameters : List SqlType) (returns : SqlType) (e : Expr)
      (values : List Value) (w : World) →
      call (Function calls_itself parameters returns false (Return e)) values w
      ≡ call_of calls_itself no_self
      (λ self vs. assigned_to returns (unit (ev e self [] (frame_of vs)))) values w
  -- a planned one writes nothing
  pub planned : (parameters : List SqlType) (returns : SqlType) (e : Expr) (values : List Value)
      (w : World) → planned_expr e ≡ true →
      call (Returned parameters returns e) values w
      ≡ assigned_to returns (ev e no_self [] (frame_of values)) w
  -- no routine of another form is planned
  pub alone : (r : Routine) → planned_routine r ≡ true → IsReturned r ⊎ IsBlock r
