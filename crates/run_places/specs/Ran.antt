-- How the run of a statement answers its end: the outcome, with the frame and the world that are
-- left. ISO/IEC 9075-4, 4.8 (conditions).
use Rattle.std.specs.Prelude.{◌≡◌, ℕ, [], Bool, true, false, not, Option, Some, None, Result, Ok, Err}
use Rattle.sql_texts.specs.declared.memory.NoMemory.{NoMemory}
use Rattle.sql_values.specs.declared.value.Value.{Value}
use Rattle.sql_values.specs.Values.{is_true}
use Rattle.bound_trees.specs.declared.expr.BoundExpr.{BoundExpr}
use Rattle.rel_algebra.specs.Tree.{Branches}
use Rattle.rel_algebra.specs.World.{World, Frame, Eval, Called, unit, after, give}
use Rattle.rel_algebra.specs.Doing.{Doing, End, Spent as NoTurn, ends}
use Rattle.rel_algebra.specs.Handlers.{Scopes, failing}
use Rattle.rel_algebra.specs.Loops.{at_once, while_true, until_true}
use Rattle.rel_algebra.specs.Meaning.{Context, ev, does_branches, does_matching}
use Rattle.routine_views.specs.Views.{Known, expr_in}
use Rattle.run_choices.specs.declared.stop.Stop.{Stop}
use Rattle.run_choices.specs.declared.stop.Stop.TheVariants.{Raised, Spent, NoMemory as NoRoom}
use Rattle.run_expressions.specs.Content.{Content, world_of, Stays}
use Rattle.run_outcomes.specs.declared.outcome.Outcome.{Outcome}
use Rattle.run_outcomes.specs.Outcomes.{outcome_of}
use Rattle.run_places.specs.Cost.{cost}

-- the answer, with the frame and the world that are left, is exactly the end; want of memory tells
-- nothing of it
abbrev pub TellsEnd : World → Frame → Result Outcome NoMemory → End → Type 0
TellsEnd w f (Ok o) e = e ≡ ends (outcome_of o) f w
TellsEnd w f (Err fault) e = Unit {0}

-- a run from an old world to a new one, which leaves this frame, answers this end, and keeps what
-- each run keeps
pub record Ran (old new : Content) (frame : Frame) (answer : Result Outcome NoMemory) (end : End) :
    Type 0 where
  pub tells : TellsEnd (world_of new) frame answer end
  pub stays : Stays old new

-- ---- stops

-- memory is wanting
abbrev pub IsWant : Result Outcome NoMemory → Type 0
IsWant (Ok o) = ⊥
IsWant (Err fault) = Unit {0}

-- want of memory is answered, and the world keeps what each run keeps
pub record Wants (old new : Content) (answer : Result Outcome NoMemory) : Type 0 where
  pub is : IsWant answer
  pub stays : Stays old new

-- A run that goes on from the stop of an evaluation, in these scopes: it raises what is raised, and
-- ends where no turn is left, or where no memory is there.
abbrev pub GoesOnFrom : Stop → Scopes → Content → Content → Frame → Frame →
    Result Outcome NoMemory → Type 0
GoesOnFrom (Raised area) scopes old new f g answer =
    Ran old new g answer (failing scopes area f (world_of old))
GoesOnFrom Spent scopes old new f g answer = Ran old new g answer (ends NoTurn f (world_of old))
GoesOnFrom NoRoom scopes old new f g answer = Wants old new answer

-- ---- tests

-- whether a value is true, or isn't, as is wanted
abbrev pub is_wanted : Bool → Value → Bool
is_wanted true v = is_true v
is_wanted false v = not (is_true v)

-- the test of a loop, a unit: whether it goes on, where its value is to be true or not
abbrev pub loop_test : Bool → Known → Option BoundExpr → Called → Frame → Eval Bool
loop_test wanted k None self f = give true
loop_test wanted k (Some e) self f = λ w.
    after (unit (ev (expr_in k e) self [] f) w) (λ v. give (is_wanted wanted v))

-- what it may cost
abbrev pub test_cost : Known → Option BoundExpr → ℕ
test_cost k None = 0
test_cost k (Some e) = cost (expr_in k e)

-- what stands before the body of a loop
abbrev pub before_by : Known → Option BoundExpr → Called → Scopes → Doing → Doing
before_by k None self scopes = at_once
before_by k (Some e) self scopes = while_true scopes (ev (expr_in k e) self [])

-- what stands after it
abbrev pub after_by : Known → Option BoundExpr → Called → Scopes → Doing → Doing
after_by k None self scopes = at_once
after_by k (Some e) self scopes = until_true scopes (ev (expr_in k e) self [])

-- ---- branches

-- the branches of IF, and of CASE with an operand of this value or without one
abbrev pub does_choice : Option Value → Branches → Context → Doing → Doing
does_choice None bs c otherwise = does_branches bs c otherwise
does_choice (Some x) bs c otherwise = does_matching bs x c otherwise
