-- Which handler takes a condition, and what then is done. ISO/IEC 9075-4, 14.2 (handler
-- declaration), and 4.8 (conditions).
use Rattle.std.specs.Prelude.{ℕ, Bool, if◌then◌else◌, List, [], ◌∷◌, Option, Some, None}
use Rattle.std.specs.List.{list_any}
use Rattle.sql_conditions.specs.Conditions.{Area}
use Rattle.rel_algebra.specs.Tree.{HandlerType, Continue, Exit, Undo, ConditionValue}
use Rattle.rel_algebra.specs.States.{state_in, is_exception, names, covers}
use Rattle.rel_algebra.specs.World.{Frame, Ends, Gives, Raises, RunsOut, Eval, unit}
use Rattle.rel_algebra.specs.Doing.{Next, Exiting, Raising, Spent, End, Doing, ends, outside}
use Rattle.rel_algebra.specs.Doing.{with_diagnostics, settled}

-- a handler in sight: what follows its action, what it waits for, and what its action does, by the
-- conditions that it handles
pub record Handling : Type 0 where
  -- CONTINUE, EXIT or UNDO
  pub kind : HandlerType
  -- states and classes
  pub takes : List ConditionValue
  -- by the conditions that it handles
  pub action : Area → Doing

-- The handlers of a compound statement, how many compound statements and loops are around it, and
-- how many variables and cursors its actions see.
pub record Scope : Type 0 where
  -- in the order of their declarations
  pub handlings : List Handling
  -- how many compound statements and loops are around it
  pub level : ℕ
  pub variables : ℕ
  pub cursors : ℕ

-- the compound statements around a statement, the innermost first
abbrev pub Scopes : Type 0
Scopes = List Scope

-- ---- the choice

-- the first, where there is one, and else the second
abbrev pub or_else : {A : Type 0} → Option A → Option A → Option A
or_else None b = b
or_else (Some a) b = Some a

-- the first of a list that passes a test
abbrev pub first_with : {A : Type 0} → (A → Bool) → List A → Option A
first_with test [] = None
first_with test (h ∷ hs) = if test h then Some h else first_with test hs

-- the handler names the state
abbrev pub names_it : List ℕ → Handling → Bool
names_it state h = list_any (λ v. names v state) h.takes

-- the handler waits for the state's class
abbrev pub covers_it : List ℕ → Handling → Bool
covers_it state h = list_any (λ v. covers v state) h.takes

-- in one compound statement a handler that names the state goes before a general one
abbrev pub best_here : List ℕ → List Handling → Option Handling
best_here state hs = or_else (first_with (names_it state) hs) (first_with (covers_it state) hs)

-- a handler with its compound statement
pub record Chosen : Type 0 where
  pub handling : Handling
  pub scope : Scope

-- a handler with its compound statement, where there is one
abbrev pub of_scope : Scope → Option Handling → Option Chosen
of_scope s None = None
of_scope s (Some h) = Some (record { handling = h; scope = s })

-- the innermost compound statement with a matching handler is taken
abbrev pub best : List ℕ → Scopes → Option Chosen
best state [] = None
best state (s ∷ outer) = or_else (of_scope s (best_here state s.handlings)) (best state outer)

-- ---- raising

-- an action, at the end of which the current area is that of success, in whatever way it ends
abbrev pub acting : Handling → Area → Doing
acting h area = λ f w. settled (h.action area f w)

-- CONTINUE does its action where the condition was raised; EXIT and UNDO go to the end of their
-- compound statement
abbrev pub act_by : HandlerType → Chosen → Area → Doing
act_by Continue c area = outside c.scope.variables c.scope.cursors (acting c.handling area)
act_by Exit c area = ends (Exiting c.scope.level area)
act_by Undo c area = ends (Exiting c.scope.level area)

-- what the chosen handler does, and the rest where none is chosen
abbrev pub act_or : Option Chosen → Area → Doing → Doing
act_or None area rest = rest
act_or (Some c) area rest = act_by c.handling.kind c area

-- a statement raises: the current area is that of its conditions, and the best handler acts in the
-- place of the statement
abbrev pub taking : Scopes → Area → Doing → Doing
taking scopes area rest =
    λ f w. act_or (best (state_in area) scopes) area rest (with_diagnostics area 0 f) w

-- An exception that no handler takes is raised. Whatever an evaluation raises is one.
abbrev pub failing : Scopes → Area → Doing
failing scopes area = taking scopes area (ends (Raising area))

-- what no handler takes: an exception is raised, and another condition is dropped
abbrev pub unhandled : Area → Doing
unhandled area = if is_exception (state_in area) then ends (Raising area) else ends Next

-- any condition
abbrev pub raising : Scopes → Area → Doing
raising scopes area = taking scopes area (unhandled area)

-- ---- values

-- goes on with what an evaluation gives, or raises
abbrev pub with_end : {A : Type 0} → Scopes → Ends A → Frame → (A → Doing) → End
with_end scopes (Gives a w) f go = go a f w
with_end scopes (Raises area w) f go = failing scopes area f w
with_end scopes (RunsOut w) f go = ends Spent f w

-- what is evaluated keeps what it wrote, as the statements of a procedure do
abbrev pub with_called : {A : Type 0} → Scopes → (Frame → Eval A) → (A → Doing) → Doing
with_called scopes e go = λ f w. with_end scopes (e f w) f go

-- what is evaluated is a unit
abbrev pub with_value : {A : Type 0} → Scopes → (Frame → Eval A) → (A → Doing) → Doing
with_value scopes e = with_called scopes (λ f. unit (e f))
