-- Which handler takes a condition, and what then is done. ISO/IEC 9075-4, 14.2 (handler
-- declaration), and 4.8 (conditions).
use Rattle.std.specs.Prelude.{◌≡◌, ℕ, Bool, if◌then◌else◌, List, [], ◌∷◌, Option, Some, None, Ok}
use Rattle.std.specs.Prelude.{Err}
use Rattle.std.specs.List.{list_any}
use Rattle.sql_conditions.specs.Conditions.{Area}
use Rattle.rel_algebra.specs.Endings.{Ending}
use Rattle.rel_algebra.specs.Tree.{ConditionValue}
use Rattle.rel_algebra.specs.States.{state_in, is_exception, names, covers}
pub use Rattle.rel_algebra.specs.Handlers.{or_else, first_with}
use Rattle.rel_algebra.specs.Bodies.{HandlerType, Continue, Exit, Undo}
use Rattle.rel_algebra.specs.BodyDoing.{Frame, Next, Exiting, Raising, End, Doing, ends, outside}

-- a handler in sight: what follows its action, what it waits for, and what its action does, by the
-- conditions that it handles
pub record Handling : Type 0 where
  -- CONTINUE, EXIT or UNDO
  pub kind : HandlerType
  -- states and classes
  pub takes : List ConditionValue
  -- by the conditions that it handles
  pub action : Area → Doing

-- The handlers of a compound statement, how many compound statements are around it, and how many
-- variables its actions see.
pub record Scope : Type 0 where
  -- in the order of their declarations
  pub handlings : List Handling
  -- how many compound statements are around it
  pub level : ℕ
  -- how many variables its actions see
  pub variables : ℕ

-- the compound statements around a statement, the innermost first
abbrev pub Scopes : Type 0
Scopes = List Scope

-- one of these names the state
abbrev pub names_it : List ℕ → List ConditionValue → Bool
names_it state vs = list_any (λ v. names v state) vs

-- one of these is the state's class
abbrev pub covers_it : List ℕ → List ConditionValue → Bool
covers_it state vs = list_any (λ v. covers v state) vs

-- in one compound statement a handler that names the state goes before a general one
abbrev pub best_here : List ℕ → List Handling → Option Handling
best_here state hs = or_else (first_with (λ h. names_it state h.takes) hs)
    (first_with (λ h. covers_it state h.takes) hs)

-- one way with a handler that was found, and else another
abbrev pub with_best : {A : Type 0} → Option Handling → (Handling → A) → A → A
with_best None act rest = rest
with_best (Some h) act rest = act h

-- CONTINUE does its action where the condition was raised; EXIT and UNDO go to the end of their
-- compound statement
abbrev pub act_by : HandlerType → (Area → Doing) → ℕ → ℕ → Area → Doing
act_by Continue action level variables area = outside variables (action area)
act_by Exit action level variables area = ends (Exiting level area)
act_by Undo action level variables area = ends (Exiting level area)

-- no handler takes it: an exception is raised, and another condition is dropped
abbrev pub unhandled : Area → Doing
unhandled area = if is_exception (state_in area) then ends (Raising area) else ends Next

-- A statement raises: the best handler of the innermost compound statement that has one acts in the
-- place of the statement.
abbrev pub raising : Scopes → Area → Doing
raising [] area = unhandled area
raising (s ∷ outer) area =
    with_best (best_here (state_in area) s.handlings)
    (λ h. act_by h.kind h.action s.level s.variables area) (raising outer area)

-- goes on with what an evaluation gives, or raises
abbrev pub with_end : {A : Type 0} → Scopes → Ending A → Frame → (A → Doing) → End
with_end scopes (Ok a) f go = go a f
with_end scopes (Err area) f go = raising scopes area f

-- the same by the frame in which it is evaluated
abbrev pub with_value : {A : Type 0} → Scopes → (Frame → Ending A) → (A → Doing) → Doing
with_value scopes e go = λ f. with_end scopes (e f) f go

-- ---- the same by one choice among all handlers in sight

-- a handler with its compound statement
pub record Chosen : Type 0 where
  -- the handler
  pub handling : Handling
  -- its compound statement
  pub scope : Scope

-- a handler with its compound statement, where there is one
abbrev pub of_scope : Scope → Option Handling → Option Chosen
of_scope s None = None
of_scope s (Some h) = Some (record { handling = h; scope = s })

-- the innermost compound statement with a matching handler is taken
abbrev pub best : List ℕ → Scopes → Option Chosen
best state [] = None
best state (s ∷ outer) = or_else (of_scope s (best_here state s.handlings)) (best state outer)

-- what the chosen handler does, and where there is none, what is done then
abbrev pub act_or : Option Chosen → Area → Doing
act_or None area = unhandled area
act_or (Some c) area = act_by c.handling.kind c.handling.action c.scope.level c.scope.variables area

-- raising scope by scope is that one choice
abbrev pub RaisesByBest : Type 0
RaisesByBest = (scopes : Scopes) (area : Area) → raising scopes area ≡ act_or
    (best (state_in area) scopes) area
