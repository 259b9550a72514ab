-- Handlers in code, and those that are chosen. What an action does isn't known here: each word is
-- given it. ISO/IEC 9075-4, 14.2 (handler declaration).
use Rattle.std.specs.Prelude.{◌≡◌, ℕ, Bool, List, [], ◌∷◌, map, take, Option, Some, None}
use Rattle.std.specs.Prelude.{slice_get}
use Rattle.std.specs.List.{list_any}
use Rattle.sql_conditions.specs.Conditions.{Area}
use Rattle.bound_trees.specs.declared.statement.BoundHandler.{BoundHandler, out-BoundHandler}
use Rattle.rel_algebra.specs.Doing.{Doing}
use Rattle.rel_algebra.specs.Handlers.{Handling, Scope, Scopes, Chosen}
use Rattle.rel_algebra.specs.States.{names, covers}
use Rattle.rel_algebra.specs.Tree.{ConditionValue}
use Rattle.routine_views.specs.Views.{condition_value, handler_type}
use Rattle.run_outcomes.specs.declared.choice.Scope.{Scope as HeldScope}
use Rattle.run_outcomes.specs.declared.choice.Manner.{Manner}
use Rattle.run_outcomes.specs.declared.choice.Manner.TheVariants.{ByName, ByClass}
use Rattle.run_outcomes.specs.declared.choice.Chosen.{Chosen as HeldChosen}

-- what a handler waits for
abbrev pub takes_of : BoundHandler → List ConditionValue
takes_of h = map condition_value (out-BoundHandler h).values

-- what a handler waits for is the state, by its name or by its class
abbrev pub met_by : Manner → ConditionValue → List ℕ → Bool
met_by ByName = names
met_by ByClass = covers

-- a handler takes the state in this manner
abbrev pub taking : Manner → List ℕ → BoundHandler → Bool
taking manner state h = list_any (λ v. met_by manner v state) (takes_of h)

-- a handler in sight, by what its action does
abbrev pub handling_by : (BoundHandler → Area → Doing) → BoundHandler → Handling
handling_by action h = record {
  kind = handler_type (out-BoundHandler h).handler_type;
  takes = takes_of h;
  action = action h;
}

-- what the action of a handler does, by the compound statements outside its own, and its own
abbrev pub Acts : Type 0
Acts = Scopes → HeldScope → BoundHandler → Area → Doing

-- a compound statement, by those outside it
abbrev pub scope_by : Acts → Scopes → HeldScope → Scope
scope_by acts outer s = record {
  handlings = map (handling_by (acts outer s)) s.handlers.now;
  level = s.level;
  variables = s.variables;
  cursors = s.cursors;
}

-- more compound statements inside these, the innermost last
abbrev pub scopes_from : Acts → Scopes → List HeldScope → Scopes
scopes_from acts outer [] = outer
scopes_from acts outer (s ∷ ss) = scopes_from acts (scope_by acts outer s ∷ outer) ss

-- compound statements, the innermost last
abbrev pub scopes_by : Acts → List HeldScope → Scopes
scopes_by acts ss = scopes_from acts [] ss

-- the handler of one that is chosen, by the compound statements outside its own
abbrev pub chosen_in : Acts → Scopes → HeldChosen → Chosen
chosen_in acts outer c = record {
  handling = handling_by (acts outer c.scope) c.handler.now;
  scope = scope_by acts outer c.scope;
}

-- what a choice among compound statements stands for
abbrev pub chosen_by : Acts → List HeldScope → Option HeldChosen → Option Chosen
chosen_by acts ss None = None
chosen_by acts ss (Some c) = Some (chosen_in acts (scopes_by acts (take c.outer ss)) c)

-- by a function, where there is one
abbrev pub mapped : {A B : Type 0} → (A → B) → Option A → Option B
mapped f None = None
mapped f (Some x) = Some (f x)

-- it stands in the list
abbrev pub AmongThem : {A : Type 0} → List A → A → Type 0
AmongThem xs x = (i : ℕ) × (slice_get xs i ≡ Some x)

-- what is chosen is a handler of one of these compound statements, with so many outside it
abbrev pub StandsIn : List HeldScope → HeldChosen → Type 0
StandsIn ss c = (slice_get ss c.outer ≡ Some c.scope) × AmongThem c.scope.handlers.now c.handler.now
