-- What of a place the meaning speaks: what its calls stand for, what a self-call means there, the
-- handlers in sight, and what its self-calls may cost. ISO/IEC 9075-2, 10.4 (routine invocation),
-- and 9075-4, 14.2 (handler declaration).
use Rattle.std.specs.Prelude.{ℕ, ◌+◌, ◌*◌, Bool, true, false, List, [], ◌∷◌, map, Option}
use Rattle.std.specs.Prelude.{Some, None}
use Rattle.std.specs.Borrow.{Bor}
use Rattle.std.specs.Option.{option_copied}
use Rattle.sql_conditions.specs.Conditions.{Area}
use Rattle.sql_values.specs.declared.value.SqlType.{SqlType}
use Rattle.bound_trees.specs.declared.query.BoundQuery.{BoundQuery}
use Rattle.bound_trees.specs.declared.statement.BoundHandler.{BoundHandler, fold-BoundHandler}
use Rattle.rel_algebra.specs.Tree.{Function, Handlers, Parameter, Procedure, Query, Routine, Stmt}
use Rattle.rel_algebra.specs.World.{Answering, Called, Calling, activation, frame_of, no_again}
use Rattle.rel_algebra.specs.World.{no_self}
use Rattle.rel_algebra.specs.Calls.{given_back, null_or, returned}
use Rattle.rel_algebra.specs.Handlers.{Scopes}
use Rattle.rel_algebra.specs.Meaning.{Context, does, handlings, start_of}
use Rattle.catalog_store.specs.Catalog.{Catalog}
use Rattle.catalog_store.specs.Entries.{interpreted_of, procedure_of}
use Rattle.routine_views.specs.Views as view
use Rattle.routine_views.specs.Views.{Known, View, BranchView, HandlerView, stmt_view, block_view}
use Rattle.routine_views.specs.Views.{branch_view, handler_view, handlers, query_in}
use Rattle.routine_views.specs.Routines.{function_view, procedure_view, routines_of, with_modes}
use Rattle.run_outcomes.specs.declared.choice.Scope.{Scope}
use Rattle.run_places.specs.declared.place.Own.{Own}
use Rattle.run_places.specs.declared.place.Place.{Place}
use Rattle.run_places.specs.declared.place.RoutineBody.{RoutineBody}
use Rattle.run_places.specs.declared.place.RoutineBody.TheVariants as held
use Rattle.run_places.specs.Cost.{stmt_cost, handlers_cost}

-- ---- routines that call themselves

-- What one activation of a function does, by what a self-call means in its body. NULL among the
-- arguments of a self-call is judged as it is at any other call.
abbrev pub function_body : SqlType → Bool → Stmt → Called → Called
function_body returns null_call body self values w =
    returned returns (does body (start_of (null_or null_call self) no_again) (frame_of values) w)

-- what one activation of a procedure does, by what a self-call means in its body
abbrev pub procedure_body : List Parameter → Stmt → Calling → Calling
procedure_body parameters body again values w =
    given_back parameters (does body (start_of no_self again) (frame_of values) w)

-- a routine with room for so many activations, if it calls itself, and what stands for a self-call
-- where it doesn't
abbrev pub within : {A : Type 0} → Bool → Answering A → (Answering A → Answering A) → ℕ →
    Answering A
within true none body room = activation room body
within false none body room = body none

-- what a call of a function does where so many activations may still come
abbrev pub call_within : ℕ → Routine → Called
call_within room (Function calls_itself parameters returns null_call body) =
    null_or null_call (within calls_itself no_self (function_body returns null_call body) room)
call_within room (Procedure calls_itself parameters body) = λ values. no_self values

-- the same of a procedure
abbrev pub perform_within : ℕ → Routine → Calling
perform_within room (Procedure calls_itself parameters body) =
    within calls_itself no_again (procedure_body parameters body) room
perform_within room (Function calls_itself parameters returns null_call body) = no_again

-- the function itself, where it calls itself
abbrev pub if_calling : Bool → Called → Called
if_calling true itself = itself
if_calling false itself = no_self

-- what one activation of a function does, where so many may still come inside it
abbrev pub function_run : ℕ → Routine → Called
function_run room (Function calls_itself parameters returns null_call body) =
    function_body returns null_call body
    (if_calling calls_itself (activation room (function_body returns null_call body)))
function_run room (Procedure calls_itself parameters body) = no_self

-- the procedure itself, where it calls itself
abbrev pub if_again : Bool → Calling → Calling
if_again true itself = itself
if_again false itself = no_again

-- what one activation of a procedure does, where so many may still come inside it
abbrev pub procedure_run : ℕ → Routine → Calling
procedure_run room (Procedure calls_itself parameters body) =
    procedure_body parameters body
    (if_again calls_itself (activation room (procedure_body parameters body)))
procedure_run room (Function calls_itself parameters returns null_call body) = no_again

-- what a self-call means in an expression of a routine's body: a function that calls itself is
-- called with this room, and there is nothing else to call
abbrev pub self_within : ℕ → Routine → Called
self_within room (Function calls_itself parameters returns null_call body) =
    null_or null_call
    (if_calling calls_itself (activation room (function_body returns null_call body)))
self_within room (Procedure calls_itself parameters body) = no_self

-- what a self-call means as a CALL in a routine's body
abbrev pub again_within : ℕ → Routine → Calling
again_within room (Procedure calls_itself parameters body) =
    if_again calls_itself (activation room (procedure_body parameters body))
again_within room (Function calls_itself parameters returns null_call body) = no_again

-- the body of a routine
abbrev pub body_of : Routine → Stmt
body_of (Function calls_itself parameters returns null_call body) = body
body_of (Procedure calls_itself parameters body) = body

-- ---- the routine around

-- the plain routine of this name
abbrev pub routine_view : (List ℕ → Routine) → List ℕ → RoutineBody → Routine
routine_view routines name (held.Function f) = function_view routines name (interpreted_of f.now)
routine_view routines name (held.Procedure p) = procedure_view routines name (procedure_of p.now)

-- the plain routine around, by what the catalog's names stand for
abbrev pub own_view : (List ℕ → Routine) → Own → Routine
own_view routines own = routine_view routines own.name.now own.routine

-- the parameters of a routine
abbrev pub parameters_in : RoutineBody → List Parameter
parameters_in (held.Function f) = with_modes [] f.now.head.parameters
parameters_in (held.Procedure p) = with_modes p.now.head.modes p.now.head.parameters

-- the routine around, as trees know it
abbrev pub own_in : Option Own → Option view.Own
own_in None = None
own_in (Some own) = Some (record { name = own.name.now; parameters = parameters_in own.routine })

-- what stands around a tree of a script
abbrev pub no_routine : Catalog → Known
no_routine catalog = record { routines = routines_of catalog; own = None }

-- what stands around a tree
abbrev pub known_of : Place → Known
known_of place = record { routines = routines_of place.catalog.now; own = own_in place.own }

-- what a self-call means in an expression
abbrev pub self_by : (List ℕ → Routine) → Option Own → Called
self_by routines None = no_self
self_by routines (Some own) = self_within own.room (own_view routines own)

-- what a self-call means as a CALL
abbrev pub again_by : (List ℕ → Routine) → Option Own → Calling
again_by routines None = no_again
again_by routines (Some own) = again_within own.room (own_view routines own)

-- the same at a place
abbrev pub self_of : Place → Called
self_of place = self_by (routines_of place.catalog.now) place.own

-- the same at a place
abbrev pub again_of : Place → Calling
again_of place = again_by (routines_of place.catalog.now) place.own

-- ---- the handlers in sight

-- a handler
abbrev pub handler_in : Known → BoundHandler → HandlerView
handler_in k = fold-BoundHandler View View BranchView HandlerView (stmt_view k) (block_view k)
    (branch_view k) handler_view

-- the queries of cursors, by their slots
abbrev pub queries_in : Known → List (Bor BoundQuery) → List Query
queries_in k cursors = map (λ q. query_in k q.now) cursors

-- the queries of the cursors in sight, by their slots
abbrev pub queries_of : Place → List Query
queries_of place = queries_in (known_of place) place.cursors.now

-- the plain handlers of a scope, of which the actions see its cursors
abbrev pub handlers_of : Known → Scope → Handlers
handlers_of k s = handlers (map (handler_in k) s.handlers.now) (queries_in k s.queries.now)

-- where the actions of a scope stand, but for the scopes outside it
abbrev pub at_level : Called → Calling → ℕ → Context
at_level self again level =
    record { self = self; again = again; scopes = []; level = level; stacked = None }

-- a scope, by those outside it
abbrev pub scope_of : Called → Calling → Handlers → Scope → Scopes → Scopes
scope_of self again hs s outer =
    record {
      handlings = handlings hs (at_level self again s.level) outer;
      level = s.level;
      variables = s.variables;
      cursors = s.cursors;
    } ∷ outer

-- more scopes, the innermost last, inside others
abbrev pub more_scopes : Known → Called → Calling → List Scope → Scopes → Scopes
more_scopes k self again [] outer = outer
more_scopes k self again (s ∷ ss) outer =
    more_scopes k self again ss (scope_of self again (handlers_of k s) s outer)

-- the scopes in sight, the innermost first
abbrev pub scopes_of : Place → Scopes
scopes_of place = more_scopes (known_of place) (self_of place) (again_of place) place.scopes.now []

-- the conditions that the innermost action handles
abbrev pub stacked_of : Place → Option Area
stacked_of place = option_copied place.stacked

-- where a statement of the place stands
abbrev pub context_of : Place → Context
context_of place = record {
  self = self_of place;
  again = again_of place;
  scopes = scopes_of place;
  level = place.level;
  stacked = stacked_of place;
}

-- ---- what falls from call to call

-- how often a body may run, one run inside another, where so many activations may still come
abbrev pub runs : Bool → ℕ → ℕ
runs true room = room
runs false room = 1

-- what a call of a routine may cost that has so much room
abbrev pub call_cost : ℕ → Routine → ℕ
call_cost room (Function calls_itself parameters returns null_call body) =
    runs calls_itself room * (stmt_cost body + 2)
call_cost room (Procedure calls_itself parameters body) =
    runs calls_itself room * (stmt_cost body + 2)

-- what a run of its body may cost, inside which so many activations may still come
abbrev pub run_cost : ℕ → Routine → ℕ
run_cost room routine =
    stmt_cost (body_of routine) + room * (stmt_cost (body_of routine) + 2)

-- what the self-calls of a routine may cost that has so much room
abbrev pub own_cost : (List ℕ → Routine) → Option Own → ℕ
own_cost routines None = 0
own_cost routines (Some own) = own.room * (stmt_cost (body_of (own_view routines own)) + 2)

-- what the self-calls at a place may cost
abbrev pub self_cost : Place → ℕ
self_cost place = own_cost (routines_of place.catalog.now) place.own

-- what the handlers of scopes cost
abbrev pub handlers_costs : Known → List Scope → ℕ
handlers_costs k [] = 0
handlers_costs k (s ∷ ss) = handlers_cost (handlers_of k s) + handlers_costs k ss

-- what the handlers in sight cost
abbrev pub scopes_cost : Place → ℕ
scopes_cost place = handlers_costs (known_of place) place.scopes.now
