-- Handlers in sight, by those in code; what stands at the places inside a place; and what they cost.
use Rattle.std.proofs.Common.{◌≡◌, ℕ, zero, suc, ◌+◌, ◌≤◌, [], ◌∷◌, List, Option, Some, None, map}
use Rattle.std.proofs.Common.{take, refl, sym, ap, ◌∙◌, arith, Bor}
use Rattle.std.specs.Prelude.{slice_get}
use Rattle.sql_conditions.specs.Conditions.{Area}
use Rattle.bound_trees.specs.declared.query.BoundQuery.{BoundQuery}
use Rattle.bound_trees.specs.declared.statement.BoundBlock.{BoundBlock}
use Rattle.bound_trees.specs.declared.statement.BoundBranch.{BoundBranch}
use Rattle.bound_trees.specs.declared.statement.BoundHandler.{BoundHandler, roll-BoundHandler}
use Rattle.bound_trees.specs.declared.statement.BoundHandler.{out-BoundHandler}
use Rattle.bound_trees.specs.declared.statement.BoundStmt.{BoundStmt}
use Rattle.bound_trees.specs.declared.statement.BoundStmt.TheFolds.{map-BoundHandler}
use Rattle.bound_trees.specs.declared.statement.BoundStmt.TheFolds.{fold-roll-BoundHandler}
use Rattle.bound_trees.specs.declared.statement.BoundStmt.TheOpen.{BoundHandler-F}
use Rattle.bound_trees.specs.declared.statement.BoundStmt.TheViews.{roll-out-BoundHandler}
use Rattle.rel_algebra.specs.Tree.{Query}
use Rattle.rel_algebra.specs.World.{Called, Calling}
use Rattle.rel_algebra.specs.Doing.{Doing}
use Rattle.rel_algebra.specs.Handlers.{Handling, Scopes}
use Rattle.rel_algebra.specs.Meaning.{Context, does, handlings, in_action}
use Rattle.catalog_store.specs.Catalog.{Catalog}
use Rattle.routine_views.specs.Views.{Known, View, BranchView, HandlerView, stmt_view, block_view}
use Rattle.routine_views.specs.Views.{branch_view, handler_view, handlers, handler_type}
use Rattle.routine_views.specs.Views.{condition_value, stmt_in, block_in}
use Rattle.routine_views.specs.Routines.{routines_of}
use Rattle.run_outcomes.specs.declared.choice.Scope.{Scope}
use Rattle.run_outcomes.specs.Scopes.{AmongThem, handling_by, scope_by, scopes_from, scopes_by}
use Rattle.run_places.specs.declared.place.Own.{Own}
use Rattle.run_places.specs.declared.place.Place.{Place}
use Rattle.run_places.specs.Acting.{acts_in, acts_of, IsAction}
use Rattle.run_places.specs.Cost.{handlers_cost, stmt_cost}
use Rattle.run_places.specs.Places.{known_of, self_of, again_of, own_in, self_by, again_by, own_cost}
use Rattle.run_places.specs.Places.{queries_in, queries_of, handler_in, handlers_of, at_level}
use Rattle.run_places.specs.Places.{scope_of, more_scopes, scopes_of, context_of, handlers_costs}
use Rattle.run_places.specs.Places.{scopes_cost, self_cost}
use Rattle.run_places.specs.Statements.{branch_in}

-- ---- handlers

abbrev HandlerLayer : Type 0
HandlerLayer = BoundHandler-F BoundStmt BoundBlock BoundBranch BoundHandler

module _ (k : Known) where
  handler_in-at : (x : HandlerLayer) → handler_in k (roll-BoundHandler x) ≡
      handler_view (map-BoundHandler BoundStmt BoundBlock BoundBranch BoundHandler View View
      BranchView HandlerView (stmt_in k) (block_in k) (branch_in k) (handler_in k) x)
  handler_in-at x = fold-roll-BoundHandler View View BranchView HandlerView (stmt_view k)
      (block_view k) (branch_view k) handler_view x

  -- a handler by its parts
  pub handler_in-parts : (h : BoundHandler) → handler_in k h ≡ record {
    follows = handler_type (out-BoundHandler h).handler_type;
    values = map condition_value (out-BoundHandler h).values;
    action = stmt_in k (out-BoundHandler h).action;
  }
  handler_in-parts h = ap (handler_in k) (sym (roll-out-BoundHandler h)) ∙
      handler_in-at (out-BoundHandler h)

  -- what its action stands for
  pub action_is : (h : BoundHandler) →
      (handler_in k h).action ≡ stmt_in k (out-BoundHandler h).action
  action_is h = ap (λ (x : HandlerView). x.action) (handler_in-parts h)

-- what the action of a handler does
abbrev pub action_by : Known → List Query → Context → Scopes → BoundHandler → Area → Doing
action_by k cursors c outer h area =
    does ((handler_in k h).action cursors) (in_action outer area c)

handling_is : (k : Known) (cursors : List Query) (c : Context) (outer : Scopes)
    (h : BoundHandler) → record {
      kind = (handler_in k h).follows;
      takes = (handler_in k h).values;
      action = action_by k cursors c outer h;
    } ≡ handling_by (action_by k cursors c outer) h
handling_is k cursors c outer h =
    ap (λ (x : HandlerView). record {
      kind = x.follows;
      takes = x.values;
      action = action_by k cursors c outer h;
    }) (handler_in-parts k h)

-- the handlers of a compound statement, by those in code
pub handlings_are : (k : Known) (cursors : List Query) (c : Context) (outer : Scopes)
    (hs : List BoundHandler) → handlings (handlers (map (handler_in k) hs) cursors) c outer ≡
    map (handling_by (action_by k cursors c outer)) hs
handlings_are k cursors c outer [] = refl
handlings_are k cursors c outer (h ∷ hs) =
    ap (λ (x : Handling).
    x ∷ handlings (handlers (map (handler_in k) hs) cursors) c outer)
    (handling_is k cursors c outer h)
    ∙ ap (λ (xs : List Handling). handling_by (action_by k cursors c outer) h ∷ xs)
    (handlings_are k cursors c outer hs)

scope_is : (k : Known) (self : Called) (again : Calling) (s : Scope) (outer : Scopes) →
    scope_of self again (handlers_of k s) s outer ≡
    scope_by (acts_in k self again) outer s ∷ outer
scope_is k self again s outer =
    ap (λ (hs : List Handling). record {
      handlings = hs;
      level = s.level;
      variables = s.variables;
      cursors = s.cursors;
    } ∷ outer) (handlings_are k (queries_in k s.queries.now) (at_level self again s.level) outer
    s.handlers.now)

-- compound statements, by those in code
pub scopes_are : (k : Known) (self : Called) (again : Calling) (ss : List Scope)
    (outer : Scopes) →
    more_scopes k self again ss outer ≡ scopes_from (acts_in k self again) outer ss
scopes_are k self again [] outer = refl
scopes_are k self again (s ∷ ss) outer =
    ap (more_scopes k self again ss) (scope_is k self again s outer)
    ∙ scopes_are k self again ss (scope_by (acts_in k self again) outer s ∷ outer)

-- the scopes in sight, by those in code
pub scopes_of-by : (place : Place) → scopes_of place ≡ scopes_by (acts_of place) place.scopes.now
scopes_of-by place =
    scopes_are (known_of place) (self_of place) (again_of place) place.scopes.now []

-- ---- places inside a place

-- what stands around a tree
abbrev pub known_by : Catalog → Option Own → Known
known_by catalog own = record { routines = routines_of catalog; own = own_in own }

-- where a statement stands
abbrev pub context_by : Catalog → Option Own → List Scope → ℕ → Option Area → Context
context_by catalog own scopes level stacked =
    let self = self_by (routines_of catalog) own in
    let again = again_by (routines_of catalog) own in
    record {
      self = self;
      again = again;
      scopes = more_scopes (known_by catalog own) self again scopes [];
      level = level;
      stacked = stacked;
    }

-- what a statement does at a place of these parts
abbrev does_by : Catalog → Option Own → List (Bor BoundQuery) → List Scope → ℕ → Option Area →
    BoundStmt → Doing
does_by catalog own cursors scopes level stacked s =
    let k = known_by catalog own in
    does (stmt_in k s (queries_in k cursors)) (context_by catalog own scopes level stacked)

-- what a statement counts at a place of these parts, beside the handlers and the self-calls
abbrev cost_by : Catalog → Option Own → List (Bor BoundQuery) → List Scope → BoundStmt → ℕ
cost_by catalog own cursors scopes s =
    let k = known_by catalog own in
    stmt_cost (stmt_in k s (queries_in k cursors)) + handlers_costs k scopes +
    own_cost (routines_of catalog) own

module _ (place inner : Place) (outer : List Scope) (s : Scope) (area : Area) (h : BoundHandler)
    (is : IsAction place outer s area inner) where
  -- what an action does where it is run
  pub action_does :
      does (stmt_in (known_of inner) (out-BoundHandler h).action (queries_of inner))
      (context_of inner) ≡
      acts_of place (scopes_by (acts_of place) outer) s h area
  action_does =
      (λ i. does_by (is.catalog i) (is.own i) (is.cursors i) (is.scopes i) (is.level i)
      (is.stacked i) (out-BoundHandler h).action)
      ∙ (λ i. does (sym (action_is (known_of place) h) i
      (queries_in (known_of place) s.queries.now))
      (in_action (scopes_are (known_of place) (self_of place) (again_of place) outer [] i) area
      (at_level (self_of place) (again_of place) s.level)))

  -- and what it counts there
  pub action_cost :
      stmt_cost (stmt_in (known_of inner) (out-BoundHandler h).action (queries_of inner)) +
      scopes_cost inner + self_cost inner ≡
      stmt_cost ((handler_in (known_of place) h).action (queries_in (known_of place)
      s.queries.now)) + handlers_costs (known_of place) outer + self_cost place
  action_cost =
      (λ i. cost_by (is.catalog i) (is.own i) (is.cursors i) (is.scopes i)
      (out-BoundHandler h).action)
      ∙ (λ i. stmt_cost (sym (action_is (known_of place) h) i
      (queries_in (known_of place) s.queries.now)) + handlers_costs (known_of place) outer +
      self_cost place)

-- ---- costs

-- an action counts less than the handlers among which it stands
pub action_less : (k : Known) (cursors : List Query) (hs : List BoundHandler) (h : BoundHandler) →
    AmongThem hs h → stmt_cost ((handler_in k h).action cursors) + 3 ≤
    handlers_cost (handlers (map (handler_in k) hs) cursors)
action_less k cursors [] h (i, is) = absurd cc
action_less k cursors (g ∷ hs) h (zero, is) = omega (
  arith,
  ap (λ (x : Option BoundHandler). cost_of x) is,
)
  where
    cost_of : Option BoundHandler → ℕ
    cost_of None = 0
    cost_of (Some x) = stmt_cost ((handler_in k x).action cursors)
action_less k cursors (g ∷ hs) h (suc i, is) = omega (
  arith,
  action_less k cursors hs h (i, is),
)

-- the handlers of a compound statement and of those outside of it count at most as much as all
pub outer_less : (k : Known) (ss : List Scope) (i : ℕ) (s : Scope) → slice_get ss i ≡ Some s →
    handlers_costs k (take i ss) + handlers_cost (handlers_of k s) ≤ handlers_costs k ss
outer_less k [] i s is = absurd cc
outer_less k (t ∷ ss) zero s is = omega (arith, ap (λ (x : Option Scope). cost_of x) is)
  where
    cost_of : Option Scope → ℕ
    cost_of None = 0
    cost_of (Some x) = handlers_cost (handlers_of k x)
outer_less k (t ∷ ss) (suc i) s is = omega (arith, outer_less k ss i s is)
