-- What the actions of handlers do, and the places inside a place: that of an action, and that of the
-- statements of a compound statement. ISO/IEC 9075-4, 14.1 (compound statement) and 14.2 (handler
-- declaration).
use Rattle.std.specs.Prelude.{◌≡◌, suc, List, Bool, true, false, Some, if◌then◌else◌}
use Rattle.std.specs.Borrow.{Bor}
use Rattle.sql_conditions.specs.Conditions.{Area}
use Rattle.bound_trees.specs.declared.condition.BoundHandlerType.{BoundHandlerType}
use Rattle.bound_trees.specs.declared.condition.BoundHandlerType.TheVariants.{Continue, Exit, Undo}
use Rattle.bound_trees.specs.declared.query.BoundQuery.{BoundQuery}
use Rattle.rel_algebra.specs.World.{Called, Calling}
use Rattle.rel_algebra.specs.Doing.{Doing, Next, Raising, ends}
use Rattle.rel_algebra.specs.Meaning.{does, in_action}
use Rattle.routine_views.specs.Views.{Known}
use Rattle.run_outcomes.specs.declared.choice.Scope.{Scope}
use Rattle.run_outcomes.specs.Scopes.{Acts}
use Rattle.run_places.specs.declared.place.Place.{Place}
use Rattle.run_places.specs.Places.{known_of, self_of, again_of, queries_in, handler_in, at_level}
use Rattle.run_places.specs.Places.{stacked_of}

-- what the action of a handler does, by the compound statements outside its own, and its own
abbrev pub acts_in : Known → Called → Calling → Acts
acts_in k self again outer s h area =
    does ((handler_in k h).action (queries_in k s.queries.now))
    (in_action outer area (at_level self again s.level))

-- the same at a place
abbrev pub acts_of : Place → Acts
acts_of place = acts_in (known_of place) (self_of place) (again_of place)

-- what no handler takes: it is raised, or dropped
abbrev pub untaken_by : Bool → Area → Doing
untaken_by raised area = if raised then ends (Raising area) else ends Next

-- whether the statement after one that raised is next, once a handler of this kind has acted
abbrev pub stays_after : BoundHandlerType → Bool
stays_after Continue = true
stays_after Exit = false
stays_after Undo = false

-- whether a handler of this kind takes changes of tables back before it acts
abbrev pub undoes_by : BoundHandlerType → Bool
undoes_by Continue = false
undoes_by Exit = false
undoes_by Undo = true

-- ---- places inside a place

-- the place of an action of a compound statement's handler, by the compound statements outside of
-- that one, and the conditions that it handles
pub record IsAction (place : Place) (outer : List Scope) (s : Scope) (area : Area)
    (inner : Place) : Type 0 where
  pub catalog : inner.catalog.now ≡ place.catalog.now
  pub own : inner.own ≡ place.own
  pub cursors : inner.cursors.now ≡ s.queries.now
  pub scopes : inner.scopes.now ≡ outer
  pub level : inner.level ≡ suc s.level
  pub stacked : stacked_of inner ≡ Some area

-- the place of the statements of a compound statement, by the cursors and the compound statements
-- that are in sight there
pub record IsWithin (place : Place) (seen : List (Bor BoundQuery)) (around : List Scope)
    (inner : Place) : Type 0 where
  pub catalog : inner.catalog.now ≡ place.catalog.now
  pub own : inner.own ≡ place.own
  pub cursors : inner.cursors.now ≡ seen
  pub scopes : inner.scopes.now ≡ around
  pub level : inner.level ≡ suc place.level
  pub stacked : stacked_of inner ≡ stacked_of place
