-- The place in which the body of a routine starts. ISO/IEC 9075-2, 10.4 (routine invocation).
use Rattle.std.specs.Prelude.{◌≡◌, [], Some}
use Rattle.rel_algebra.specs.Meaning.{start_of}
use Rattle.catalog_store.specs.Catalog.{Catalog}
use Rattle.routine_views.specs.Routines.{inside, routines_of}
use Rattle.run_places.specs.declared.place.Own.{Own}
use Rattle.run_places.specs.declared.place.Place.{Place}
use Rattle.run_places.specs.Places.{again_within, context_of, known_of, own_cost, own_view}
use Rattle.run_places.specs.Places.{parameters_in, queries_of, scopes_cost, self_cost, self_within}

-- the place of the body of a routine, by what it says
pub record StartsBody (catalog : Catalog) (own : Own) (start : Place) : Type 0 where
  pub known : known_of start ≡ inside (routines_of catalog) own.name.now
      (parameters_in own.routine)
  -- no handler is in sight, and no loop around
  pub context : context_of start ≡ start_of
      (self_within own.room (own_view (routines_of catalog) own))
      (again_within own.room (own_view (routines_of catalog) own))
  pub queries : queries_of start ≡ []
  pub cost : self_cost start ≡ own_cost (routines_of catalog) (Some own)
  pub scopes : scopes_cost start ≡ 0
