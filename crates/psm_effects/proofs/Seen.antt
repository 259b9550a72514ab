-- A query that has a plan is the same by the views of the catalog's routines.
use Rattle.std.proofs.Common.{◌≡◌, true}
use Rattle.std.specs.List.{IsDistinct}
use Rattle.std.specs.Str.{bytes_eq}
use Rattle.bound_trees.specs.declared.query.BoundQuery.{BoundQuery}
use Rattle.rel_algebra.specs.Plain.{planned}
use Rattle.catalog_store.specs.Catalog.{Catalog, names_of}
use Rattle.catalog_store.specs.View.{query_of}
use Rattle.routine_views.specs.Views.{query_in}
use Rattle.run_places.specs.Places.{no_routine}
use Rattle.viewing_laws.proofs.Laws.{planned_views}

pub planned_seen : (catalog : Catalog) (q : BoundQuery) → IsDistinct bytes_eq (names_of catalog) →
    planned (query_of catalog q) ≡ true → query_in (no_routine catalog) q ≡ query_of catalog q
planned_seen catalog q distinct h = (planned_views.outside_routines catalog distinct).queries q tt h
