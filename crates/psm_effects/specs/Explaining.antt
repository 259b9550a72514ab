-- What EXPLAIN replies of a query, byte by byte. ISO/IEC 9075-2, 7.17 (query expression).
use Rattle.std.specs.Prelude.{ℕ, ◌≡◌, true, List, if◌then◌else◌}
use Rattle.std.specs.List.{IsDistinct}
use Rattle.std.specs.Str.{bytes_eq}
use Rattle.bound_trees.specs.declared.query.BoundQuery.{BoundQuery}
use Rattle.rel_algebra.specs.Applies.{counted}
use Rattle.rel_algebra.specs.Emit.{plan, top}
use Rattle.rel_algebra.specs.Plain.{planned}
use Rattle.rel_algebra.specs.Plan.{PlanTree}
use Rattle.catalog_store.specs.Catalog.{Catalog, names_of}
use Rattle.routine_views.specs.Views.{query_in}
use Rattle.block_plans.specs.Callees.{Callees, width_in}
use Rattle.block_plans.specs.View.{query_seen}
use Rattle.call_places.specs.Places.{inlined_places, interpreted_places}
use Rattle.called_blocks.specs.Planned.{all_planned}
use Rattle.plan_text.specs.Explained.{by_plan_text, by_row_text}
use Rattle.run_places.specs.Places.{no_routine}
use Rattle.psm_effects.specs.Preparing.{IsPlanOf}

-- the plan that is told of a query, where its calls run these: the one that the emitter makes
abbrev pub told_plan : Callees → BoundQuery → PlanTree
told_plan k q = plan (query_seen k q) (width_in k) (top 0)

-- Where a query has a plan by what its calls run, that is told, with its nodes counted, and that so
-- many places are inlined; else it is answered row by row, and in how many places functions are
-- called is told.
abbrev pub explained_by : Callees → BoundQuery → List ℕ
explained_by k q =
    if planned (query_seen k q) then by_plan_text (counted (inlined_places k q)) (told_plan k q)
    else by_row_text (counted (inlined_places k q)) (counted (interpreted_places k q))

-- The reply: calls run the functions of the catalog that have plans, and each block that may have
-- one.
abbrev pub explained : Catalog → BoundQuery → List ℕ
explained known q = explained_by (all_planned known q) q

-- A plan that is told is one of the query as it is run, in no routine, for the tables of the catalog,
-- whose names differ.
abbrev pub TellsPlan : Catalog → BoundQuery → Type 0
TellsPlan known q =
    let k = all_planned known q in
    IsDistinct bytes_eq (names_of known) → planned (query_seen k q) ≡ true →
    IsPlanOf (query_in (no_routine known) q) (width_in k) (told_plan k q)

-- A query of this catalog is explained: the reply is this one, and a plan that it tells means the
-- query, whatever the tables hold.
pub record IsExplained (known : Catalog) (q : BoundQuery) (reply : List ℕ) : Type 0 where
  pub replies : reply ≡ explained known q
  pub means : TellsPlan known q
