-- What the plan of the tree of a function in form means is what the function means.
use Rattle.std.proofs.Common.{◌≡◌, ℕ, List, [], sym, ap, ◌∙◌}
use Rattle.rel_algebra.specs.Joins.{table_width}
use Rattle.rel_algebra.specs.Meaning.{call as calls}
use Rattle.rel_algebra.specs.Tree as whole
use Rattle.rel_algebra.specs.Tree.{Routine}
use Rattle.catalog_store.specs.Catalog.{Interpreted}
use Rattle.regions.specs.Worlds.{BodyPlans, routine_of}
use Rattle.routine_views.specs.Routines.{inside, routines_of, function_view, with_modes}
use Rattle.block_plans.specs.Callees.{Callees}
use Rattle.region_trees.specs.Laws.{BodiesMean, MayBePlanned, function_region}
use Rattle.region_trees.proofs.Embedding.{regions_embed}
use Rattle.region_trees.proofs.Bodies.{bodies_formed}

-- a function that may be planned stands for what its tree does
function-embedded : (c : Callees) (routines : List ℕ → Routine) (name : List ℕ)
    (f : Interpreted) → MayBePlanned c name f →
    function_view routines name f ≡ routine_of (function_region routines name f)
function-embedded c routines name f m =
    let k = inside routines name (with_modes [] f.parameters) in
    λ i. whole.Function (m.self_calling i) f.parameters f.returns (m.null_call i)
    (sym (regions_embed c k f.body [] m.body_formed) i)

pub bodies_mean : BodyPlans → BodiesMean
bodies_mean plans c name f values w d m shaped len fits =
    let formed = bodies_formed.stands c
    (record { name = name; parameters = with_modes [] f.parameters })
    f.body (table_width w.tables) d m.body_formed m.calls_others shaped in
    let means = plans (function_region (routines_of c.known) name f) values w formed len fits in
    record {
      end = means.end;
      has = means.has;
      ends = ap (λ r. calls r values w) (function-embedded c (routines_of c.known) name f m) ∙
          means.ends;
    }
