use Rattle.std.proofs.Common.{◌≡◌, ◌++◌, drop, map}
use Rattle.rel_algebra.specs.BodyChain.{target_stores}
use Rattle.routine_views.specs.Views.{target}
use Rattle.plan_steps.specs.Places.{env_in}
use Rattle.plan_steps.specs.Steps.{stores_of}
use Rattle.plan_statements.proofs.storing.target_stores.Given as goal

abbrev pub invariant-loop-target : goal.invariant-loop-target
invariant-loop-target l = stores_of l.stores ++ target_stores (map target
    (drop l.target-index l.targets)) (env_in l.place) l.spot.columns l.tested l.cell
    ≡ target_stores (map target l.targets) (env_in l.place) l.spot.columns l.tested l.first
