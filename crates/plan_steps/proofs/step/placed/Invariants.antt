use Rattle.std.proofs.Common.{◌≡◌, drop}
use Rattle.rel_algebra.specs.BodySteps.{placed}
use Rattle.rel_algebra.specs.Joins.{places}
use Rattle.plan_steps.specs.Steps.{stores_of}
use Rattle.plan_steps.proofs.step.placed.Given as goal

abbrev pub invariant-loop-store : goal.invariant-loop-store
invariant-loop-store l = placed (stores_of (drop l.store-index l.stores)) l.place l.kept ≡ placed
    (stores_of l.stores) l.first (places 0 l.columns)
