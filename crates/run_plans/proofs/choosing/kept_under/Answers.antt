use Rattle.std.proofs.Common.{◌≡◌, subst}
use Rattle.std.specs.Prelude.{IfSome}
use Rattle.kept_queries.specs.declared.sight.InSight.{InSight}
use Rattle.run_plans.proofs.choosing.kept_under.Goals as goal

pub returns-in-Ok-clause-sight : goal.returns-in-Ok-clause-sight
returns-in-Ok-clause-sight c =
    subst (λ (s : InSight). IfSome c.kept_at.result (λ k. k.now.in_sight ≡ s)) c.in-Ok.ensures
    c.kept_at.ensures.sight
