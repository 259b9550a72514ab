use Rattle.std.proofs.Common.{◌≡◌, drop, map}
use Rattle.rel_algebra.specs.BodyDispatch.{Codes, general_arms}
use Rattle.rel_algebra.specs.Plan.{Scalars}
use Rattle.block_plans.specs.Callees.{Callees}
use Rattle.plan_expressions.specs.Emission.{put}
use Rattle.plan_steps.specs.Places.{aimed_by, coded_in}
use Rattle.plan_steps.proofs.dispatch.put_general.Given as goal

abbrev pub invariant-loop-handler : goal.invariant-loop-handler
invariant-loop-handler l = (known : Callees) (outer : Codes) (rest : Scalars) →
    put l.arms (general_arms (aimed_by l.aim) (map (coded_in known outer)
    (drop l.handler-index l.handlers)) l.own l.column rest) ≡ put l.initial.arms
    (general_arms (aimed_by l.aim) (map (coded_in known outer) l.handlers) l.first l.column rest)
