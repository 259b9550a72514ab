use Rattle.std.proofs.Common.{◌∙◌, List, ap}
use Rattle.rel_algebra.specs.BodyDispatch.{dispatch}
use Rattle.rel_algebra.specs.declared.scalar.Scalar.{Scalar}
use Rattle.plan_expressions.specs.Emission.{put}
use Rattle.plan_steps.specs.Places.{codes_of, env_in}
use Rattle.plan_steps.proofs.Dispatching.{case_arms}
use Rattle.plan_steps.proofs.dispatch.dispatched.Goals as goal

pub returns : goal.returns
returns c =
    let p = c.args.place.now in
    let arms = dispatch (codes_of p) (env_in p) c.args.first c.args.here c.args.column in
    case_arms c.put_dispatch.new.arms arms
    (c.in_ok-put_dispatch.ensures ∙ ap (λ (ss : List Scalar). put ss arms) c.new-arms.ensures)
