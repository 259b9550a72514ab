use Rattle.rel_algebra.specs.BodyDispatch.{dispatch, is_value}
use Rattle.rel_algebra.specs.Plan.{more}
use Rattle.rel_algebra.specs.PlanView.{scalar_of}
use Rattle.plan_steps.specs.Places.{codes_of, env_in}
use Rattle.plan_steps.proofs.Dispatching.{arms_after, case_arms}
use Rattle.plan_steps.proofs.dispatch.code_or.Goals as goal

pub returns : goal.returns
returns c =
    let p = c.args.place.now in let spot = c.args.spot.now in
    let arms = dispatch (codes_of p) (env_in p) spot.base spot.here c.args.column in
    case_arms c.put_dispatch.new.arms
    (more (is_value c.args.column) (more (scalar_of c.args.goes) arms))
    (arms_after c.new-arms.result c.push.new.self c.push-2.new.self c.put_dispatch.new.arms
    c.in_ok-is_value.field-0 c.args.goes (is_value c.args.column) arms c.new-arms.ensures
    c.in_ok-push.ensures.ok c.in_ok-push-2.ensures.ok c.in_ok-is_value.ensures
    c.in_ok-put_dispatch.ensures)
