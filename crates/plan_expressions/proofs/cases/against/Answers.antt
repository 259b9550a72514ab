use Rattle.rel_algebra.specs.Emit.{against}
use Rattle.rel_algebra.specs.PlanView.{scalars_of}
use Rattle.plan_expressions.proofs.Arms.{pair_next, last_next, arms_done}
use Rattle.plan_expressions.proofs.cases.against.Goals as goal

pub loop-first-preserved-in_ok-push-in-Some-pop-2 :
    goal.loop-first-preserved-in_ok-push-in-Some-pop-2
loop-first-preserved-in_ok-push-in-Some-pop-2 c =
    pair_next c.args.column c.loop-first.arms c.push.new.self c.push-in-Some-pop.new.self
    c.loop-first.left c.pop.new.self c.pop-in-Some.new.self c.in-Some.first c.in-Some-pop.result
    c.in_ok-compared-in-Some-pop.field-0 (against c.args.column (scalars_of c.args.scalars))
    c.in-Some.ensures c.in-Some-pop.ensures c.in_ok-compared-in-Some-pop.ensures
    c.in_ok-push-in-Some-pop.ensures.ok c.in_ok-push-in-Some-pop-2.ensures.ok c.loop-first.invariant

pub loop-first-preserved : goal.loop-first-preserved
loop-first-preserved c =
    last_next c.args.column c.loop-first.arms c.push-in-None.new.self c.loop-first.left
    c.pop.new.self c.pop-in-Some.new.self c.in-Some.first
    (against c.args.column (scalars_of c.args.scalars)) c.in-Some.ensures c.in-None.ensures.0
    c.in-None.ensures.1 c.in_ok-push-in-None.ensures.ok c.loop-first.invariant

pub returns : goal.returns
returns c = arms_done c.args.column c.loop-first.arms c.loop-first.left
    (against c.args.column (scalars_of c.args.scalars)) c.in_default.ensures.0
    c.loop-first.invariant
