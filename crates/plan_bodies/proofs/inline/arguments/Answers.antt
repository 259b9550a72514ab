use Rattle.std.proofs.Common.{arith}
use Rattle.plan_bodies.proofs.Parameters.{arguments_done, arguments_next}
use Rattle.plan_bodies.proofs.inline.arguments.Goals as goal
use Rattle.plan_expressions.proofs.Laws.{scalar_of-Argument}
use Rattle.rel_algebra.specs.BodyChain.{arguments}
use Rattle.rel_algebra.specs.declared.scalar.Scalar.TheVariants as code

pub loop-place-preserved : goal.loop-place-preserved
loop-place-preserved c =
    arguments_next c.loop-place.cells c.push.new.self c.args.count c.loop-place.place
    (code.Argument c.loop-place.place) (arguments 0 c.args.count) c.loop-place-test.true
    (scalar_of-Argument c.loop-place.place) c.in_ok-push.ensures.ok c.loop-place.invariant

pub returns : goal.returns
returns c =
    arguments_done c.loop-place.cells c.args.count c.loop-place.place (arguments 0 c.args.count)
    (omega (arith, c.loop-place-test.false, c.loop-place.auto.place-end)) c.loop-place.invariant
