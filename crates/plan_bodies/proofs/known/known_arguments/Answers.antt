use Rattle.std.proofs.Common.{arith, length}
use Rattle.plan_bodies.proofs.Parameters.{known_done, known_next}
use Rattle.plan_bodies.proofs.known.known_arguments.Goals as goal
use Rattle.rel_algebra.specs.BodyChain.{knowns}
use Rattle.rel_algebra.specs.Environments.{top}

pub loop-place-preserved : goal.loop-place-preserved
loop-place-preserved c =
    let types = c.args.parameters.now in
    known_next types c.loop-place.place c.loop-place.tests c.push.new.self
    c.in_ok-known_argument.field-0 (knowns (top (length types)) 0 types) c.loop-place-test.true
    c.in_ok-known_argument.ensures c.in_ok-push.ensures.ok c.loop-place.invariant

pub returns : goal.returns
returns c =
    let types = c.args.parameters.now in
    known_done types c.loop-place.place c.loop-place.tests (knowns (top (length types)) 0 types)
    (omega (arith, c.loop-place-test.false)) c.loop-place.invariant
