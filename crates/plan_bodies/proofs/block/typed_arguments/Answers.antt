use Rattle.std.proofs.Common.{length}
use Rattle.plan_bodies.proofs.Parameters.{typed_done, typed_next}
use Rattle.plan_bodies.proofs.block.typed_arguments.Goals as goal
use Rattle.rel_algebra.specs.BodyChain.{read_outward}
use Rattle.rel_algebra.specs.Environments.{top}

pub loop-place-preserved : goal.loop-place-preserved
loop-place-preserved c =
    typed_next c.args.parameters.now c.loop-place.place _
    c.loop-place.cells c.push.new.self c.in_ok-typed_argument.field-0
    (read_outward (top (length c.args.parameters.now)) 0 c.args.parameters.now)
    c.loop-place-test.true c.in_ok-typed_argument.ensures
    c.in_ok-push.ensures.ok c.loop-place.invariant

pub returns : goal.returns
returns c =
    typed_done c.args.parameters.now c.loop-place.place c.loop-place.cells
    (read_outward (top (length c.args.parameters.now)) 0 c.args.parameters.now)
    c.loop-place-test.false c.loop-place.invariant
