-- Only rows change.
use Rattle.psm_effects.proofs.Concluding.{given_shapes, stopped_shapes}
use Rattle.psm_effects.proofs.alone.run_in.Goals as goal

pub returns-in-Some-clause-shapes : goal.returns-in-Some-clause-shapes
returns-in-Some-clause-shapes c =
    stopped_shapes c.in-Some.stop c.mark-mark.result c.args.world.now c.run_alone.new.world
    c.stop_reply.new.world c.stop_reply.result c.mark-mark.ensures c.run_alone.ensures.stays
    c.stop_reply.ensures

pub returns-in-None-clause-shapes : goal.returns-in-None-clause-shapes
returns-in-None-clause-shapes c =
    given_shapes c.mark-mark.result c.args.world.now c.run_alone.new.world c.conclude.new.world
    c.conclude.result c.mark-mark.ensures c.run_alone.ensures.stays c.conclude.ensures.ok
    c.conclude.ensures.err
