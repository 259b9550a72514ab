-- The reply tells how the change ends.
use Rattle.psm_effects.specs.Effects.{changed_text}
use Rattle.psm_effects.proofs.Concluding.{given_effect, given_shapes, stopped_shapes}
use Rattle.psm_effects.proofs.change.change_in.Goals as goal

pub returns-in-Ok-clause-ok : goal.returns-in-Ok-clause-ok
returns-in-Ok-clause-ok g c =
    given_effect changed_text c.args.catalog.now c.args.world.now c.made_by.new.world
    c.conclude.new.world _ c.in-Ok.count c.done_reply.result c.conclude.result
    c.in-Ok.ensures.tells c.done_reply.ensures c.conclude.ensures.same c.conclude.ensures.ok

pub returns-in-Ok-clause-shapes : goal.returns-in-Ok-clause-shapes
returns-in-Ok-clause-shapes g c =
    given_shapes c.mark-mark.result c.args.world.now c.made_by.new.world c.conclude.new.world
    c.conclude.result c.mark-mark.ensures c.in-Ok.ensures.stays
    c.conclude.ensures.ok c.conclude.ensures.err

pub returns-in-Err-clause-shapes : goal.returns-in-Err-clause-shapes
returns-in-Err-clause-shapes g c =
    stopped_shapes c.in-Err.stop c.mark-mark.result c.args.world.now c.made_by.new.world
    c.stop_reply.new.world c.stop_reply.result c.mark-mark.ensures c.in-Err.ensures.stays
    c.stop_reply.ensures
