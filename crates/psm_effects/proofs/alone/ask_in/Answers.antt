-- The reply tells how it ends.
use Rattle.std.proofs.Common.{ap, ◌∙◌}
use Rattle.reply_text.specs.Texts.{rows_text}
use Rattle.psm_effects.proofs.Answering.{if_ok}
use Rattle.psm_effects.proofs.Concluding.{given_effect, given_shapes, stopped_shapes}
use Rattle.psm_effects.proofs.alone.ask_in.Goals as goal

pub returns-in-Ok-clause-ok : goal.returns-in-Ok-clause-ok
returns-in-Ok-clause-ok c =
    given_effect rows_text c.args.catalog.now c.args.world.now c.run_query.new.world
    c.conclude.new.world _ c.in-Ok.rows c.records_reply-reply.result c.conclude.result
    c.in-Ok.ensures.tells (if_ok c.records_reply-reply.result (λ r p. p ∙ ap rows_text c.as_slice.ensures)
    c.records_reply-reply.ensures)
    c.conclude.ensures.same c.conclude.ensures.ok

pub returns-in-Ok-clause-shapes : goal.returns-in-Ok-clause-shapes
returns-in-Ok-clause-shapes c =
    given_shapes c.mark-mark.result c.args.world.now c.run_query.new.world c.conclude.new.world
    c.conclude.result c.mark-mark.ensures c.in-Ok.ensures.stays
    c.conclude.ensures.ok c.conclude.ensures.err

pub returns-in-Err-clause-shapes : goal.returns-in-Err-clause-shapes
returns-in-Err-clause-shapes c =
    stopped_shapes c.in-Err.stop c.mark-mark.result c.args.world.now c.run_query.new.world
    c.stop_reply.new.world c.stop_reply.result c.mark-mark.ensures c.in-Err.ensures.stays
    c.stop_reply.ensures
