-- The reply tells what the query's plan answers.
use Rattle.std.proofs.Common.{ap, sym, ◌∙◌}
use Rattle.table_store.specs.Memory.{Memory}
use Rattle.routine_views.specs.Views.{query_in}
use Rattle.run_places.specs.Places.{no_routine}
use Rattle.plan_exec.specs.declared.collecting.Answer.{Answer}
use Rattle.run_expressions.specs.Content.{world_of}
use Rattle.psm_effects.specs.Answering.{ends_with}
use Rattle.psm_effects.proofs.Answering.{rows_effect, area_effect}
use Rattle.psm_effects.proofs.world.answer_in.Goals as goal

pub returns-in-Rows-clause-ok : goal.returns-in-Rows-clause-ok
returns-in-Rows-clause-ok g c =
    let w = c.args.world.now in
    rows_effect c.args.catalog.now w (query_in (no_routine c.args.catalog.now) c.args.query.now)
    c.in-Rows.rows c.rows_reply.result
    (c.in_ok-rows.ensures.ends (world_of w) (sym (ap (λ (m : Memory). m.tables) c.tables.ensures)) ∙
    ap (λ (a : Answer). ends_with a (world_of w)) c.in-Rows.is)
    c.rows_reply.ensures.reply

pub returns-in-Raised-clause-ok : goal.returns-in-Raised-clause-ok
returns-in-Raised-clause-ok g c =
    let w = c.args.world.now in
    area_effect c.args.catalog.now w (query_in (no_routine c.args.catalog.now) c.args.query.now)
    c.in-Raised.area c.area_reply.result
    (c.in_ok-rows.ensures.ends (world_of w) (sym (ap (λ (m : Memory). m.tables) c.tables.ensures)) ∙
    ap (λ (a : Answer). ends_with a (world_of w)) c.in-Raised.is)
    c.area_reply.ensures
