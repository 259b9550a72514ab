-- A change ends as it is made of its plan's rows, or as its plan raises.
use Rattle.std.proofs.Common.{List, [], ap, sym, ◌∙◌}
use Rattle.row_types.specs.Rows.{Row}
use Rattle.table_store.specs.Memory.{Memory}
use Rattle.bound_trees.specs.declared.query.BoundQuery.{BoundQuery}
use Rattle.sql_conditions.specs.Conditions.{Area}
use Rattle.rel_algebra.specs.World.{Ends, no_self, no_frame}
use Rattle.rel_algebra.specs.Meaning.{answer}
use Rattle.catalog_store.specs.Catalog.{Catalog}
use Rattle.plan_exec.specs.declared.collecting.Answer.{Answer}
use Rattle.plan_exec.specs.declared.collecting.Answer.TheVariants.{Raised}
use Rattle.routine_views.specs.Views.{query_in}
use Rattle.run_expressions.specs.Content.{Content, world_of}
use Rattle.run_places.specs.Places.{no_routine}
use Rattle.psm_effects.specs.Answering.{ends_with}
use Rattle.psm_effects.specs.Tasks.{rows_query, made}
use Rattle.psm_effects.proofs.Answering.{given_ends, raised_ends}
use Rattle.psm_effects.proofs.change.make.Goals as goal

-- how a query ends in a world
abbrev ended : Catalog → Content → BoundQuery → Ends (List Row)
ended known w q = answer (query_in (no_routine known) q) no_self [] no_frame (world_of w)

pub returns-in-Rows : goal.returns-in-Rows
returns-in-Rows g c =
    let w = c.args.world.now in
    given_ends (made c.args.change)
    (query_in (no_routine c.args.catalog.now) (rows_query c.args.change))
    c.in-Rows.rows w c.make_of.new.world c.make_of.result
    (ap (ended c.args.catalog.now w) (sym c.query.ensures) ∙ c.in_ok-rows.ensures.ends (world_of w)
    (sym (ap (λ (m : Memory). m.tables) c.tables.ensures))
    ∙ ap (λ (a : Answer). ends_with a (world_of w)) c.in-Rows.is)
    c.make_of.ensures

pub returns-in_ok-held-in-Raised : goal.returns-in_ok-held-in-Raised
returns-in_ok-held-in-Raised g c =
    let w = c.args.world.now in
    raised_ends (made c.args.change)
    (query_in (no_routine c.args.catalog.now) (rows_query c.args.change))
    c.in_ok-held-in-Raised.field-0 w
    (ap (ended c.args.catalog.now w) (sym c.query.ensures) ∙ c.in_ok-rows.ensures.ends (world_of w)
    (sym (ap (λ (m : Memory). m.tables) c.tables.ensures))
    ∙ ap (λ (a : Answer). ends_with a (world_of w)) c.in-Raised.is
    ∙ ap (λ (area : Area). ends_with (Raised area) (world_of w))
    (sym c.in_ok-held-in-Raised.ensures))
