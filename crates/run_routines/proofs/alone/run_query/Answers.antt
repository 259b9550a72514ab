use Rattle.std.proofs.Common.{List, [], subst}
use Rattle.row_types.specs.Rows.{Row}
use Rattle.rel_algebra.specs.Meaning.{answer}
use Rattle.rel_algebra.specs.World.{Ends, unit}
use Rattle.routine_views.specs.Views.{query_in}
use Rattle.run_expressions.specs.Content.{world_of}
use Rattle.run_expressions.specs.Ending.{Ended}
use Rattle.run_routines.proofs.alone.run_query.Goals as goal

pub returns : goal.returns
returns c =
    let known = c.in_no_routine-place.ensures.known in
    let context = c.in_no_routine-place.ensures.context in
    let empty = c.empty-frame.ensures in
    subst (λ (e : Ends (List Row)). Ended c.args.world.now c.assess.new.world c.assess.result e)
    (λ i. unit (answer (query_in (known i) c.args.query.now) (context i).self [] (empty i))
    (world_of c.args.world.now)) c.assess.ensures
