use Rattle.std.proofs.Common.{ℕ, subst}
use Rattle.rel_algebra.specs.World.{Ends, unit}
use Rattle.routine_views.specs.Views.{query_in}
use Rattle.run_expressions.specs.Content.{world_of}
use Rattle.run_expressions.specs.Ending.{Ended}
use Rattle.run_routines.specs.Writing.{writes}
use Rattle.run_routines.proofs.alone.change_alone.Goals as goal

pub returns : goal.returns
returns c =
    let known = c.in_no_routine-place.ensures.known in
    let context = c.in_no_routine-place.ensures.context in
    let empty = c.empty-frame.ensures in
    subst (λ (e : Ends ℕ). Ended c.args.world.now c.changed.new.world c.changed.result e)
    (λ i. unit (writes c.args.change c.args.table.now (query_in (known i) c.args.query.now)
    (context i).self (empty i)) (world_of c.args.world.now)) c.changed.ensures
