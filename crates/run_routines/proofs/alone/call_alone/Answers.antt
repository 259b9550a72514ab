use Rattle.std.proofs.Common.{List, subst}
use Rattle.sql_values.specs.declared.value.Value.{Value}
use Rattle.rel_algebra.specs.World.{Ends}
use Rattle.routine_views.specs.Views.{arguments as arguments_in, performed}
use Rattle.run_expressions.specs.Content.{world_of}
use Rattle.run_expressions.specs.Ending.{Ended}
use Rattle.run_places.specs.Passing.{comes_back}
use Rattle.run_routines.proofs.alone.call_alone.Goals as goal

pub returns : goal.returns
returns c =
    let known = c.in_no_routine-place.ensures.known in
    let context = c.in_no_routine-place.ensures.context in
    let empty = c.empty-frame.ensures in
    let arguments = c.as_slice.ensures in
    subst (λ (e : Ends (List Value)). Ended c.args.world.now c.perform.new.world c.perform.result e)
    (λ i. comes_back (performed (known i) c.args.call.now.procedure
    (arguments_in (known i) (arguments i))) (context i) (empty i) (world_of c.args.world.now))
    c.perform.ensures
