use Rattle.std.proofs.Common.{[], subst}
use Rattle.rel_algebra.specs.Doing.{End}
use Rattle.rel_algebra.specs.Meaning.{does, run}
use Rattle.routine_views.specs.Views.{stmt_in}
use Rattle.run_expressions.specs.Content.{world_of}
use Rattle.run_places.specs.Places.{no_routine}
use Rattle.run_places.specs.Ran.{Ran}
use Rattle.run_routines.proofs.Ends.{end_told}
use Rattle.run_routines.proofs.alone.run_alone.Goals as goal

pub returns-clause-ends : goal.returns-clause-ends
returns-clause-ends c =
    let known = c.in_no_routine-place.ensures.known in
    let context = c.in_no_routine-place.ensures.context in
    let cursors = c.in_no_routine-place.ensures.cursors in
    let empty = c.empty-frame.ensures in
    end_told c.args.world.now c.run_stmt.new.world c.run_stmt.new.frame c.run_stmt.result
    (run (stmt_in (no_routine c.args.catalog.now) c.args.stmt.now [])
    (world_of c.args.world.now))
    (subst (λ (e : End). Ran c.args.world.now c.run_stmt.new.world c.run_stmt.new.frame
    c.run_stmt.result e)
    (λ i. does (stmt_in (known i) c.args.stmt.now (cursors i)) (context i) (empty i)
    (world_of c.args.world.now)) c.run_stmt.ensures)

pub returns-clause-stays : goal.returns-clause-stays
returns-clause-stays c = c.run_stmt.ensures.stays
