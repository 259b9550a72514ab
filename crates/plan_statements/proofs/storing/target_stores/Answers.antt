use Rattle.std.proofs.Common.{map}
use Rattle.rel_algebra.specs.BodyChain.{target_stores}
use Rattle.routine_views.specs.Views.{target}
use Rattle.plan_steps.specs.Places.{env_in}
use Rattle.plan_statements.proofs.Cells.{stores_done, stores_next}
use Rattle.plan_statements.proofs.storing.target_stores.Goals as goal

pub loop-target-preserved : goal.loop-target-preserved
loop-target-preserved c =
    stores_next (env_in c.args.place.now) c.args.spot.now.columns c.args.tested c.args.targets.now
    c.loop-target.target-index c.loop-target.cell c.in_ok-cell.cell _ c.column_at-column.result
    c.loop-target.stores c.store_if.new.stores
    (target_stores (map target c.args.targets.now) (env_in c.args.place.now)
    c.args.spot.now.columns c.args.tested c.args.first) c.loop-target-test.true
    c.column_at-column.ensures c.in_ok-store_if.ensures c.in_ok-cell.ensures
    c.loop-target.invariant

pub returns : goal.returns
returns c =
    stores_done (env_in c.args.place.now) c.args.spot.now.columns c.args.tested c.args.targets.now
    c.loop-target.target-index c.loop-target.cell c.loop-target.stores
    (target_stores (map target c.args.targets.now) (env_in c.args.place.now)
    c.args.spot.now.columns c.args.tested c.args.first) c.loop-target-test.false
    c.loop-target.invariant
