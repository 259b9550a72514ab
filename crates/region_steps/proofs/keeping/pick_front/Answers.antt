use Rattle.std.proofs.Common.{◌++◌, arith}
use Rattle.rel_algebra.specs.Joins.{places}
use Rattle.rel_algebra.specs.Plan.{cells_at}
use Rattle.region_steps.proofs.Cells.{front_cell, no_cell}
use Rattle.region_steps.proofs.keeping.pick_front.Goals as goal

pub loop-place-preserved : goal.loop-place-preserved
loop-place-preserved c =
    front_cell c.args.row.now c.loop-place.place c.args.count c.loop-place.cells.items
    c.in_ok-own_cell.field-0 c.push.new.self.items
    (c.args.cells.now.items ++ cells_at c.args.row.now (places 0 c.args.count))
    c.loop-place-test.true c.in_ok-own_cell.ensures c.in_ok-push.ensures.items
    c.loop-place.invariant

pub returns : goal.returns
returns c =
    no_cell c.args.row.now c.loop-place.place c.args.count c.loop-place.cells.items
    (c.args.cells.now.items ++ cells_at c.args.row.now (places 0 c.args.count))
    (omega (arith, c.loop-place-test.false)) c.loop-place.invariant
