use Rattle.std.proofs.Common.{◌++◌, map, arith}
use Rattle.row_types.specs.declared.cell.Cell.TheVariants.{Val}
use Rattle.rel_algebra.specs.Joins.{places}
use Rattle.rel_algebra.specs.Plan.{cells_at}
use Rattle.plan_nodes.proofs.Picks.{front_cell, no_cell}
use Rattle.plan_nodes.proofs.last.front_values.Goals as goal

pub loop-place-preserved : goal.loop-place-preserved
loop-place-preserved c =
    front_cell c.args.row.now c.loop-place.place c.args.count (map Val c.loop-place.values.items)
    c.in_ok-cell.cell (map Val c.take_value.new.values.items)
    (map Val c.args.values.now.items ++ cells_at c.args.row.now (places 0 c.args.count))
    c.loop-place-test.true c.in_ok-cell.ensures
    (c.in_ok-take_value.ensures.values c.if-not-branch.false) c.loop-place.invariant

pub returns : goal.returns
returns c all =
    no_cell c.args.row.now c.loop-place.place c.args.count (map Val c.loop-place.values.items)
    (map Val c.args.values.now.items ++ cells_at c.args.row.now (places 0 c.args.count))
    (omega (arith, c.loop-place-test.false)) c.loop-place.invariant
