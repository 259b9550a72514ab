use Rattle.std.proofs.Common.{map, ◌++◌, arith}
use Rattle.row_types.specs.declared.cell.Cell.TheVariants.{Val}
use Rattle.plan_nodes.proofs.Picks.{cell_more}
use Rattle.plan_nodes.proofs.last.own_values.Goals as goal

pub loop-place-preserved : goal.loop-place-preserved
loop-place-preserved c =
    cell_more c.args.row.now c.loop-place.place (map Val c.loop-place.values.items)
    (map Val c.take_value.new.values.items) c.in_ok-cell.cell
    (map Val c.args.values.now.items ++ c.args.row.now)
    (omega (arith, c.loop-place-test.true, c.len-place-end.ensures)) c.in_ok-cell.ensures
    (c.in_ok-take_value.ensures.values c.if-not-branch.false) c.loop-place.invariant
