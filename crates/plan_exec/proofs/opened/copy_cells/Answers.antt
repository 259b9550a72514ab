use Rattle.std.proofs.Common.{◌++◌, arith}
use Rattle.plan_nodes.proofs.Laws.{cell_more}
use Rattle.plan_exec.proofs.opened.copy_cells.Goals as goal

pub loop-place-preserved : goal.loop-place-preserved
loop-place-preserved c =
    cell_more c.args.row.now c.loop-place.place c.loop-place.cells.items c.push.new.self.items
    c.in_ok-own_cell.field-0 (c.args.cells.now.items ++ c.args.row.now)
    (omega (arith, c.loop-place-test.true, c.len-place-end.ensures)) c.in_ok-own_cell.ensures
    c.in_ok-push.ensures.items c.loop-place.invariant
