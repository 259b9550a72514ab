use Rattle.std.proofs.Common.{◌≡◌, ◌++◌, drop}
use Rattle.plan_exec.proofs.into.add_cells.Given as goal

abbrev pub invariant-loop-cell : goal.invariant-loop-cell
invariant-loop-cell l = l.cells.items ++ drop l.cell-index l.more ≡ l.fn.cells.items ++ l.more
