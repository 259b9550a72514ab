use Rattle.std.proofs.Common.{◌≡◌, ◌++◌, drop}
use Rattle.plan_exec.proofs.opened.copy_cells.Given as goal

abbrev pub invariant-loop-place : goal.invariant-loop-place
invariant-loop-place l = l.cells.items ++ drop l.place l.row ≡ l.fn.cells.items ++ l.row
