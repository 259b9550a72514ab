use Rattle.std.proofs.Common.{◌≡◌, ◌++◌, drop}
use Rattle.row_types.proofs.gather.move_cells.Given as goal

abbrev pub invariant-loop-i : goal.invariant-loop-i
invariant-loop-i l = l.row ++ drop l.i l.cells ≡ l.fn.row ++ l.fn.cells
