use Rattle.std.proofs.Common.{◌≡◌, length, take}
use Rattle.run_rows.proofs.rows.cut.Given as goal

abbrev pub invariant-loop-row : goal.invariant-loop-row
invariant-loop-row l = take l.width l.row ≡ take l.width l.initial.row

abbrev pub decreases-loop-row : goal.decreases-loop-row
decreases-loop-row l = length l.row
