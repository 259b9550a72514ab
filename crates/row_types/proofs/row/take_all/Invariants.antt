use Rattle.std.proofs.Common.{◌≡◌, drop}
use Rattle.row_types.specs.Rows.{take_all}
use Rattle.row_types.proofs.row.take_all.Given as goal

abbrev pub invariant-loop-i : goal.invariant-loop-i
invariant-loop-i l = take_all (drop l.i l.columns) (drop l.i l.values) ≡ take_all l.columns l.values
