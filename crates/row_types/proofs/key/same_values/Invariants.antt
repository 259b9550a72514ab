use Rattle.std.proofs.Common.{◌≡◌, drop}
use Rattle.row_types.specs.Groups.{same_row}
use Rattle.row_types.proofs.key.same_values.Given as goal

abbrev pub invariant-loop-i : goal.invariant-loop-i
invariant-loop-i l = same_row (drop l.i l.a) (drop l.i l.b) ≡ same_row l.a l.b
