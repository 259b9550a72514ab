use Rattle.std.proofs.Common.{◌≡◌, take}
use Rattle.run_rows.proofs.groups.copied_values.Given as goal

abbrev pub invariant-loop-value : goal.invariant-loop-value
invariant-loop-value l = l.row ≡ take l.value-index l.values
