use Rattle.std.proofs.Common.{◌≡◌, take}
use Rattle.run_changes.proofs.any_places.copied_rows.Given as goal

abbrev pub invariant-loop-at : goal.invariant-loop-at
invariant-loop-at l = l.rows.items ≡ take l.at l.table.table.rows
