use Rattle.std.proofs.Common.{◌≡◌, ◌++◌, length, map, reverse}
use Rattle.data_change.specs.Writing.{changed_row}
use Rattle.run_changes.proofs.targets.changed_rows.Given as goal

abbrev pub invariant-loop-row : goal.invariant-loop-row
invariant-loop-row l = l.rows.items ++ map (changed_row l.targets l.table.table)
    (reverse l.waiting.items) ≡ map (changed_row l.targets l.table.table) l.fn.met.items

abbrev pub decreases-loop-row : goal.decreases-loop-row
decreases-loop-row l = length l.waiting.items
