use Rattle.std.proofs.Common.{◌≡◌, ◌++◌, length, map, reverse, Some}
use Rattle.data_change.specs.Writing.{spread}
use Rattle.run_changes.proofs.targets.spread_rows.Given as goal

abbrev pub invariant-loop-values : goal.invariant-loop-values
invariant-loop-values l = l.rows.items ++ map (spread (Some l.listed) l.table.table)
    (reverse l.waiting.items) ≡ map (spread (Some l.listed) l.table.table) l.fn.new.items

abbrev pub decreases-loop-values : goal.decreases-loop-values
decreases-loop-values l = length l.waiting.items
