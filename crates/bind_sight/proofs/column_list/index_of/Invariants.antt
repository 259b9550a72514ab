use Rattle.std.proofs.Common.{take}
use Rattle.bind_sight.specs.Columns.{Counts}
use Rattle.bind_sight.proofs.column_list.index_of.Given as goal

abbrev pub invariant-loop-place : goal.invariant-loop-place
invariant-loop-place l = Counts l.index.entries (take l.place l.columns)
