use Rattle.std.proofs.Common.{take}
use Rattle.bind_sight.specs.Index.{Indexes}
use Rattle.bind_sight.proofs.name_list.index_of.Given as goal

abbrev pub invariant-loop-place : goal.invariant-loop-place
invariant-loop-place l = Indexes l.index.entries (take l.place l.names)
