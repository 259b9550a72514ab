use Rattle.std.proofs.Common.{◌≡◌, take, ◌++◌}
use Rattle.bind_sight.proofs.sight.entered.Given as goal

abbrev pub invariant-loop-outer : goal.invariant-loop-outer
invariant-loop-outer l = l.levels.items ≡ l.initial.levels.items ++ take l.outer-index l.outside
