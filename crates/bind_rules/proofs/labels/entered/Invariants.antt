use Rattle.std.proofs.Common.{◌≡◌, take, ◌++◌}
use Rattle.bind_rules.proofs.labels.entered.Given as goal

abbrev pub invariant-loop-outer : goal.invariant-loop-outer
invariant-loop-outer l = l.labels.items ≡ l.initial.labels.items ++ take l.outer-index l.outside
