use Rattle.std.proofs.Common.{◌≡◌, take, ◌++◌}
use Rattle.bind_sight.proofs.scope.entered_scope.Given as goal

abbrev pub invariant-loop-outer : goal.invariant-loop-outer
invariant-loop-outer l = l.scopes.items ≡ l.initial.scopes.items ++ take l.outer-index l.outside
