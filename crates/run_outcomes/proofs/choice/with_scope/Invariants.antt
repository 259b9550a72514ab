use Rattle.std.proofs.Common.{◌≡◌, take}
use Rattle.run_outcomes.proofs.choice.with_scope.Given as goal

abbrev pub invariant-loop-scope : goal.invariant-loop-scope
invariant-loop-scope l = l.scopes.items ≡ take l.scope-index l.outer
