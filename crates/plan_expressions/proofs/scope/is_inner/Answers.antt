use Rattle.plan_expressions.proofs.Places.{zero_is, zero_not}
use Rattle.plan_expressions.proofs.scope.is_inner.Goals as goal

pub returns-then-level-eq0 : goal.returns-then-level-eq0
returns-then-level-eq0 c = zero_is c.args.level c.if-level-eq0.true

pub returns-else-level-eq0 : goal.returns-else-level-eq0
returns-else-level-eq0 c = zero_not c.args.level c.if-level-eq0.false
