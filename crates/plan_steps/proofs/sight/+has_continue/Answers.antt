use Rattle.std.proofs.Common.{ap}
use Rattle.plan_steps.specs.Places.{codes_in}
use Rattle.plan_steps.proofs.Seen.{continues_around, continues_here}
use Rattle.plan_steps.proofs.sight.+has_continue.Goals as goal

pub returns-then-any_goes_on : goal.returns-then-any_goes_on
returns-then-any_goes_on t c known =
    continues_here known c.in-Scope.scope c.in-Scope.outer.now c.args.sight.now
    c.any_goes_on.result (ap (codes_in known) c.in-Scope.is) c.any_goes_on.ensures
    c.if-any_goes_on.true

pub returns-else-any_goes_on : goal.returns-else-any_goes_on
returns-else-any_goes_on t c known =
    continues_around known c.in-Scope.scope c.in-Scope.outer.now c.args.sight.now
    c.any_goes_on.result c.has_continue.result (ap (codes_in known) c.in-Scope.is)
    c.any_goes_on.ensures c.if-any_goes_on.false (c.has_continue.ensures known)
