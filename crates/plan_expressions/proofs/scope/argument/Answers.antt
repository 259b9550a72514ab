use Rattle.std.proofs.Common.{sym}
use Rattle.rel_algebra.specs.Emit.{given}
use Rattle.plan_expressions.proofs.Places.{below_inside, below_past}
use Rattle.plan_expressions.proofs.scope.argument.Goals as goal

pub returns-then-place-count : goal.returns-then-place-count
returns-then-place-count c = sym (below_inside c.args.count c.args.place (given c.args.place)
    c.if-place-count.true)

pub returns-else-place-count : goal.returns-else-place-count
returns-else-place-count c = sym (below_past c.args.count c.args.place (given c.args.place)
    c.if-place-count.false)
