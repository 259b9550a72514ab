use Rattle.std.proofs.Common.{◌+◌, sym, ap, ◌∙◌}
use Rattle.rel_algebra.specs.Emit.{at}
use Rattle.plan_expressions.proofs.Places.{below_inside, below_past}
use Rattle.plan_expressions.proofs.scope.column_in.Goals as goal

pub returns-then-place-span : goal.returns-then-place-span
returns-then-place-span c = sym (below_past c.args.span.count c.args.place
    (at c.args.span.level (c.args.span.first + c.args.place)) c.if-place-span.true)

pub returns-in-Some : goal.returns-in-Some
returns-in-Some c =
    ap (λ i. at c.args.span.level i) c.in-Some.ensures.1
    ∙ sym (below_inside c.args.span.count c.args.place
    (at c.args.span.level (c.args.span.first + c.args.place)) c.if-place-span.false)
