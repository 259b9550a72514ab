use Rattle.std.proofs.Common.{replicate, ap, ◌∙◌, arith}
use Rattle.plan_statements.proofs.Cells.{copies_next}
use Rattle.plan_statements.proofs.compound.repeated.Goals as goal

pub loop-preserved : goal.loop-preserved
loop-preserved c =
    copies_next c.args.column c.loop.counter c.loop.columns c.push.new.self c.loop.invariant
    c.in_ok-push.ensures.ok

pub returns : goal.returns
returns c =
    c.loop.invariant ∙ ap (λ n. replicate n c.args.column)
    (omega (arith, c.loop-test.false, c.loop.auto.counter-end))
