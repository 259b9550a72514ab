use Rattle.std.proofs.Common.{ap, ◌∙◌, arith}
use Rattle.rel_algebra.specs.Emissions.{checks}
use Rattle.rel_algebra.specs.Joins.{places}
use Rattle.rel_algebra.specs.Plan.{and_word, word}
use Rattle.rel_algebra.specs.declared.scalar.ListWord.TheVariants.{And}
use Rattle.plan_expressions.proofs.Laws.{scalar_of-Listed}
use Rattle.plan_statements.proofs.Cells.{checks_done, checks_next}
use Rattle.plan_statements.proofs.storing.all_values.Goals as goal

pub loop-index-preserved : goal.loop-index-preserved
loop-index-preserved c =
    checks_next c.loop-index.checks c.push.new.self c.args.first c.args.count c.loop-index.index
    c.in_ok-check.field-0 c.in_ok-sum.field-0 (checks (places c.args.first c.args.count))
    c.loop-index-test.true c.in_ok-sum.ensures c.in_ok-check.ensures c.in_ok-push.ensures.ok
    c.loop-index.invariant

pub returns : goal.returns
returns c =
    scalar_of-Listed And c.loop-index.checks ∙ ap (word and_word)
    (checks_done c.loop-index.checks c.args.first c.args.count c.loop-index.index
    (checks (places c.args.first c.args.count))
    (omega (arith, c.loop-index-test.false, c.loop-index.auto.index-end)) c.loop-index.invariant)
