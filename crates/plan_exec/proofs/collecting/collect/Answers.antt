use Rattle.std.proofs.Common.{Err, sym, ap, ◌∙◌, arith}
use Rattle.plan_exec.specs.Answers.{shown_end}
use Rattle.plan_exec.proofs.Looked.{one_more, area_found, all_looked}
use Rattle.plan_exec.proofs.collecting.collect.Goals as goal

pub returns-in-Some-clause-answer : goal.returns-in-Some-clause-answer
returns-in-Some-clause-answer g c =
    ap Err c.in_ok-copied.ensures
    ∙ sym (ap shown_end (area_found c.args.rows c.loop-at.at c.at.result.now c.in-Some.area.now
    (omega (arith, c.loop-at-test.true)) c.at.ensures.row (sym c.in-Some.ensures)
    c.loop-at.invariant.looked))

pub loop-at-preserved : goal.loop-at-preserved
loop-at-preserved g c = record {
  looked = one_more c.args.rows c.loop-at.at c.at.result.now (omega (arith, c.loop-at-test.true))
      c.at.ensures.row (sym c.in_default.ensures) c.loop-at.invariant.looked;
  work = omega (arith, c.loop-at.invariant.work, c.at.ensures.step);
}

pub returns-clause-answer : goal.returns-clause-answer
returns-clause-answer g c = all_looked c.args.rows c.loop-at.at
    (omega (arith, c.loop-at-test.false)) c.loop-at.invariant.looked
