use Rattle.std.proofs.Common.{Some, ap, ◌∙◌, arith}
use Rattle.plan_scalars.specs.Sights.{sight_of}
use Rattle.region_steps.proofs.Words.{case_last, case_met, case_more}
use Rattle.region_steps.proofs.choices.taken.Goals as goal

pub loop-at-preserved : goal.loop-at-preserved
loop-at-preserved c = record {
  cell = λ outer. case_more c.args.operands.now c.loop-at.at c.index-operands-at.result
      (sight_of c.args.row.now outer c.args.args.now) (omega (arith, c.loop-at-test.true))
      c.index-operands-at.is (c.in_ok-truth_in_place.ensures outer ∙ ap Some c.if-branch.false)
      ∙ c.loop-at.invariant.cell outer;
  within = omega (arith, c.loop-at-test.true);
}
