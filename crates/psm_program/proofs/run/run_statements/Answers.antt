use Rattle.std.proofs.Common.{arith, ap, sym, ◌||◌, Bool, ◌∙◌}
use Rattle.psm_program.proofs.RunLemmas.{ran_on, ran_stopped}
use Rattle.psm_program.proofs.run.run_statements.Goals as goal

pub loop-at-preserved-then-excepts : goal.loop-at-preserved-then-excepts
loop-at-preserved-then-excepts g c = record {
  ran = ran_on _ _ _ _ _ _ _ _ _ _ _ _ c.loop-at.invariant.ran c.in-Ok.ensures.ok
      (ap (λ (b : Bool). b || c.in-Ok.is_exception) c.if-excepts.true ∙ sym c.if-excepts.true);
  within = c.in-Ok.ensures.goes.1;
  later = omega (arith, c.loop-at.invariant.later, c.run_statement.ensures.later);
}

pub loop-at-preserved : goal.loop-at-preserved
loop-at-preserved g c = record {
  ran = ran_on _ _ _ _ _ _ _ _ _ _ _ _ c.loop-at.invariant.ran c.in-Ok.ensures.ok
      (ap (λ (b : Bool). b || c.in-Ok.is_exception) c.if-excepts.false);
  within = c.in-Ok.ensures.goes.1;
  later = omega (arith, c.loop-at.invariant.later, c.run_statement.ensures.later);
}

pub returns-in-Err-clause-err : goal.returns-in-Err-clause-err
returns-in-Err-clause-err g c = ran_stopped _ _ _ _ _ _ _ _ _ _ c.loop-at.invariant.ran
    c.in-Err.ensures.err
