use Rattle.std.proofs.Common.{arith}
use Rattle.run_choices.specs.Sight.{seen}
use Rattle.run_keys.proofs.Saying.{later_more, terms_more}
use Rattle.run_keys.proofs.terms.terms_of.Goals as goal

pub loop-test-preserved : goal.loop-test-preserved
loop-test-preserved c = record {
  all = λ row h. terms_more c.args.tests.now c.loop-test.test-index c.test-item.result
      c.loop-test.terms c.add_term.new.terms c.in-Some.term c.in_ok-term.field-0
      (seen c.args.outer.now) c.args.frame.now row
      (omega (arith, c.loop-test-test.true, c.loop-test.invariant.end)) c.test-item.is
      (c.in_ok-add_term-in-Some.ensures row) c.in-Some.is c.in_ok-term.ensures
      (c.loop-test.invariant.all row) (c.loop-test.invariant.on row) h;
  on = λ row out. later_more c.args.tests.now c.loop-test.test-index c.test-item.result
      c.in-Some.term c.in_ok-term.field-0 (seen c.args.outer.now) c.args.frame.now row
      (omega (arith, c.loop-test-test.true, c.loop-test.invariant.end)) c.test-item.is c.in-Some.is
      c.in_ok-term.ensures (c.loop-test.invariant.on row) out;
  end = c.loop-test.invariant.end;
}
