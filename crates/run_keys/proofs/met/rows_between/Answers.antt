use Rattle.std.proofs.Common.{rules, arith}
use Rattle.run_keys.proofs.Meeting.{row_more}
use Rattle.run_keys.proofs.met.rows_between.Goals as goal

pub loop-at-preserved : goal.loop-at-preserved
loop-at-preserved c = record {
  copied = search (rules, row_more);
  from = omega (arith, c.loop-at.invariant.from);
  within = search rules;
}
