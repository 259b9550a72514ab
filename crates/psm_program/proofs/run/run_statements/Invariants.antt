use Rattle.std.proofs.Common.{◌≤◌, ◌-◌, length}
use Rattle.psm_program.specs.Session.{Does}
use Rattle.psm_program.specs.Outcome.{RanTo}
use Rattle.psm_program.proofs.run.run_statements.Given as goal

abbrev pub invariant-loop-at : goal.invariant-loop-at
invariant-loop-at g l = record {
  ran : RanTo (Does l.command l.list) l.at (g.K.Sink.told l.fn.out) (g.K.Sink.told l.out) l.fn.db
      l.db l.excepts;
  within : l.at ≤ length l.list.tokens;
  later : g.K.Sink.faults l.fn.out ≤ g.K.Sink.faults l.out;
}

abbrev pub decreases-loop-at : goal.decreases-loop-at
decreases-loop-at g l = length l.list.tokens - l.at
