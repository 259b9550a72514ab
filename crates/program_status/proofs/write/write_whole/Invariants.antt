use Rattle.std.proofs.Common.{◌≤◌, length}
use Rattle.program_status.specs.Writing.{Went}
use Rattle.program_status.proofs.write.write_whole.Given as goal

abbrev pub invariant-loop-rest : goal.invariant-loop-rest
invariant-loop-rest g l = record {
  went : Went (g.K.Sink.told l.fn.out) (g.K.Sink.told l.out) l.bytes l.rest;
  later : g.K.Sink.faults l.fn.out ≤ g.K.Sink.faults l.out;
}

abbrev pub decreases-loop-rest : goal.decreases-loop-rest
decreases-loop-rest g l = length l.rest
