use Rattle.std.proofs.Common.{arith}
use Rattle.program_status.proofs.WriteLemmas.{went_on}
use Rattle.program_status.proofs.write.write_whole.Goals as goal

pub loop-rest-preserved : goal.loop-rest-preserved
loop-rest-preserved g c = record {
  went = went_on _ _ _ _ _ _ c.loop-rest.invariant.went c.in-Ok.ensures.bytes;
  later = omega (arith, c.write.ensures.cause.later, c.loop-rest.invariant.later);
}
