use Rattle.std.specs.Io.KnownBytes.{Keeps}
use Rattle.io_edges.specs.Tries.{tries_left}
use Rattle.io_edges.proofs.tries.flush_again.Given as goal

abbrev pub invariant-flushes : goal.invariant-flushes
invariant-flushes g l = Keeps (g.W.Write.contents l.fn.writer) (g.W.Write.contents l.writer)

abbrev pub decreases-flushes : goal.decreases-flushes
decreases-flushes g l = tries_left l.tries
