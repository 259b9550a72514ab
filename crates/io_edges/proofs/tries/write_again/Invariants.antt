use Rattle.std.specs.Io.KnownBytes.{Keeps}
use Rattle.io_edges.specs.Tries.{tries_left}
use Rattle.io_edges.proofs.tries.write_again.Given as goal

abbrev pub invariant-writes : goal.invariant-writes
invariant-writes g l = Keeps (g.W.Write.contents l.fn.writer) (g.W.Write.contents l.writer)

abbrev pub decreases-writes : goal.decreases-writes
decreases-writes g l = tries_left l.tries
