use Rattle.std.specs.Io.KnownBytes.{Keeps}
use Rattle.io_edges.specs.Tries.{tries_left}
use Rattle.io_edges.proofs.tries.read_again.Given as goal

abbrev pub invariant-reads : goal.invariant-reads
invariant-reads g l = Keeps (g.R.Read.remaining l.fn.reader) (g.R.Read.remaining l.reader)

abbrev pub decreases-reads : goal.decreases-reads
decreases-reads g l = tries_left l.tries
