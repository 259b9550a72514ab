use Rattle.std.proofs.Common.{take}
use Rattle.io_edges.specs.TakenBytes.{Takes}
use Rattle.io_edges.specs.Events.{sure_told}
use Rattle.io_edges.proofs.sure.SureSinkSink.write.Given as goal

abbrev pub invariant-loop-byte : goal.invariant-loop-byte
invariant-loop-byte l = Takes (sure_told l.fn.self) (sure_told l.self) (take l.byte-index l.piece)
