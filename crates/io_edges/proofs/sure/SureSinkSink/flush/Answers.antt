use Rattle.std.proofs.Common.{ap, ◌∙◌, None, Some}
use Rattle.io_edges.specs.TakenBytes.{nothing_taken}
use Rattle.io_edges.specs.Events.{told_from}
use Rattle.io_edges.proofs.Events.{one_event}
use Rattle.io_edges.proofs.sure.SureSinkSink.flush.Goals as goal

pub returns-clause-bytes : goal.returns-clause-bytes
returns-clause-bytes c = ap (λ es. Some (told_from nothing_taken es)) c.and-self.ensures ∙
    ap Some (one_event nothing_taken c.args.self.now.events.items None)
