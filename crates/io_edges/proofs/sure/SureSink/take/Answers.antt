use Rattle.std.proofs.Common.{ap, ◌∙◌, Some}
use Rattle.io_edges.specs.TakenBytes.{nothing_taken}
use Rattle.io_edges.specs.Events.{told_from}
use Rattle.io_edges.proofs.Events.{one_event}
use Rattle.io_edges.proofs.sure.SureSink.take.Goals as goal

pub returns : goal.returns
returns c = ap (λ es. Some (told_from nothing_taken es)) c.and-self.ensures ∙
    ap Some (one_event nothing_taken c.args.self.now.events.items (Some c.args.byte))
