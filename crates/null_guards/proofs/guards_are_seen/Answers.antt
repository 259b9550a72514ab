use Rattle.null_guards.proofs.Laws.{guards_are_seen}
use Rattle.null_guards.proofs.guards_are_seen.Goals as goal

pub returns : goal.returns
returns c = guards_are_seen
