use Rattle.null_guards.proofs.Laws.{guards_are_planned}
use Rattle.null_guards.proofs.guards_are_planned.Goals as goal

pub returns : goal.returns
returns c = guards_are_planned
