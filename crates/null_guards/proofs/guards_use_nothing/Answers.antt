use Rattle.null_guards.proofs.Laws.{guards_use_nothing}
use Rattle.null_guards.proofs.guards_use_nothing.Goals as goal

pub returns : goal.returns
returns c = guards_use_nothing
