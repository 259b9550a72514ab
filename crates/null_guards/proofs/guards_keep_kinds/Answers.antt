use Rattle.null_guards.proofs.Laws.{guards_keep_kinds}
use Rattle.null_guards.proofs.guards_keep_kinds.Goals as goal

pub returns : goal.returns
returns c = guards_keep_kinds
