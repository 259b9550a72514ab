use Rattle.rel_algebra.proofs.Laws.{local_rules}
use Rattle.rel_algebra.proofs.local_rules.Goals as goal

pub returns : goal.returns
returns c = local_rules
