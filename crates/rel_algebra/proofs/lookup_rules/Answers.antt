use Rattle.rel_algebra.proofs.Laws.{lookup_rules}
use Rattle.rel_algebra.proofs.lookup_rules.Goals as goal

pub returns : goal.returns
returns c = lookup_rules
