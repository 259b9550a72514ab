use Rattle.viewing_laws.proofs.Laws.{heads_suffice}
use Rattle.viewing_laws.proofs.viewing.heads_suffice.Goals as goal

pub returns : goal.returns
returns c = heads_suffice
