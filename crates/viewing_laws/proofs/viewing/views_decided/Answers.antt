use Rattle.viewing_laws.proofs.Laws.{views_decided}
use Rattle.viewing_laws.proofs.viewing.views_decided.Goals as goal

pub returns : goal.returns
returns c = views_decided
