use Rattle.viewing_laws.proofs.Laws.{dropping_leaves_views}
use Rattle.viewing_laws.proofs.viewing.dropping_leaves_views.Goals as goal

pub returns : goal.returns
returns c = dropping_leaves_views
