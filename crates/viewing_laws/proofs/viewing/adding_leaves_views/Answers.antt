use Rattle.viewing_laws.proofs.Laws.{adding_leaves_views}
use Rattle.viewing_laws.proofs.viewing.adding_leaves_views.Goals as goal

pub returns : goal.returns
returns c = adding_leaves_views
