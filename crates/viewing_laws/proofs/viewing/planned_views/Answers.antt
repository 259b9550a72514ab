use Rattle.viewing_laws.proofs.Laws.{planned_views}
use Rattle.viewing_laws.proofs.viewing.planned_views.Goals as goal

pub returns : goal.returns
returns c = planned_views
