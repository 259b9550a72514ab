use Rattle.viewing_laws.proofs.Laws.{routines_by_name}
use Rattle.viewing_laws.proofs.viewing.routine_is.Goals as goal

pub returns : goal.returns
returns c = routines_by_name
