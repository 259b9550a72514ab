use Rattle.std.proofs.Common.{refl}
use Rattle.run_places.proofs.starts.in_no_routine.Goals as goal

pub returns-clause-context : goal.returns-clause-context
returns-clause-context c = refl
