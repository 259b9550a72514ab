use Rattle.bind_faults.proofs.Sooner.{is_least}
use Rattle.bind_faults.proofs.least_stands_first.Goals as goal

pub returns : goal.returns
returns c = is_least
