use Rattle.bind_statements.proofs.Runs.{faultless-runs}
use Rattle.bind_statements.proofs.faultless_runs.Goals as goal

pub returns : goal.returns
returns c = faultless-runs
