use Rattle.bind_statements.proofs.Typed.{faultless-typed}
use Rattle.bind_statements.proofs.faultless_typed.Goals as goal

pub returns : goal.returns
returns c = faultless-typed
