use Rattle.listed_calls.proofs.Laws.{calls_noted}
use Rattle.listed_calls.proofs.listed.calls_noted.Goals as goal

pub returns : goal.returns
returns c = calls_noted
