use Rattle.listed_calls.proofs.Laws.{calls_kept}
use Rattle.listed_calls.proofs.listed.calls_kept.Goals as goal

pub returns : goal.returns
returns c = calls_kept
