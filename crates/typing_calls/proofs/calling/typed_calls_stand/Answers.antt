use Rattle.typing_calls.proofs.Laws.{typed_calls_stand}
use Rattle.typing_calls.proofs.calling.typed_calls_stand.Goals as goal

pub returns : goal.returns
returns c = typed_calls_stand
