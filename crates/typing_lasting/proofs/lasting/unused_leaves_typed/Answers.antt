use Rattle.typing_lasting.proofs.Laws.{unused_leaves_typed}
use Rattle.typing_lasting.proofs.lasting.unused_leaves_typed.Goals as goal

pub returns : goal.returns
returns c = unused_leaves_typed
