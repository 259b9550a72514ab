use Rattle.typing_lasting.proofs.Laws.{making_leaves_typed}
use Rattle.typing_lasting.proofs.lasting.making_leaves_typed.Goals as goal

pub returns : goal.returns
returns c = making_leaves_typed
