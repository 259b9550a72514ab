use Rattle.typing_lasting.proofs.Laws.{dropping_leaves_typed}
use Rattle.typing_lasting.proofs.lasting.dropping_leaves_typed.Goals as goal

pub returns : goal.returns
returns c = dropping_leaves_typed
