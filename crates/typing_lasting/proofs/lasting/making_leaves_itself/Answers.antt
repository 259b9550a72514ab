use Rattle.typing_lasting.proofs.Laws.{making_leaves_itself}
use Rattle.typing_lasting.proofs.lasting.making_leaves_itself.Goals as goal

pub returns : goal.returns
returns c = making_leaves_itself
