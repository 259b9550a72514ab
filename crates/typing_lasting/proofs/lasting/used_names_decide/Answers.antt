use Rattle.typing_lasting.proofs.Laws.{used_names_decide}
use Rattle.typing_lasting.proofs.lasting.used_names_decide.Goals as goal

pub returns : goal.returns
returns c = used_names_decide
