use Rattle.typing_lasting.proofs.Laws.{same_catalogs_decide}
use Rattle.typing_lasting.proofs.lasting.same_catalogs_decide.Goals as goal

pub returns : goal.returns
returns c = same_catalogs_decide
