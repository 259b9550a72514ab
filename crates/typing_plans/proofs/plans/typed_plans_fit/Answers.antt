use Rattle.typing_plans.proofs.Laws.{typed_plans_fit}
use Rattle.typing_plans.proofs.plans.typed_plans_fit.Goals as goal

pub returns : goal.returns
returns c = typed_plans_fit
