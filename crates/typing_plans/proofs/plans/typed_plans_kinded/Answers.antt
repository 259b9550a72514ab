use Rattle.typing_plans.proofs.Laws.{typed_plans_kinded}
use Rattle.typing_plans.proofs.plans.typed_plans_kinded.Goals as goal

pub returns : goal.returns
returns c = typed_plans_kinded
