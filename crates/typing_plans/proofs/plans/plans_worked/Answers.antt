use Rattle.typing_plans.proofs.Worked.{plans_worked}
use Rattle.typing_plans.proofs.plans.plans_worked.Goals as goal

pub returns : goal.returns
returns c = plans_worked
