use Rattle.rel_algebra.proofs.Lasting.{lasting_plans}
use Rattle.rel_algebra.proofs.lasting_plans.Goals as goal

pub returns : goal.returns
returns c = lasting_plans
