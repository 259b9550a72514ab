use Rattle.regions.proofs.Worlds.{body_plans}
use Rattle.regions.proofs.body_plans.Goals as goal

pub returns : goal.returns
returns c = body_plans
