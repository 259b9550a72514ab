use Rattle.rel_algebra.proofs.Merging.{merged_plans}
use Rattle.rel_algebra.proofs.merged_plans.Goals as goal

pub returns : goal.returns
returns c = merged_plans
