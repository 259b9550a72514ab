use Rattle.block_plans.proofs.Bare.{bare_views}
use Rattle.block_plans.proofs.bare_views.Goals as goal

pub returns : goal.returns
returns c = bare_views
