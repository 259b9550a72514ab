use Rattle.std.proofs.Common.{◌∙◌}
use Rattle.kept_queries.proofs.plans.KeptPlans.blocks.Goals as goal

pub returns : goal.returns
returns c = c.self.invariant.0.0 ∙ c.self.view_is
