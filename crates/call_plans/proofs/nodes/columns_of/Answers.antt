use Rattle.std.proofs.Common.{◌∙◌}
use Rattle.call_plans.proofs.Runs.{extend_wide}
use Rattle.call_plans.proofs.nodes.columns_of.Goals as goal

pub returns-in-Extend : goal.returns-in-Extend
returns-in-Extend c =
    c.len.ensures ∙ extend_wide c.args.node.now c.in-Extend.scalars c.in-Extend.is
