use Rattle.plan_expressions.proofs.Nodes.{tree_of-parts}
use Rattle.plan_expressions.proofs.draft.Draft.into_plan.Goals as goal

pub returns : goal.returns
returns c = tree_of-parts c.args.self.plan
