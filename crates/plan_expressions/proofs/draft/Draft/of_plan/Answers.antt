use Rattle.std.proofs.Common.{sym}
use Rattle.plan_expressions.proofs.Nodes.{tree_of-parts}
use Rattle.plan_expressions.proofs.draft.Draft.of_plan.Goals as goal

pub returns-clause-tree : goal.returns-clause-tree
returns-clause-tree c = sym (tree_of-parts c.args.plan)
