use Rattle.rel_algebra.specs.BodySteps.{asked_at}
use Rattle.rel_algebra.specs.Plan.{on_each}
use Rattle.rel_algebra.specs.PlanView.{run_of}
use Rattle.plan_expressions.specs.Drafts.{drafted}
use Rattle.plan_steps.proofs.Stores.{nodes_next, nodes_done}
use Rattle.plan_steps.proofs.step.put_nodes.Goals as goal

pub loop-node-preserved : goal.loop-node-preserved
loop-node-preserved c =
    nodes_next c.args.code c.loop-node.left c.pop.new.self c.in-Some.node
    (drafted c.loop-node.draft).tree (drafted c.put_node.new.draft).tree
    (on_each (asked_at c.args.code (run_of c.args.nodes)) (drafted c.args.draft.now).tree)
    c.in-Some.ensures c.in_ok-put_node.ensures c.loop-node.invariant

pub returns : goal.returns
returns c =
    nodes_done c.args.code c.loop-node.left (drafted c.loop-node.draft).tree
    (on_each (asked_at c.args.code (run_of c.args.nodes)) (drafted c.args.draft.now).tree)
    c.in_default.ensures.0 c.loop-node.invariant
