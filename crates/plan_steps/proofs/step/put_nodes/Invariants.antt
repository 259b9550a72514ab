use Rattle.std.proofs.Common.{◌≡◌, length, reverse}
use Rattle.rel_algebra.specs.BodySteps.{asked_at}
use Rattle.rel_algebra.specs.Plan.{on_each}
use Rattle.rel_algebra.specs.PlanView.{run_of}
use Rattle.plan_expressions.specs.Drafts.{drafted}
use Rattle.plan_steps.proofs.step.put_nodes.Given as goal

abbrev pub invariant-loop-node : goal.invariant-loop-node
invariant-loop-node l = on_each (asked_at l.code (run_of (reverse l.left))) (drafted l.draft).tree
    ≡ on_each (asked_at l.code (run_of l.fn.nodes)) (drafted l.initial.draft).tree

abbrev pub decreases-loop-node : goal.decreases-loop-node
decreases-loop-node l = length l.left
