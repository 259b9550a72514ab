use Rattle.plan_expressions.specs.Merging.{move_of}
use Rattle.plan_expressions.proofs.Moving.{Merging}
use Rattle.plan_expressions.proofs.merge.merge.Given as goal

abbrev pub invariant-loop-node : goal.invariant-loop-node
invariant-loop-node l = Merging (move_of l.shift) l.plan.nodes l.node-index l.initial.draft l.draft
