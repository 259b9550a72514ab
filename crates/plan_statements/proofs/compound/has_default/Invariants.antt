use Rattle.std.proofs.Common.{◌≡◌, drop}
use Rattle.block_plans.specs.Callees.{Callees}
use Rattle.rel_algebra.specs.BodyChain.{has_default}
use Rattle.plan_steps.specs.Places.{variables_in}
use Rattle.plan_statements.proofs.compound.has_default.Given as goal

abbrev pub invariant-loop-group : goal.invariant-loop-group
invariant-loop-group l = (known : Callees) → has_default (variables_in known
    (drop l.group-index l.variables)) ≡ has_default (variables_in known l.variables)
