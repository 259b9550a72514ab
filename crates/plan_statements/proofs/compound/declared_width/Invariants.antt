use Rattle.std.proofs.Common.{◌≡◌, ◌+◌, drop}
use Rattle.block_plans.specs.Callees.{Callees}
use Rattle.rel_algebra.specs.BodyChain.{variable_count}
use Rattle.plan_steps.specs.Places.{variables_in}
use Rattle.plan_statements.proofs.compound.declared_width.Given as goal

abbrev pub invariant-loop-group : goal.invariant-loop-group
invariant-loop-group l = (known : Callees) → l.wide + variable_count (variables_in known
    (drop l.group-index l.variables)) ≡ l.columns + variable_count (variables_in known l.variables)
