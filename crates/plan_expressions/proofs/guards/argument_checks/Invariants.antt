use Rattle.catalog_store.specs.Catalog.{Catalog}
use Rattle.plan_expressions.proofs.Checks.{Checking}
use Rattle.plan_expressions.proofs.guards.argument_checks.Given as goal

abbrev pub invariant-loop-place : goal.invariant-loop-place
invariant-loop-place l = (known : Catalog) → Checking known l.arguments l.types l.first l.place
    l.checks
