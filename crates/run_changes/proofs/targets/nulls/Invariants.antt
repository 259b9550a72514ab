use Rattle.std.proofs.Common.{◌≡◌, replicate}
use Rattle.sql_values.specs.declared.value.Value.TheVariants.{Null}
use Rattle.run_changes.proofs.targets.nulls.Given as goal

abbrev pub invariant-loop : goal.invariant-loop
invariant-loop l = l.row ≡ replicate l.counter Null
