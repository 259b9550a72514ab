use Rattle.std.proofs.Common.{◌≡◌, replicate}
use Rattle.plan_statements.proofs.compound.repeated.Given as goal

abbrev pub invariant-loop : goal.invariant-loop
invariant-loop l = l.columns ≡ replicate l.counter l.column
