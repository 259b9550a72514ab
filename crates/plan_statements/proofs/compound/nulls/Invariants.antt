use Rattle.std.proofs.Common.{◌≡◌, ◌-◌}
use Rattle.rel_algebra.specs.BodyChain.{null_scalars}
use Rattle.plan_expressions.specs.Emission.{put}
use Rattle.plan_statements.proofs.compound.nulls.Given as goal

abbrev pub invariant-loop : goal.invariant-loop
invariant-loop l = put l.columns (null_scalars l.data_type (l.count - l.counter)) ≡ null_scalars
    l.data_type l.count
