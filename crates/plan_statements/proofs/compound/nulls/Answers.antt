use Rattle.std.proofs.Common.{arith}
use Rattle.rel_algebra.specs.BodyChain.{null_scalars}
use Rattle.plan_statements.proofs.Cells.{nulls_done, nulls_next}
use Rattle.plan_statements.proofs.compound.nulls.Goals as goal

pub loop-preserved : goal.loop-preserved
loop-preserved c =
    nulls_next c.args.data_type c.loop.columns c.push.new.self c.args.count c.loop.counter
    c.in_ok-null_of.field-0 (null_scalars c.args.data_type c.args.count) c.loop-test.true
    c.in_ok-null_of.ensures c.in_ok-push.ensures.ok c.loop.invariant

pub returns : goal.returns
returns c =
    nulls_done c.args.data_type c.loop.columns c.args.count c.loop.counter
    (null_scalars c.args.data_type c.args.count)
    (omega (arith, c.loop-test.false, c.loop.auto.counter-end)) c.loop.invariant
