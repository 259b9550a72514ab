use Rattle.std.proofs.Common.{rules, arith}
use Rattle.bind_sight.proofs.Counting.{counts-next}
use Rattle.bind_sight.proofs.column_list.index_of.Goals as goal

pub loop-place-preserved : goal.loop-place-preserved
loop-place-preserved c =
    counts-next c.loop-place.index.entries _ c.args.columns.now c.loop-place.place
    c.index-columns-place.result
    (omega arith) c.index-columns-place.is (search rules) c.loop-place.invariant
