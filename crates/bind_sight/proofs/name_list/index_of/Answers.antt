use Rattle.std.proofs.Common.{rules, arith}
use Rattle.bind_sight.proofs.Index.{indexes_next}
use Rattle.bind_sight.proofs.name_list.index_of.Goals as goal

pub loop-place-preserved : goal.loop-place-preserved
loop-place-preserved c =
    indexes_next c.loop-place.index.entries _ c.args.names.now c.loop-place.place
    c.index-names-place.result
    (omega arith) c.index-names-place.is (search rules) c.loop-place.invariant
