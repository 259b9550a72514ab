use Rattle.std.proofs.Common.{◌≡◌, drop, fold}
use Rattle.row_types.specs.Keys.{values_writes}
use Rattle.row_types.proofs.key.hash_values.Given as goal

abbrev pub invariant-loop-value : goal.invariant-loop-value
invariant-loop-value g l = fold g.H.Hasher.write l.state
    (values_writes (drop l.value-index l.values)) ≡ fold g.H.Hasher.write l.fn.state
    (values_writes l.values)
