use Rattle.std.proofs.Common.{◌≡◌, drop}
use Rattle.row_types.specs.Sorting.{keys_cmp}
use Rattle.row_types.proofs.sort_key.order_by_keys.Given as goal

abbrev pub invariant-loop-key : goal.invariant-loop-key
invariant-loop-key l = keys_cmp (drop l.key-index l.keys) l.a l.b ≡ keys_cmp l.keys l.a l.b
