use Rattle.std.proofs.Common.{◌≡◌, drop}
use Rattle.row_types.specs.Rows.{by_key}
use Rattle.row_types.proofs.order.order_by_key.Given as goal

abbrev pub invariant-loop-place : goal.invariant-loop-place
invariant-loop-place l = by_key (drop l.place-index l.key) l.a l.b ≡ by_key l.key l.a l.b
