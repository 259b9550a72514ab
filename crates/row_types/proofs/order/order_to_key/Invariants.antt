use Rattle.std.proofs.Common.{◌≡◌, drop}
use Rattle.row_types.specs.Rows.{to_key}
use Rattle.row_types.proofs.order.order_to_key.Given as goal

abbrev pub invariant-loop-i : goal.invariant-loop-i
invariant-loop-i l = to_key (drop l.i l.key) (drop l.i l.sought) l.row ≡ to_key l.key l.sought l.row
