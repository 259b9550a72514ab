use Rattle.std.proofs.Common.{◌≡◌, drop}
use Rattle.row_types.specs.Rows.{by_key}
use Rattle.atomic_undo.specs.Changes.{keys_stay}
use Rattle.atomic_undo.proofs.update.keep_keys.Given as goal

abbrev pub invariant-loop-i : goal.invariant-loop-i
invariant-loop-i l = keys_stay (by_key l.table.table.key) (drop l.i l.places) (drop l.i l.new)
    l.table.table.rows ≡ keys_stay (by_key l.table.table.key) l.places l.new l.table.table.rows
