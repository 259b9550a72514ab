use Rattle.std.proofs.Common.{◌<◌, length, sym, ◌∙◌, arith}
use Rattle.run_changes.proofs.Near.{near}
use Rattle.run_changes.proofs.places.place_near.Goals as goal

pub returns-then-has_key_at : goal.returns-then-has_key_at
returns-then-has_key_at c =
    near c.args.table.now.table c.args.at c.args.row.now c.len.ensures.kept.rows
    (omega (arith, c.len.ensures.value, c.if-at-len.true))
    (sym c.if-has_key_at.true ∙ c.has_key_at.ensures)
