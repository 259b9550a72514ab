use Rattle.std.proofs.Common.{arith, ap, length, ◌≡◌, ◌∙◌}
use Rattle.table_store.specs.Memory.{Memory}
use Rattle.table_store.specs.Kept.{Kept}
use Rattle.run_changes.proofs.Removing.{none_taken_out, rows_in}
use Rattle.run_changes.proofs.any_places.remove_one.Goals as goal

pub returns-then-at-len : goal.returns-then-at-len
returns-then-at-len c =
    let long : length c.table_at.result.now.table.rows ≡ length (rows_in c.args.place
    c.args.world.now.memory.tables) =
    ap (λ (k : Kept). length k.table.rows) c.table_at.ensures
    ∙ ap (λ (m : Memory). length (rows_in c.args.place m.tables)) c.tables.ensures in
    let counted = c.len.ensures.value in
    let past = c.if-at-len.true in
    none_taken_out c.args.world.now c.args.place c.args.at (omega arith)
