use Rattle.std.proofs.Common.{◌-◌, Err, sym, ap, ◌∙◌, get_or, arith, is_lt}
use Rattle.row_types.specs.Rows.{by_key}
use Rattle.atomic_undo.proofs.Placing.{after_table}
use Rattle.atomic_undo.proofs.sorted.place_in.Goals as goal

pub returns-then-is_below-clause-place : goal.returns-then-is_below-clause-place
returns-then-is_below-clause-place c =
    let v = c.len-count.ensures.value in
    ap (λ n. Err n) v
    ∙ sym (after_table c.args.table.now c.args.row.now c.row_at.result.now c.len-count.ensures.kept
    (let s = c.if-count-gt0.true in omega arith)
    (c.row_at.ensures ∙ ap (λ n. get_or c.args.table.now.table.rows (n - 1) c.row_at.result.now) v)
    (ap (λ k. is_lt (by_key k c.row_at.result.now c.args.row.now)) (sym c.key.ensures.value) ∙
    sym c.is_below.ensures ∙ c.if-is_below.true))
