use Rattle.std.proofs.Common.{◌-◌, sym, ap, ◌∙◌, get_or, arith, is_lt}
use Rattle.row_types.specs.Rows.{by_key}
use Rattle.table_store.proofs.Laws.{kept_rises}
use Rattle.atomic_undo.proofs.Placing.{after_rows}
use Rattle.atomic_undo.proofs.sorted.rise_after.Goals as goal

pub returns : goal.returns
returns c =
    let k = c.args.table.now in
    let v = c.len-count.ensures.value in
    let z = c.row_at.result.now in
    c.is_below.ensures
    ∙ ap (λ q. is_lt (by_key q z c.index-rows-0.result)) c.key.ensures.value
    ∙ sym (after_rows (by_key k.table.key) k.table.rows c.args.rows.now c.index-rows-0.result z
    (kept_rises k.table.columns k.table.key k.table.rows c.len-count.ensures.kept.rows)
    c.requires
    (let s = c.if-count-eq0.false in omega arith) (let s = c.if-rows-eq0.false in omega arith)
    (c.row_at.ensures ∙ ap (λ n. get_or k.table.rows (n - 1) z) v) c.index-rows-0.is)
