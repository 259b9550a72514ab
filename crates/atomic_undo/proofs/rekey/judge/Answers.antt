use Rattle.std.proofs.Common.{List, ap, ◌∙◌}
use Rattle.std.specs.List.{list_all}
use Rattle.row_types.specs.Rows.{Row, fits}
use Rattle.table_store.proofs.Laws.{kept_fits}
use Rattle.atomic_undo.specs.Changes.{set_all}
use Rattle.atomic_undo.proofs.Rekeyed.{all_set_all}
use Rattle.atomic_undo.proofs.rekey.judge.Goals as goal

pub find_repeat-requires : goal.find_repeat-requires
find_repeat-requires c =
    let p = fits c.args.table.now.table.columns c.args.table.now.table.key in
    ap (list_all p) (c.with_rows_at.ensures ∙
    ap (λ (xs : List Row). set_all c.args.places.items c.args.new.items xs) c.in-Ok.ensures)
    ∙ all_set_all p c.args.places.items c.args.new.items c.args.table.now.table.rows c.requires.fit
    (kept_fits c.args.table.now.table.columns c.args.table.now.table.key c.args.table.now.table.rows
    (c.len-kept.ensures.kept).rows)
