use Rattle.std.proofs.Common.{rules}
use Rattle.std.proofs.lemmas.Fn.{always_returns_same}
use Rattle.row_sort.specs.Numbers.{by_value}
use Rattle.row_sort.proofs.ByNumbers.{by_value_total}
use Rattle.row_sort.proofs.Stable.{below, weak, stable_is_in_order}
use Rattle.row_sort.proofs.columns.sorted_by_value.Goals as goal

pub returns : goal.returns
returns c =
    let R = by_value c.args.key c.args.rows.now in
    let o = by_value_total c.args.key c.args.rows.now in
    stable_is_in_order R o _ _ (c.in_ok-sort_by.ensures.sorted (below R o) (weak R o)
    (always_returns_same _ _ _ (λ a r q k. search rules)))
    (c.sort_by.ensures.stable (below R o) (weak R o)
    (always_returns_same _ _ _ (λ a r q k. search rules)))
