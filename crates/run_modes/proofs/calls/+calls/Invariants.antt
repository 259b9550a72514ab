use Rattle.std.proofs.Common.{◌≡◌, map, drop}
use Rattle.catalog_store.specs.Uses.{joined, uses_in, uses_in_link, uses_in_row, uses_in_item}
use Rattle.run_modes.specs.Modes.{has_call}
use Rattle.run_modes.proofs.calls.+calls.Given as goal

abbrev pub invariant-any_calls-loop-expr : goal.invariant-any_calls-loop-expr
invariant-any_calls-loop-expr l = has_call (joined (map uses_in (drop l.expr-index l.exprs)))
    ≡ has_call (joined (map uses_in l.exprs))

abbrev pub invariant-any_link_calls-loop-link : goal.invariant-any_link_calls-loop-link
invariant-any_link_calls-loop-link l =
    has_call (joined (map uses_in_link (drop l.link-index l.links)))
    ≡ has_call (joined (map uses_in_link l.links))

abbrev pub invariant-any_row_calls-loop-row : goal.invariant-any_row_calls-loop-row
invariant-any_row_calls-loop-row l = has_call (joined (map uses_in_row (drop l.row-index l.rows)))
    ≡ has_call (joined (map uses_in_row l.rows))

abbrev pub invariant-any_item_calls-loop-item : goal.invariant-any_item_calls-loop-item
invariant-any_item_calls-loop-item l =
    has_call (joined (map uses_in_item (drop l.item-index l.items)))
    ≡ has_call (joined (map uses_in_item l.items))
