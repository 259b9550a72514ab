use Rattle.std.proofs.Common.{◌≡◌, map, drop}
use Rattle.catalog_store.specs.Uses.{joined, uses_in, uses_in_link, uses_in_row, uses_in_item}
use Rattle.call_places.specs.Found.{with_uses}
use Rattle.call_places.proofs.calls.+calls.Given as goal

abbrev pub invariant-with_exprs-loop-expr : goal.invariant-with_exprs-loop-expr
invariant-with_exprs-loop-expr l =
    with_uses l.functions l.total (joined (map uses_in (drop l.expr-index l.exprs)))
    ≡ with_uses l.functions l.fn.found (joined (map uses_in l.exprs))

abbrev pub invariant-with_links-loop-link : goal.invariant-with_links-loop-link
invariant-with_links-loop-link l =
    with_uses l.functions l.total (joined (map uses_in_link (drop l.link-index l.links)))
    ≡ with_uses l.functions l.fn.found (joined (map uses_in_link l.links))

abbrev pub invariant-with_rows-loop-row : goal.invariant-with_rows-loop-row
invariant-with_rows-loop-row l =
    with_uses l.functions l.total (joined (map uses_in_row (drop l.row-index l.rows)))
    ≡ with_uses l.functions l.fn.found (joined (map uses_in_row l.rows))

abbrev pub invariant-with_items-loop-item : goal.invariant-with_items-loop-item
invariant-with_items-loop-item l =
    with_uses l.functions l.total (joined (map uses_in_item (drop l.item-index l.items)))
    ≡ with_uses l.functions l.fn.found (joined (map uses_in_item l.items))
