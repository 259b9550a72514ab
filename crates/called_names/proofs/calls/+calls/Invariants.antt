use Rattle.std.proofs.Common.{◌≡◌, ◌++◌, map, drop}
use Rattle.catalog_store.specs.Uses.{joined, uses_in, uses_in_link, uses_in_row, uses_in_item}
use Rattle.called_names.specs.Called.{called, held}
use Rattle.called_names.proofs.calls.+calls.Given as goal

abbrev pub invariant-note_exprs-loop-expr : goal.invariant-note_exprs-loop-expr
invariant-note_exprs-loop-expr l =
    held l.names.items ++ called (joined (map uses_in (drop l.expr-index l.exprs)))
    ≡ held l.fn.names.items ++ called (joined (map uses_in l.exprs))

abbrev pub invariant-note_links-loop-link : goal.invariant-note_links-loop-link
invariant-note_links-loop-link l =
    held l.names.items ++ called (joined (map uses_in_link (drop l.link-index l.links)))
    ≡ held l.fn.names.items ++ called (joined (map uses_in_link l.links))

abbrev pub invariant-note_rows-loop-row : goal.invariant-note_rows-loop-row
invariant-note_rows-loop-row l =
    held l.names.items ++ called (joined (map uses_in_row (drop l.row-index l.rows)))
    ≡ held l.fn.names.items ++ called (joined (map uses_in_row l.rows))

abbrev pub invariant-note_items-loop-item : goal.invariant-note_items-loop-item
invariant-note_items-loop-item l =
    held l.names.items ++ called (joined (map uses_in_item (drop l.item-index l.items)))
    ≡ held l.fn.names.items ++ called (joined (map uses_in_item l.items))
