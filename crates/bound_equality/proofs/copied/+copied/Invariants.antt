use Rattle.std.proofs.Common.{◌≡◌, take}
use Rattle.bound_equality.proofs.copied.+copied.Given as goal

abbrev pub invariant-copied_exprs-loop-expr : goal.invariant-copied_exprs-loop-expr
invariant-copied_exprs-loop-expr l = l.copies ≡ take l.expr-index l.exprs

abbrev pub invariant-copied_links-loop-link : goal.invariant-copied_links-loop-link
invariant-copied_links-loop-link l = l.copies ≡ take l.link-index l.links

abbrev pub invariant-copied_rows-loop-row : goal.invariant-copied_rows-loop-row
invariant-copied_rows-loop-row l = l.copies ≡ take l.row-index l.rows

abbrev pub invariant-copied_items-loop-item : goal.invariant-copied_items-loop-item
invariant-copied_items-loop-item l = l.copies ≡ take l.item-index l.items
