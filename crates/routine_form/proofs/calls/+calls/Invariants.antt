use Rattle.std.proofs.Common.{◌≡◌, ◌≤◌, map, drop}
use Rattle.routine_form.specs.declared.sum.TheConstants.{HEAVIEST}
use Rattle.routine_form.specs.Calls.{calls_in, calls_in_link, calls_in_row, calls_in_item}
use Rattle.routine_form.specs.Sums.{add, total}
use Rattle.routine_form.proofs.calls.+calls.Given as goal

abbrev pub invariant-calls_in_all-loop-expr : goal.invariant-calls_in_all-loop-expr
invariant-calls_in_all-loop-expr l = record {
  counted : add l.calls (total (map (calls_in l.catalog) (drop l.expr-index l.exprs))) ≡ total
      (map (calls_in l.catalog) l.exprs);
  most : l.calls ≤ HEAVIEST;
}

abbrev pub invariant-calls_in_links-loop-link : goal.invariant-calls_in_links-loop-link
invariant-calls_in_links-loop-link l = record {
  counted : add l.calls (total (map (calls_in_link l.catalog) (drop l.link-index l.links))) ≡ total
      (map (calls_in_link l.catalog) l.links);
  most : l.calls ≤ HEAVIEST;
}

abbrev pub invariant-calls_in_rows-loop-row : goal.invariant-calls_in_rows-loop-row
invariant-calls_in_rows-loop-row l = record {
  counted : add l.calls (total (map (calls_in_row l.catalog) (drop l.row-index l.rows))) ≡ total
      (map (calls_in_row l.catalog) l.rows);
  most : l.calls ≤ HEAVIEST;
}

abbrev pub invariant-calls_in_from-loop-item : goal.invariant-calls_in_from-loop-item
invariant-calls_in_from-loop-item l = record {
  counted : add l.calls (total (map (calls_in_item l.catalog) (drop l.item-index l.items))) ≡ total
      (map (calls_in_item l.catalog) l.items);
  most : l.calls ≤ HEAVIEST;
}
