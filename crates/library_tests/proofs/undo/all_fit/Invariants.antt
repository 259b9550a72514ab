use Rattle.std.proofs.Common.{◌≡◌, drop}
use Rattle.std.specs.List.{list_all}
use Rattle.row_types.specs.Rows.{fits}
use Rattle.library_tests.proofs.undo.all_fit.Given as goal

abbrev pub invariant-loop-row : goal.invariant-loop-row
invariant-loop-row l = list_all (fits l.fn.table.table.columns l.fn.table.table.key)
    (drop l.row-index l.fn.rows) ≡ list_all (fits l.fn.table.table.columns l.fn.table.table.key)
    l.fn.rows
