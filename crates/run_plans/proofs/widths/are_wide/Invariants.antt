use Rattle.std.proofs.Common.{◌≡◌, drop}
use Rattle.std.specs.List.{list_all}
use Rattle.rel_algebra.specs.Joins.{table_width}
use Rattle.run_plans.specs.Widths.{has_width}
use Rattle.run_plans.proofs.widths.are_wide.Given as goal

abbrev pub invariant-loop-table : goal.invariant-loop-table
invariant-loop-table l =
    list_all (has_width (table_width l.tables.tables)) (drop l.table-index l.scanned) ≡
    list_all (has_width (table_width l.tables.tables)) l.scanned
