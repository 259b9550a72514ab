-- How many columns tables have. ISO/IEC 9075-2, 7.6 (table reference).
use Rattle.std.specs.Prelude.{ℕ, Bool, List, nat_eq}
use Rattle.scanned_tables.specs.declared.scans.ScannedTable.{ScannedTable}

-- whether a table has by R as many columns as it has in the plan that reads it
abbrev pub has_width : (List ℕ → ℕ) → ScannedTable → Bool
has_width R s = nat_eq (R s.name) s.columns
