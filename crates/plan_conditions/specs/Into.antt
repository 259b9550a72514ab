-- What the rows of a query come to in SELECT INTO. ISO/IEC 9075-2, 14.7 (select statement: single
-- row).
use Rattle.std.specs.Prelude.{ℕ, List, Ok, Err, replicate}
use Rattle.row_types.specs.Rows.{Row}
use Rattle.row_types.specs.declared.cell.Cell.{Cell}
use Rattle.row_types.specs.declared.cell.Cell.TheVariants.{Cond}
use Rattle.rel_algebra.specs.Endings.{Ending}
use Rattle.rel_algebra.specs.Plan.{into_cells}

-- the cells of the one row, or 02000 or 21000; the rows' first area goes before that, in each cell
abbrev pub into_end : ℕ → Ending (List Row) → List Cell
into_end n (Ok rows) = into_cells n rows
into_end n (Err area) = replicate n (Cond area)
