-- What the rows of a query inside an expression come to. ISO/IEC 9075-2, 7.19 (subquery), 8.4 (in
-- predicate) and 8.10 (exists predicate).
use Rattle.std.specs.Prelude.{List, Ok, Err}
use Rattle.row_types.specs.Rows.{Row}
use Rattle.row_types.specs.declared.cell.Cell.{Cell}
use Rattle.row_types.specs.declared.cell.Cell.TheVariants.{Val, Cond}
use Rattle.rel_algebra.specs.Endings.{Ending, cell_end}
use Rattle.rel_algebra.specs.Joins.{exists_of, member_of, single_of}

-- a scalar subquery: NULL of no row, the value of the one row, 21000 of several; the rows' first
-- area goes before that
abbrev pub single_end : Ending (List Row) → Cell
single_end (Ok rows) = cell_end (single_of rows)
single_end (Err area) = Cond area

-- EXISTS: whether there is a row; the rows' first area goes before that
abbrev pub exists_end : Ending (List Row) → Cell
exists_end (Ok rows) = Val (exists_of rows)
exists_end (Err area) = Cond area

-- IN: whether a value is the first of some row; its own condition goes before the rows' first area
abbrev pub member_end : Cell → Ending (List Row) → Cell
member_end (Cond area) end = Cond area
member_end (Val v) (Ok rows) = Val (member_of v rows)
member_end (Val v) (Err area) = Cond area
