-- How the answer of a query's plan tells how the query ends. ISO/IEC 9075-2, 7.17 (query
-- expression).
use Rattle.std.specs.Prelude.{◌≡◌, List, length}
use Rattle.row_types.specs.Rows.{Row}
use Rattle.row_types.specs.Cells.{value_rows}
use Rattle.rel_algebra.specs.World.{World, Ends, Gives, Raises}
use Rattle.plan_exec.specs.declared.collecting.Answer.{Answer}
use Rattle.plan_exec.specs.declared.collecting.Answer.TheVariants.{Rows, Raised}

-- with these rows or with these conditions, in the world in which it began
abbrev pub ends_with : Answer → World → Ends (List Row)
ends_with (Rows rows) w = Gives (value_rows rows) w
ends_with (Raised area) w = Raises area w

-- each row has values
abbrev pub HasValues : Answer → Type 0
HasValues (Rows rows) = length (value_rows rows) ≡ length rows
HasValues (Raised area) = Unit {0}
