-- The rows that an expression sees.
use Rattle.std.specs.Prelude.{List, [], ◌∷◌}
use Rattle.row_types.specs.Rows.{Row as Values}
use Rattle.run_choices.specs.declared.sight.RowsInSight.{RowsInSight, Row'}
use Rattle.run_choices.specs.declared.sight.RowsInSight.TheVariants.{NoRow}

-- the rows, the innermost first
abbrev pub seen : RowsInSight → List Values
seen NoRow = []
seen (Row' row p outer) = row.now ∷ seen outer
