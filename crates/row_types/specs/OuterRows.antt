-- The rows outside a plan, as a list.
use Rattle.std.specs.Prelude.{List, [], ◌∷◌, ◌++◌, map}
use Rattle.row_types.specs.declared.row_in_sight.Outer.{Outer, Under'}
use Rattle.row_types.specs.declared.row_in_sight.Outer.TheVariants.{Outermost}
use Rattle.row_types.specs.declared.cell.Cell.{Cell}
use Rattle.row_types.specs.declared.cell.Cell.TheVariants.{Val}

-- the rows, the innermost first
abbrev pub outer_rows : Outer → List (List Cell)
outer_rows Outermost = []
outer_rows (Under' values more cells p outer) = (map Val (values.now ++ more.now) ++ cells.now) ∷
    outer_rows outer
