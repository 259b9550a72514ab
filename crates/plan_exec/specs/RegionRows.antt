-- What an Apply adds to rows whose inner plan is steps that make one row of one cell. ISO/IEC
-- 9075-2, 7.19 (subquery).
use Rattle.std.specs.Prelude.{◌≡◌, List, [], ◌∷◌, ◌++◌, map}
use Rattle.sql_values.specs.declared.value.Value.{Value}
use Rattle.row_types.specs.declared.cell.Cell.{Cell}
use Rattle.row_types.specs.Cells.{PlanRow, Whole}
use Rattle.rel_algebra.specs.declared.scalar.Scalar.{Scalar}
use Rattle.rel_algebra.specs.Plan.{Kind, PlanTree, applied, cell_of, each, single}
use Rattle.rel_algebra.specs.PlanView.{scalar_of}
use Rattle.plan_scalars.specs.Sights.{sight_of}
use Rattle.plan_regions.specs.declared.region.Step.{Step}
use Rattle.plan_regions.specs.Regions.{IsRegionOf, steps_cells}

-- the cells that are added to a row
abbrev pub region_cells : Scalar → List Step → List (List Cell) → List Value → List Cell →
    List Cell
region_cells when steps o args row =
    map (applied (cell_of (scalar_of when) (sight_of row o args))) (steps_cells steps [] (row ∷ o)
    args)

-- the rows that come of rows
abbrev pub region_rows : Scalar → List Step → List (List Cell) → List Value → List PlanRow →
    List PlanRow
region_rows when steps o args rows =
    each (λ row. Whole (row ++ region_cells when steps o args row) ∷ []) rows

-- steps are the inner plan of an Apply that adds its one value
abbrev pub IsValueOf : List Step → PlanTree → Kind → Type 0
IsValueOf steps inner kind = (kind ≡ single) × IsRegionOf steps inner
