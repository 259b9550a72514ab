-- What an Apply adds to rows, and what that costs. ISO/IEC 9075-2, 7.19 (subquery), 8.4 (in
-- predicate), 8.10 (exists predicate) and 10.9 (aggregate function).
use Rattle.std.specs.Prelude.{ℕ, ◌+◌, Bool, false, true, List, [], ◌∷◌, ◌++◌, length, replicate}
use Rattle.std.specs.Prelude.{is_some, Ok, Err}
use Rattle.row_types.specs.Rows.{Row}
use Rattle.row_types.specs.declared.cell.Cell.{Cell}
use Rattle.row_types.specs.declared.cell.Cell.TheVariants.{Cond}
use Rattle.row_types.specs.Cells.{PlanRow, Whole, Poisoned, area_in}
use Rattle.rel_algebra.specs.declared.plan.ApplyKind.{ApplyKind}
use Rattle.rel_algebra.specs.declared.plan.ApplyKind.TheVariants.{Aggregate, Into}
use Rattle.rel_algebra.specs.declared.scalar.Scalar.{Scalar}
use Rattle.rel_algebra.specs.Endings.{Ending}
use Rattle.rel_algebra.specs.Plain.{Inputs}
use Rattle.rel_algebra.specs.Plan.{Kind, member, PlanTree, apply_cells, collapse_as, den, each}
use Rattle.rel_algebra.specs.Plan.{shown, sight}
use Rattle.rel_algebra.specs.PlanView.{kind_of, scalar_of}
use Rattle.rel_algebra.specs.Work.{work_below}
use Rattle.plan_exec.specs.declared.opened.Opened.{Opened}
use Rattle.plan_exec.specs.declared.opened.Opened.TheVariants as opened

-- the cells that an Apply adds to a row
abbrev pub added_cells : Scalar → ApplyKind → PlanTree → Inputs → List (List Cell) → List Cell →
    List Cell
added_cells when kind inner w o row = apply_cells (scalar_of when) (kind_of kind) (sight w o row)
    (den inner w (row ∷ o))

-- the rows that an Apply makes of rows
abbrev pub applied_rows : Scalar → ApplyKind → PlanTree → Inputs → List (List Cell) → List PlanRow →
    List PlanRow
applied_rows when kind inner w o rows =
    each (λ row. Whole (row ++ added_cells when kind inner w o row) ∷ []) rows

-- the steps of an inner plan under a row, and one for each row that it gives
abbrev pub inner_work : PlanTree → Inputs → List (List Cell) → List Cell → ℕ
inner_work inner w o row = work_below inner w (row ∷ o) + length (den inner w (row ∷ o))

-- a kind that makes one cell of a list of rows
abbrev pub makes_one : ApplyKind → Bool
makes_one (Aggregate aggregates) = false
makes_one (Into columns) = false
makes_one _ = true

-- what a kind makes of what the rows of an inner plan come to; the area of the scalar whose value
-- is looked for goes before theirs
abbrev pub ended_as : Kind → Cell → Ending (List Row) → List Cell
ended_as (member s) (Cond a) end = Cond a ∷ []
ended_as kind c end = collapse_as kind c end

-- the aggregates of all rows, where they are the values of one row; where one raises, the first
-- area in each cell
abbrev pub aggregate_cells : ℕ → Ending (List Row) → List Cell
aggregate_cells n (Ok []) = []
aggregate_cells n (Ok (r ∷ rs)) = shown r
aggregate_cells n (Err a) = replicate n (Cond a)

-- a cell of a row that isn't poisoned is a condition
abbrev pub has_condition : PlanRow → Bool
has_condition (Whole cells) = is_some (area_in cells)
has_condition (Poisoned area) = false

-- a row that was opened, with the cells after its values
abbrev pub opened_row : Opened → List Cell → PlanRow
opened_row (opened.Values values) cells = Whole (shown values ++ cells)
opened_row (opened.Poison area) cells = Poisoned area
