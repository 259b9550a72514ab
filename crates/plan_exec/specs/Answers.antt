-- What answers say, in the terms of the rows that they are made of.
use Rattle.std.specs.Prelude.{List, Ok, Err}
use Rattle.row_types.specs.Rows.{Row}
use Rattle.row_types.specs.Cells.{PlanRow}
use Rattle.rel_algebra.specs.Endings.{Ending, after}
use Rattle.rel_algebra.specs.Plan.{shown_rows}
use Rattle.plan_exec.specs.declared.collecting.Answer.{Answer}
use Rattle.plan_exec.specs.declared.collecting.Answer.TheVariants as answer

-- the rows, or the area
abbrev pub answer_end : Answer → Ending (List PlanRow)
answer_end (answer.Rows rows) = Ok rows
answer_end (answer.Raised area) = Err area

-- rows of values as rows of a plan
abbrev pub shown_end : Ending (List Row) → Ending (List PlanRow)
shown_end end = after end (λ rows. Ok (shown_rows rows))
