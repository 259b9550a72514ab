-- Rows on their way to the next node that takes whole lists: they make a list, or, where that node
-- is a Group, or an Apply wants aggregates of them, are folded as they come. ISO/IEC 9075-2, 7.13
-- (group by clause).
use Rattle.std.specs.Prelude.{Bool, true, false, List, [], ◌∷◌, ◌++◌, Ok, Err}
use Rattle.row_types.specs.Rows.{Row}
use Rattle.row_types.specs.Cells.{PlanRow, row_end}
use Rattle.rel_algebra.specs.declared.plan.Node.{Node}
use Rattle.rel_algebra.specs.declared.plan.ApplyKind.{ApplyKind}
use Rattle.rel_algebra.specs.declared.plan.ApplyKind.TheVariants.{Aggregate}
use Rattle.rel_algebra.specs.declared.plan.Node.TheVariants.{Extend, Filter, Keep, Group}
use Rattle.rel_algebra.specs.Endings.{Ending}
use Rattle.group_index.specs.Folded.{Folded, no_rows, with_row}
use Rattle.plan_nodes.specs.declared.received.Received.{Received}
use Rattle.plan_nodes.specs.declared.received.Received.TheVariants.{Rows, Folds, Raised}
use Rattle.plan_nodes.specs.declared.received.Wanted.{Wanted}
use Rattle.plan_nodes.specs.declared.received.Wanted.TheVariants as wanted

-- what is folded, with the values of one row more; or the row's area
abbrev pub folded_with : Folded → Ending Row → Received
folded_with f (Ok row) = Folds (with_row f row)
folded_with f (Err area) = Raised area

-- one row more; after an area nothing counts
abbrev pub with_plan_row : Received → PlanRow → Received
with_plan_row (Rows rows) row = Rows (rows ++ row ∷ [])
with_plan_row (Folds f) row = folded_with f (row_end row)
with_plan_row (Raised area) row = Raised area

-- rows, one after another
abbrev pub received : Received → List PlanRow → Received
received r [] = r
received r (row ∷ rows) = received (with_plan_row r row) rows

-- a list of rows
abbrev pub is_list : Received → Bool
is_list (Rows rows) = true
is_list _ = false

-- a node that takes a list, and neither each row alone nor what is folded
abbrev pub takes_list : Node → Bool
takes_list (Extend ss) = false
takes_list (Filter s) = false
takes_list (Keep places) = false
takes_list (Group places aggregates) = false
takes_list _ = true

-- no rows, on their way to a node
abbrev pub nothing_for : Node → Received
nothing_for (Group places aggregates) = Folds (no_rows places aggregates)
nothing_for _ = Rows []

-- no rows of a plan, for what they are wanted
abbrev pub nothing_wanted : Wanted → Received
nothing_wanted wanted.List = Rows []
nothing_wanted (wanted.Aggregates aggregates) = Folds (no_rows [] aggregates.now)

-- no rows of an inner plan, on their way to what an Apply makes of them
abbrev pub nothing_of : ApplyKind → Received
nothing_of (Aggregate aggregates) = Folds (no_rows [] aggregates)
nothing_of _ = Rows []

-- no rows, on their way to the first of nodes, or, after the last, for what they are wanted
abbrev pub nothing_below : Wanted → List Node → Received
nothing_below for [] = nothing_wanted for
nothing_below for (n ∷ ns) = nothing_for n
