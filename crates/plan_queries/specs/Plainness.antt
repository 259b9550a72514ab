-- Rows of VALUES: those that need no nodes, and those over their numbers. ISO/IEC 9075-2, 7.3
-- (table value constructor).
use Rattle.std.specs.Prelude.{◌≡◌, ℕ, true, false, List, Option, Some, None}
use Rattle.bound_trees.specs.declared.query.BoundRow.{BoundRow}
use Rattle.rel_algebra.specs.declared.plan.ScalarRow.{ScalarRow}
use Rattle.rel_algebra.specs.Joins.{rows_width}
use Rattle.rel_algebra.specs.Plan.{PlanTree}
use Rattle.rel_algebra.specs.PlanView.{scalars_of, lists_of}
use Rattle.rel_algebra.specs.Emit.{Env, EmittedAll, all_plain, chosen, emit_rows, is_plain}
use Rattle.rel_algebra.specs.Emit.{list_nodes, scalars_of as all_scalars_of, values_plan}
use Rattle.block_plans.specs.Callees.{Callees, width_in}
use Rattle.block_plans.specs.View.{rows_seen}

-- the lists of rows, where none needs nodes
abbrev pub ArePlain : Option (List ScalarRow) → List EmittedAll → Type 0
ArePlain None lists = all_plain lists ≡ false
ArePlain (Some rows) lists = (all_plain lists ≡ true) × (lists_of rows ≡ all_scalars_of lists)

-- the list of a row, where it needs no nodes
abbrev pub IsPlain : Option ScalarRow → EmittedAll → Type 0
IsPlain None a = is_plain a.nodes ≡ false
IsPlain (Some row) a = (is_plain a.nodes ≡ true) × (scalars_of row.scalars ≡ a.scalars)

-- the nodes of all lists, and of each of w columns the list of the row's number
abbrev pub by_number : ℕ → List EmittedAll → EmittedAll
by_number w lists = record { nodes = list_nodes lists; scalars = chosen w 0 lists }

-- the plan of rows of VALUES, by where their names are read
abbrev pub rows_plan : Callees → List BoundRow → Env → PlanTree
rows_plan k rs e = values_plan (rows_width (rows_seen k rs))
    (emit_rows (rows_seen k rs) (width_in k) e 0) (emit_rows (rows_seen k rs) (width_in k) e 1)
