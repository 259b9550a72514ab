-- The plan of a query over the rows of a plan. ISO/IEC 9075-2, 7.16 (query specification).
use Rattle.std.specs.Prelude.{ℕ, ◌+◌, List, length, Option, Some, None}
use Rattle.bound_trees.specs.declared.query.BoundGrouping.{BoundGrouping}
use Rattle.block_plans.specs.Callees.{Callees}
use Rattle.block_plans.specs.View.{exprs_seen}
use Rattle.rel_algebra.specs.Tree.{Exprs}
use Rattle.rel_algebra.specs.Plan.{PlanTree}
use Rattle.rel_algebra.specs.Emit.{Env, entered, none_waits, emit_all, emit_tests, selected}
use Rattle.plan_drafts.specs.Grouping.{grouped_rows}

-- of rows of n columns those for which each conjunct is true, and of each the list
abbrev pub selected_rows : Exprs → Exprs → (List ℕ → ℕ) → Env → ℕ → PlanTree → PlanTree
selected_rows list conjuncts S e n input =
    let within = entered e n in selected (emit_tests conjuncts S within none_waits)
    (emit_all list S within) n input

-- the same, or of the groups of these rows those that HAVING leaves, and of each the list
abbrev pub selected_groups : Callees → Option BoundGrouping → Exprs → Exprs → (List ℕ → ℕ) → Env →
    ℕ → PlanTree → PlanTree
selected_groups k None list conjuncts S e n input = selected_rows list conjuncts S e n input
selected_groups k (Some g) list conjuncts S e n input =
    selected_rows list (exprs_seen k g.having) S e (g.keys + length g.aggregates)
    (grouped_rows g.keys g.aggregates (selected_rows (exprs_seen k g.parts) conjuncts S e n input))
