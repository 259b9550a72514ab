-- Plans in the making.
use Rattle.std.specs.Prelude.{ℕ, Bool, true, false}
use Rattle.rel_algebra.specs.Plan.{PlanTree, unit_row}
use Rattle.rel_algebra.specs.PlanView.{leaf_of, with_nodes}
use Rattle.plan_expressions.specs.declared.draft.Draft.{Draft}

-- the plan so far, and how many columns its rows have
pub record Drafted : Type 0 where
  pub tree : PlanTree
  pub width : ℕ

-- the nodes so far over the leaf
abbrev pub drafted : Draft → Drafted
drafted d = record { tree = with_nodes d.plan.nodes (leaf_of d.plan.leaf); width = d.columns }

-- whether a plan is the single row without cells
abbrev pub is_unit_row : PlanTree → Bool
is_unit_row unit_row = true
is_unit_row _ = false
