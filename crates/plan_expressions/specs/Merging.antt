-- A function's plan where it is merged into a call.
use Rattle.std.specs.Prelude.{◌≡◌, ℕ, suc, List, [], ◌∷◌, Option, Some, None, IsSome}
use Rattle.rel_algebra.specs.declared.plan.Node.{Node}
use Rattle.rel_algebra.specs.Plan.{PlanTree, Nodes, on_each}
use Rattle.rel_algebra.specs.PlanView.{Link, node_of, with_node}
use Rattle.rel_algebra.specs.Emit.{width}
use Rattle.rel_algebra.specs.Merged.{Move, moved_scalar, moved_tree, moved_nodes}
use Rattle.catalog_store.specs.declared.entry.FunctionPlan.{FunctionPlan}
use Rattle.catalog_store.specs.Kept.{run_of}
use Rattle.plan_expressions.specs.Drafts.{Drafted}
use Rattle.plan_expressions.specs.declared.moved.Shift.{Shift}

-- the move that the code calls a shift
abbrev pub move_of : Shift → Move
move_of s = record { by = s.by; from = s.from }

-- an operator with its right operand, moved
abbrev pub moved_link : Move → ℕ → Link → Link
moved_link v d l = record { operator = l.operator; operand = moved_scalar v d l.operand }

-- A node of a plan is another one, moved: over each input, and below each run of nodes. Of the rows
-- outside the plan it is the d-th, from 0, whose columns are moved.
pub record IsMoved (v : Move) (d : ℕ) (old new : Node) : Type 0 where
  pub over : (t : PlanTree) → with_node new (moved_tree v d t) ≡ moved_tree v d (with_node old t)
  pub below : (rest : Nodes) → (node_of new).below (moved_nodes v (suc d) rest) ≡ moved_nodes v
      (suc d) ((node_of old).below rest)

-- nodes are others, moved, each the one at its place
abbrev pub AreMoved : Move → ℕ → List Node → List Node → Type 0
AreMoved v d [] [] = Unit {0}
AreMoved v d [] (m ∷ ms) = ⊥
AreMoved v d (n ∷ ns) [] = ⊥
AreMoved v d (n ∷ ns) (m ∷ ms) = IsMoved v d n m × AreMoved v d ns ms

-- a plan in the making, with a run of nodes more, which is moved
abbrev pub with_run : Move → Option Nodes → Drafted → Option Drafted
with_run v None d = None
with_run v (Some ns) d = Some (record {
  tree = on_each (moved_nodes v 0 ns) d.tree;
  width =
      width (moved_nodes v 0 ns) d.width;
})

-- a plan is kept whose nodes all add columns
abbrev pub HasRun : Option FunctionPlan → Type 0
HasRun None = ⊥
HasRun (Some p) = IsSome (run_of p.nodes)
