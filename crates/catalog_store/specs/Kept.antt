-- The plan that is kept with a function: what the emitter makes of its body, its parameters the
-- arguments. ISO/IEC 9075-2, 10.4 (routine invocation).
use Rattle.std.specs.Prelude.{◌≡◌, false, List, [], ◌∷◌, length, Option, Some, None}
use Rattle.rel_algebra.specs.declared.plan.Node.{Node, out-Node}
use Rattle.rel_algebra.specs.declared.plan.Node.TheOpen.{Node-F}
use Rattle.rel_algebra.specs.declared.plan.Plan.{Plan}
use Rattle.rel_algebra.specs.Tree.{Returned}
use Rattle.rel_algebra.specs.Plan.{Scalar, Scalars, Kind, PlanTree, Nodes, no_node, extend_by}
use Rattle.rel_algebra.specs.Plan.{apply_by, anew}
use Rattle.rel_algebra.specs.PlanView.{scalar_of, scalars_of, kind_of, tree_of as plan_tree_of}
use Rattle.rel_algebra.specs.Emit.{Emitted, emit_body, top}
use Rattle.catalog_store.specs.declared.entry.FunctionPlan.{FunctionPlan}
use Rattle.catalog_store.specs.declared.entry.RoutineRecord.{RoutineRecord}
use Rattle.catalog_store.specs.Catalog.{Catalog}
use Rattle.catalog_store.specs.View.{tree_of}
use Rattle.catalog_store.specs.Widths.{width_in}

-- a run with one node more below it
abbrev pub extended : Scalars → Option Nodes → Option Nodes
extended ss None = None
extended ss (Some rest) = Some (extend_by ss rest)

-- a run with an Apply more below it
abbrev pub applied : Scalar → Kind → PlanTree → Option Nodes → Option Nodes
applied when kind inner None = None
applied when kind inner (Some rest) = Some (apply_by when kind anew inner rest)

-- a run with this node more below it, if it adds columns
abbrev pub with_below : Node-F Node Plan → Option Nodes → Option Nodes
with_below (Node-F.Extend ss) rest = extended (scalars_of ss) rest
with_below (Node-F.Apply s k inner) rest = applied (scalar_of s) (kind_of k) (plan_tree_of inner)
    rest
with_below _ rest = None

-- the run of nodes that a list of nodes is, where each of them adds columns
abbrev pub run_of : List Node → Option Nodes
run_of [] = Some no_node
run_of (n ∷ ns) = with_below (out-Node n) (run_of ns)

-- a plan in memory is this emission
pub record IsPlan (p : FunctionPlan) (e : Emitted) : Type 0 where
  pub nodes : run_of p.nodes ≡ Some e.nodes
  pub scalar : scalar_of p.scalar ≡ e.scalar

-- a plan is there, and is this emission
abbrev pub HasPlan : Option FunctionPlan → Emitted → Type 0
HasPlan None e = ⊥
HasPlan (Some p) e = IsPlan p e

-- what the emitter makes of a function's body, seen by this catalog
abbrev pub own_plan : Catalog → RoutineRecord → Emitted
own_plan known r = emit_body (Returned r.head.parameters r.head.returns
    (tree_of known r.body)) (width_in known) (top (length r.head.parameters)) 0

-- a function's plan is kept, and is what the emitter makes of it
abbrev pub IsKept : Catalog → RoutineRecord → Type 0
IsKept known r = HasPlan r.plan (own_plan known r)
