-- What the plan of a call of a function is: one row of one cell, the value or the area with which
-- the call ends. ISO/IEC 9075-2, 10.4 (routine invocation).
use Rattle.std.specs.Prelude.{◌≡◌, ℕ, true, List, [], length}
use Rattle.sql_values.specs.declared.value.Value.{Value}
use Rattle.rel_algebra.specs.Emit.{routine_plan}
use Rattle.rel_algebra.specs.Endings.{Ending, cell_end}
use Rattle.rel_algebra.specs.Joins.{table_width}
use Rattle.rel_algebra.specs.Meaning.{call as calls, carried}
use Rattle.rel_algebra.specs.Plain.{planned_routine}
use Rattle.rel_algebra.specs.Plan.{den}
use Rattle.rel_algebra.specs.PlanView.{tree_of}
use Rattle.rel_algebra.specs.Theorem.{Fits, inputs_of, one_cell}
use Rattle.rel_algebra.specs.Tree.{parameters_of}
use Rattle.rel_algebra.specs.World.{World, frame_of}
use Rattle.scanned_tables.specs.Scans.{scans, AreWide}
use Rattle.catalog_store.specs.Catalog.{Catalog}
use Rattle.catalog_store.specs.Widths.{width_in}
use Rattle.routine_views.specs.Routines.{routines_of}
use Rattle.call_plans.specs.declared.calls.CallPlan.{CallPlan}

-- The routine of this name has a plan in this catalog, the plan is that of a call of it, whose
-- arguments are as many as its parameters, and these are the tables that the plan reads.
pub record IsCallPlan (known : Catalog) (name : List ℕ) (c : CallPlan) : Type 0 where
  pub planned : planned_routine (routines_of known name) ≡ true
  pub parameters : c.parameters ≡ length (parameters_of (routines_of known name))
  pub plan : tree_of c.plan ≡ routine_plan (routines_of known name) (width_in known)
  pub tables : c.tables ≡ scans (tree_of c.plan)

-- how a call ends: as the one cell of its plan, in the world in which it began
pub record EndsByPlan (known : Catalog) (name : List ℕ) (c : CallPlan) (values : List Value)
    (w : World) : Type 0 where
  pub end : Ending Value
  pub has : den (tree_of c.plan) (inputs_of w (frame_of values)) [] ≡ one_cell (cell_end end)
  pub ends : calls (routines_of known name) values w ≡ carried end w

-- Over as many arguments as parameters, and tables of which those that the plan reads have the
-- columns that they have there, a call ends as its plan says.
abbrev pub CallsMean : Type 0
CallsMean = (known : Catalog) (name : List ℕ) (c : CallPlan) (values : List Value) (w : World) →
    IsCallPlan known name c → length values ≡ c.parameters →
    Fits (inputs_of w (frame_of values)) → AreWide c.tables (table_width w.tables) →
    EndsByPlan known name c values w
