-- Functions in form as they stand among all routines, and that they do there what they do here: a
-- call reads the tables of its world, and leaves that world as it is. ISO/IEC 9075-2, 10.4 (routine
-- invocation).
use Rattle.std.specs.Prelude.{◌≡◌, true, List, [], length}
use Rattle.sql_values.specs.declared.value.Value.{Value}
use Rattle.rel_algebra.specs.World.{World, frame_of}
use Rattle.rel_algebra.specs.Meaning.{call as calls, carried}
use Rattle.rel_algebra.specs.Endings.{Ending, cell_end}
use Rattle.rel_algebra.specs.Joins.{table_width}
use Rattle.rel_algebra.specs.Plain.{Inputs, planned_routine}
use Rattle.rel_algebra.specs.Plan.{den}
use Rattle.rel_algebra.specs.Theorem.{Fits, inputs_of, one_cell}
pub use Rattle.regions.specs.TreeBodies.{stmt_of, stmts_of, branches_of, handlers_of, routine_of}
use Rattle.regions.specs.Tree.{Routine}
use Rattle.regions.specs.Meaning.{call}
use Rattle.regions.specs.Inline.{Widths, inline}
use Rattle.regions.specs.Theorem.{RoutineFormed, parameters_of}

-- a function in form is planned among all routines
abbrev pub FormIsPlanned : Type 0
FormIsPlanned = (r : Routine) (S : Widths) → RoutineFormed r S →
    planned_routine (routine_of r) ≡ true

-- the tables of a world; no function in form reads an argument of the whole query
abbrev pub tables_of : World → List Value → Inputs
tables_of w args = record { tables = w.tables; args = args }

-- For every function in form, all values and every world: a call ends with exactly the value or the
-- area that it has by the tables alone, and in the very world in which it began. So it takes no
-- turn, changes no table, and leaves as many routines active as there were.
abbrev pub FormIsPure : Type 0
FormIsPure = (r : Routine) (values args : List Value) (w : World) →
    RoutineFormed r (table_width w.tables) → Fits (tables_of w args) →
    calls (routine_of r) values w ≡ carried (call r values (tables_of w args)) w

-- how a call of a function in form ends: as the one cell of its plan, and in its world
pub record MeansCall (r : Routine) (values : List Value) (w : World) : Type 0 where
  -- how a call ends
  pub end : Ending Value
  -- the plan has one row of that one cell
  pub has : den (inline r (table_width w.tables)) (inputs_of w (frame_of values)) []
      ≡ one_cell (cell_end end)
  -- the call ends so, and leaves its world
  pub ends : calls (routine_of r) values w ≡ carried end w

-- for every function in form, and as many values as it has parameters
abbrev pub BodyPlans : Type 0
BodyPlans = (r : Routine) (values : List Value) (w : World) →
    RoutineFormed r (table_width w.tables) → length values ≡ length (parameters_of r) →
    Fits (inputs_of w (frame_of values)) → MeansCall r values w
