-- What the plan of a query is to be.
use Rattle.std.specs.List.{All}
use Rattle.std.specs.Prelude.{IsTrue, ◌≡◌, ℕ, zero, suc, true, List, [], ◌∷◌, length, map}
use Rattle.rel_algebra.specs.Meaning.{answer as does, ask as asks, call as calls, carried}
use Rattle.sql_values.specs.declared.value.Value.{Value}
use Rattle.row_types.specs.Rows.{Row, well_kept}
use Rattle.row_types.specs.Tables.{Tables}
use Rattle.row_types.specs.declared.cell.Cell.{Cell}
use Rattle.rel_algebra.specs.Emit.{Env, Place, at, below, given, nowhere, outward, plan}
use Rattle.rel_algebra.specs.Emit.{routine_plan, top}
use Rattle.rel_algebra.specs.Endings.{Ending, cell_end}
use Rattle.rel_algebra.specs.Joins.{table_width}
use Rattle.rel_algebra.specs.Plain.{Inputs, Scope, answer, columns_in, planned, planned_routine}
use Rattle.rel_algebra.specs.Plan.{collected, den, shown}
use Rattle.rel_algebra.specs.Tree.{Query, Routine, parameters_of}
use Rattle.rel_algebra.specs.World.{Called, Frame, World, frame_of, no_frame, no_self}
pub use Rattle.rel_algebra.specs.Agreement.{AllWide, Fits, outside, Agrees, one_cell}

-- For all tables, rows outside, arguments, and environments that read the scope from them: what is
-- collected of the plan's rows is the meaning, the same rows in the same order, or the same first
-- condition.
abbrev pub Means : Type 0
Means = (q : Query) (w : Inputs) (o : List (List Cell)) (f : Scope) (e : Env) → planned q ≡ true →
    Fits w → Agrees e (outside w o) f →
    collected (den (plan q (columns_in w) e) w o) ≡ answer q w f

-- an environment for rows outside of these widths, whose parameters are the n arguments
abbrev pub under_columns : List ℕ → ℕ → ℕ → Place
under_columns [] d i = nowhere
under_columns (n ∷ ns) zero i = below n i (at 0 i)
under_columns (n ∷ ns) (suc d) i = outward (under_columns ns d i)

-- the environment under rows of these widths, with n arguments
abbrev pub under : List ℕ → ℕ → Env
under ns n = record { columns = under_columns ns; params = λ i. below n i (given i) }

-- how many values rows have
abbrev pub widths : List Row → List ℕ
widths rows = map (λ (r : Row). length r) rows

-- rows of values as rows of cells
abbrev pub stack : List Row → List (List Cell)
stack rows = map shown rows

-- the same under any rows outside
abbrev pub MeansUnder : Type 0
MeansUnder = (q : Query) (w : Inputs) (rows : List Row) → planned q ≡ true → Fits w →
    collected (den (plan q (columns_in w) (under (widths rows) (length w.args))) w (stack rows))
    ≡ answer q w (record { rows = rows; params = w.args })

-- the arguments are the values of the frame
abbrev pub inputs_of : World → Frame → Inputs
inputs_of w f = record { tables = w.tables; args = f.variables }

-- a query inside a body ends as its plan does, in the world in which it began, whatever a self-call
-- means there
abbrev pub MeansWithin : Type 0
MeansWithin = (q : Query) (self : Called) (f : Frame) (w : World) → planned q ≡ true →
    Fits (inputs_of w f) →
    does q self [] f w
    ≡ carried (collected (den (plan q (table_width w.tables) (top (length f.variables)))
    (inputs_of w f) [])) w

-- the same where there is no routine around, so that a self-call means nothing
abbrev pub MeansPassing : Type 0
MeansPassing = (q : Query) (f : Frame) (w : World) → planned q ≡ true → Fits (inputs_of w f) →
    does q no_self [] f w ≡ carried
    (collected (den (plan q (table_width w.tables) (top (length f.variables))) (inputs_of w f) []))
    w

-- the same of a query that is a statement
abbrev pub MeansAsked : Type 0
MeansAsked = (q : Query) (w : World) → planned q ≡ true → Fits (inputs_of w no_frame) →
    asks q w ≡ carried (collected
    (den (plan q (table_width w.tables) (top 0)) (inputs_of w no_frame) [])) w

-- The plan of a function has one row of one cell, its value or its area, and a call ends so, in the
-- world in which it began.
pub record MeansCall (r : Routine) (values : List Value) (w : World) : Type 0 where
  -- how a call ends
  pub end : Ending Value
  -- the plan has that one cell
  pub has : den (routine_plan r (table_width w.tables)) (inputs_of w (frame_of values)) []
      ≡ one_cell (cell_end end)
  -- the call ends so, and leaves its world
  pub ends : calls r values w ≡ carried end w

-- for every function that is planned, and as many arguments as it has parameters
abbrev pub FunctionPlans : Type 0
FunctionPlans = (r : Routine) (values : List Value) (w : World) → planned_routine r ≡ true →
    length values ≡ length (parameters_of r) →
    Fits (inputs_of w (frame_of values)) → MeansCall r values w

-- tables whose rows fit have rows of as many values as columns
abbrev pub KeptTablesFit : Type 0
KeptTablesFit = (tables : Tables) (args : List Value) →
    All (λ s. IsTrue (well_kept s.table.columns s.table.key s.table.rows)) tables →
    Fits (record { tables = tables; args = args })
