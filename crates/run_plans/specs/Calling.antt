-- How a call of a function ends where its plan is run. ISO/IEC 9075-2, 10.4 (routine invocation).
use Rattle.std.specs.Prelude.{List, [], Ok, Err}
use Rattle.sql_values.specs.declared.value.Value.{Value}
use Rattle.row_types.specs.Rows.{Row}
use Rattle.rel_algebra.specs.Endings.{Ending}
use Rattle.rel_algebra.specs.Joins.{single_of}
use Rattle.rel_algebra.specs.Meaning.{carried}
use Rattle.rel_algebra.specs.Plan.{collected, den}
use Rattle.rel_algebra.specs.PlanView.{tree_of}
use Rattle.rel_algebra.specs.Theorem.{inputs_of}
use Rattle.rel_algebra.specs.World.{Ends, World, frame_of}
use Rattle.call_plans.specs.declared.calls.CallPlan.{CallPlan}

-- the value of the one row, or the conditions that are met
abbrev pub value_end : Ending (List Row) → Ending Value
value_end (Ok rows) = single_of rows
value_end (Err area) = Err area

-- with the value of the one row of its plan over the tables and the arguments, or with its
-- conditions, in the world in which it began
abbrev pub call_end : CallPlan → List Value → World → Ends Value
call_end c values w =
    carried (value_end (collected (den (tree_of c.plan) (inputs_of w (frame_of values)) []))) w
