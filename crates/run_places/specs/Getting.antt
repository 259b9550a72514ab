-- What GET DIAGNOSTICS reads, and where it is stored. ISO/IEC 9075-2, 23.1 (get diagnostics
-- statement).
use Rattle.std.specs.Prelude.{List, map, Option, Some, None}
use Rattle.sql_values.specs.declared.value.Value.{Value}
use Rattle.sql_conditions.specs.Conditions.{Area}
use Rattle.sql_conditions.specs.declared.condition.Condition.{Condition}
use Rattle.sql_conditions.specs.declared.condition.EngineCondition.TheVariants as engine
use Rattle.bound_trees.specs.declared.expr.BoundExpr.{BoundExpr}
use Rattle.bound_trees.specs.declared.condition.BoundArea.{BoundArea}
use Rattle.bound_trees.specs.declared.condition.BoundArea.TheVariants as area
use Rattle.bound_trees.specs.declared.condition.BoundInformation.{BoundInformation}
use Rattle.bound_trees.specs.declared.condition.BoundInformation.TheVariants as information
use Rattle.rel_algebra.specs.Tree.{ConditionRead, StatementRead, Target}
use Rattle.rel_algebra.specs.World.{Eval, Frame, ◌>>=◌, give, raise}
use Rattle.rel_algebra.specs.Doing.{put_in, take_values}
use Rattle.rel_algebra.specs.Diagnostics.{Reading, condition_item, condition_numbered, reading_of}
use Rattle.rel_algebra.specs.Diagnostics.{statement_item}
use Rattle.routine_views.specs.Views.{condition_read, statement_read, which_area}
use Rattle.run_places.specs.declared.getting.Reading.{Reading as HeldReading}

-- what is read
abbrev pub reading_in : HeldReading → Reading
reading_in r = record { area = r.raise.now; row_count = r.row_count }

-- ---- values

-- the values of items of an area as a whole
abbrev pub statement_values : Reading → List StatementRead → List Value
statement_values r reads = map (λ (x : StatementRead). statement_item r x.item) reads

-- the values of items of a condition
abbrev pub condition_values : Condition → List ConditionRead → List Value
condition_values c reads = map (λ (x : ConditionRead). condition_item c x.item) reads

-- the condition of a number that was evaluated; without a number there is none
abbrev pub numbered_in : Option Value → Area → Option Condition
numbered_in None conditions = None
numbered_in (Some n) conditions = condition_numbered n conditions

-- items of an area that is there
abbrev pub of_area : Option Reading → List StatementRead → Eval (List Value)
of_area None reads = raise engine.StackedWithoutHandler
of_area (Some r) reads = give (statement_values r reads)

-- items of a condition that is there
abbrev pub of_condition : Option Condition → List ConditionRead → Eval (List Value)
of_condition None reads = raise engine.InvalidConditionNumber
of_condition (Some c) reads = give (condition_values c reads)

-- items of the condition of a number, in an area that is there
abbrev pub of_numbered : Option Reading → Option Value → List ConditionRead → Eval (List Value)
of_numbered None n reads = raise engine.StackedWithoutHandler
of_numbered (Some r) n reads = of_condition (numbered_in n r.area) reads

-- the values that GET DIAGNOSTICS reads, once its number is known
abbrev pub values_read : Option Area → BoundArea → BoundInformation → Option Value → Frame →
    Eval (List Value)
values_read stacked a (information.Statement reads) n f =
    of_area (reading_of (which_area a) stacked f) (map statement_read reads)
values_read stacked a (information.Condition e reads) n f =
    of_numbered (reading_of (which_area a) stacked f) n (map condition_read reads)

-- ---- what is stored

-- where items of an area as a whole go
abbrev pub statement_targets : List StatementRead → List Target
statement_targets reads = map (λ (x : StatementRead). x.target) reads

-- where items of a condition go
abbrev pub condition_targets : List ConditionRead → List Target
condition_targets reads = map (λ (x : ConditionRead). x.target) reads

-- where what is read goes
abbrev pub targets_read : BoundInformation → List Target
targets_read (information.Statement reads) = statement_targets (map statement_read reads)
targets_read (information.Condition e reads) = condition_targets (map condition_read reads)

-- values that are read, as their targets take them, and stored; the diagnostics stay
abbrev pub reads_into : List Target → List Value → Frame → Eval Frame
reads_into ts vs f = do
  xs ← take_values ts vs
  give (put_in ts xs f)

-- what GET DIAGNOSTICS reads and stores, once its number is known
abbrev pub gets : Option Area → BoundArea → BoundInformation → Option Value → Frame → Eval Frame
gets stacked a i n f = do
  vs ← values_read stacked a i n f
  reads_into (targets_read i) vs f

-- ---- the number

-- an expression that is evaluated only where there is an area to read
abbrev pub where_there : BoundArea → Option Area → BoundExpr → Option BoundExpr
where_there area.Current stacked e = Some e
where_there area.Stacked None e = None
where_there area.Stacked (Some conditions) e = Some e

-- the number that GET DIAGNOSTICS evaluates, where it evaluates one
abbrev pub number_in : Option Area → BoundArea → BoundInformation → Option BoundExpr
number_in stacked a (information.Statement reads) = None
number_in stacked a (information.Condition e reads) = where_there a stacked e
