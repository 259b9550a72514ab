-- SIGNAL, RESIGNAL and GET DIAGNOSTICS. ISO/IEC 9075-4, 17.2 (signal statement) and 17.3 (resignal
-- statement), and 9075-2, 23.1 (get diagnostics statement).
use Rattle.std.specs.Prelude.{ℕ, suc, pos, List, [], map, length, slice_get, Option, Some}
use Rattle.std.specs.Prelude.{None}
use Rattle.sql_values.specs.declared.value.Value.{Value}
use Rattle.sql_values.specs.declared.value.Value.TheVariants.{Int, Str}
use Rattle.sql_conditions.specs.declared.condition.Condition.{Condition}
use Rattle.sql_conditions.specs.Conditions.{Area, pushed, retexted}
use Rattle.rel_algebra.specs.Tree.{Target, WhichArea, Current, Stacked, StatementItem, Number}
use Rattle.rel_algebra.specs.Tree.{RowCount, StatementRead, ConditionItem, ReturnedSqlstate}
use Rattle.rel_algebra.specs.Tree.{MessageText, ConditionRead}
use Rattle.rel_algebra.specs.States.{one_condition, null_text, not_active, not_stacked}
use Rattle.rel_algebra.specs.States.{invalid_number}
use Rattle.rel_algebra.specs.World.{Frame, Eval}
use Rattle.rel_algebra.specs.Doing.{Next, Doing, ends, put_in, take_values}
use Rattle.rel_algebra.specs.Handlers.{Scopes, failing, raising, with_called, with_value}

-- ---- SIGNAL and RESIGNAL

-- a text, where one is written; NULL raises
abbrev pub with_text : Scopes → Option Value → (Option (List ℕ) → Doing) → Doing
with_text scopes None go = go None
with_text scopes (Some (Str s)) go = go (Some s)
with_text scopes (Some v) go = failing scopes null_text

-- a text, and the empty one where none is written
abbrev pub or_empty : Option (List ℕ) → List ℕ
or_empty None = []
or_empty (Some s) = s

-- the handled conditions again, with another text, or with a new condition first
abbrev pub again_as : Option (List ℕ) → Option (List ℕ) → Area → Area
again_as None None area = area
again_as None (Some s) area = retexted s area
again_as (Some state) text area = pushed (record { state = state; message = or_empty text }) area

-- SIGNAL: one condition of a state, with its text. ISO/IEC 9075-4, 17.2 (signal statement)
abbrev pub signalling : List ℕ → Scopes → (Frame → Eval (Option Value)) → Doing
signalling state scopes message =
    with_value scopes message
    (λ v. with_text scopes v (λ text. raising scopes (one_condition state (or_empty text))))

-- by the conditions that the innermost action around it handles
abbrev pub resignalling : Option Area → Option (List ℕ) → Scopes → (Frame → Eval (Option Value)) →
    Doing
resignalling None state scopes message = failing scopes not_active
resignalling (Some area) state scopes message =
    with_value scopes message
    (λ v. with_text scopes v (λ text. raising scopes (again_as state text area)))

-- ---- GET DIAGNOSTICS

-- what is read: conditions, and a ROW_COUNT
pub record Reading : Type 0 where
  -- the conditions
  pub area : Area
  -- how many rows a statement took
  pub row_count : ℕ

-- what GET STACKED DIAGNOSTICS reads: the conditions that an action handles, and no ROW_COUNT. 23.1
abbrev pub stacked_reading : Option Area → Option Reading
stacked_reading None = None
stacked_reading (Some area) = Some (record { area = area; row_count = 0 })

-- what GET DIAGNOSTICS reads, by CURRENT and STACKED. 23.1
abbrev pub reading_of : WhichArea → Option Area → Frame → Option Reading
reading_of Current stacked f = Some (record { area = f.current; row_count = f.row_count })
reading_of Stacked stacked f = stacked_reading stacked

-- NUMBER and ROW_COUNT. 23.1 (get diagnostics statement)
abbrev pub statement_item : Reading → StatementItem → Value
statement_item r Number = Int (pos (length r.area))
statement_item r RowCount = Int (pos r.row_count)

-- RETURNED_SQLSTATE and MESSAGE_TEXT. 23.1 (get diagnostics statement)
abbrev pub condition_item : Condition → ConditionItem → Value
condition_item c ReturnedSqlstate = Str c.state
condition_item c MessageText = Str c.message

-- the condition of a number, from one on
abbrev pub condition_numbered : Value → Area → Option Condition
condition_numbered (Int (pos (suc n))) area = slice_get area n
condition_numbered _ area = None

-- All values are converted, and then stored; the diagnostics stay.
abbrev pub reading_into : Scopes → List Target → List Value → Doing
reading_into scopes ts vs =
    with_called scopes (λ f. take_values ts vs) (λ xs f w. ends Next (put_in ts xs f) w)

-- GET DIAGNOSTICS of statement items; without an action there are no stacked ones. 23.1
abbrev pub getting_area : Option Reading → Scopes → List StatementRead → Doing
getting_area None scopes reads = failing scopes not_stacked
getting_area (Some r) scopes reads =
    reading_into scopes (map (λ (x : StatementRead). x.target) reads)
    (map (λ (x : StatementRead). statement_item r x.item) reads)

-- the items of a condition into their variables; a number without a condition raises 35000
abbrev pub of_condition : Option Condition → Scopes → List ConditionRead → Doing
of_condition None scopes reads = failing scopes invalid_number
of_condition (Some c) scopes reads =
    reading_into scopes (map (λ (x : ConditionRead). x.target) reads)
    (map (λ (x : ConditionRead). condition_item c x.item) reads)

-- GET DIAGNOSTICS CONDITION: its number is evaluated, and then its items are read. 23.1
abbrev pub getting_condition : Option Reading → Scopes → (Frame → Eval Value) → List ConditionRead →
    Doing
getting_condition None scopes number reads = failing scopes not_stacked
getting_condition (Some r) scopes number reads =
    with_value scopes number (λ n. of_condition (condition_numbered n r.area) scopes reads)

-- by what is read at the start of the statement
abbrev pub at_reading : WhichArea → Option Area → (Option Reading → Doing) → Doing
at_reading which stacked go = λ f w. go (reading_of which stacked f) f w
