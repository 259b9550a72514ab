-- The conditions that statements raise, and what handlers wait for. ISO/IEC 9075-2, 24.1
-- (SQLSTATE), and ISO/IEC 9075-4, 4.8 (conditions).
use Rattle.std.specs.Prelude.{ℕ, Bool, false, ◌||◌, List}
use Rattle.std.specs.Str.{bytes_eq}
use Rattle.sql_conditions.specs.declared.condition.EngineCondition.TheVariants as engine
use Rattle.sql_conditions.specs.Conditions.{Area, area_of}
pub use Rattle.sql_conditions.specs.Conditions.{one_condition, success, state_in}
pub use Rattle.sql_conditions.specs.States.{is_class, is_warning, is_no_data, is_exception}
use Rattle.rel_algebra.specs.Tree.{ConditionValue, State, SqlException, SqlWarning, NotFound}

-- no row is met, found or left
abbrev pub no_data : Area
no_data = area_of engine.NoData

-- CASE without ELSE, and no test is true
abbrev pub case_not_found : Area
case_not_found = area_of engine.CaseNotFound

-- the text of SIGNAL or RESIGNAL is NULL
abbrev pub null_text : Area
null_text = area_of engine.NullNotAllowed

-- an open cursor is opened, or one that is closed is read or closed
abbrev pub invalid_cursor : Area
invalid_cursor = area_of engine.InvalidCursorState

-- a function ends without RETURN
abbrev pub without_return : Area
without_return = area_of engine.EndedWithoutReturn

-- RESIGNAL outside of the text of an action
abbrev pub not_active : Area
not_active = area_of engine.HandlerNotActive

-- GET STACKED DIAGNOSTICS outside of the text of an action
abbrev pub not_stacked : Area
not_stacked = area_of engine.StackedWithoutHandler

-- a condition that an area doesn't have
abbrev pub invalid_number : Area
invalid_number = area_of engine.InvalidConditionNumber

-- ---- what a handler waits for

-- a handler value that names the state. ISO/IEC 9075-4, 14.2 (handler declaration)
abbrev pub names : ConditionValue → List ℕ → Bool
names (State s) state = bytes_eq s state
names _ state = false

-- a handler value that is the state's class: SQLEXCEPTION, SQLWARNING or NOT FOUND. ISO/IEC 9075-4,
-- 14.2
abbrev pub covers : ConditionValue → List ℕ → Bool
covers (State s) state = false
covers SqlException state = is_exception state
covers SqlWarning state = is_warning state
covers NotFound state = is_no_data state

-- a state that it names, or a class that it covers
abbrev pub waits_for : ConditionValue → List ℕ → Bool
waits_for v state = names v state || covers v state
