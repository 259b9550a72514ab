-- Worlds, frames, and how evaluations end. ISO/IEC 9075-4, 4.8 (conditions), and 9075-2, 10.4
-- (routine invocation).
use Rattle.std.specs.Prelude.{ℕ, zero, suc, ◌+◌, ◌-◌, Bool, true, false, List, [], ◌∷◌, ◌++◌}
use Rattle.std.specs.Prelude.{Option, Some, None, Ok, Err, slice_index_or, if◌then◌else◌}
use Rattle.sql_values.specs.declared.value.Value.{Value}
use Rattle.sql_values.specs.declared.value.Value.TheVariants.{Null}
use Rattle.sql_values.specs.declared.value.ValueFault.{ValueFault}
use Rattle.sql_values.specs.declared.value.ValueFault.TheVariants.{TooLong, OutOfRange, DivZero}
use Rattle.sql_values.specs.declared.value.ValueFault.TheVariants.{BadCast, BadSubstring}
use Rattle.sql_values.specs.declared.value.ValueFault.TheVariants.{NoMemory as WantOfMemory}
use Rattle.sql_values.specs.Values.{Outcome, is_true}
use Rattle.sql_conditions.specs.declared.condition.EngineCondition.{EngineCondition}
use Rattle.sql_conditions.specs.declared.condition.EngineCondition.TheVariants.{NumberOutOfRange}
use Rattle.sql_conditions.specs.declared.condition.EngineCondition.TheVariants.{DivisionByZero}
use Rattle.sql_conditions.specs.declared.condition.EngineCondition.TheVariants.{RecursionTooDeep}
use Rattle.sql_conditions.specs.declared.condition.EngineCondition.TheVariants.{StringTooLong}
use Rattle.sql_conditions.specs.declared.condition.EngineCondition.TheVariants.{SubstringError}
use Rattle.sql_conditions.specs.declared.condition.EngineCondition.TheVariants.{InvalidTextForCast}
use Rattle.sql_conditions.specs.Conditions.{Area, area_of}
use Rattle.row_types.specs.Rows.{Row}
use Rattle.row_types.specs.Tables.{Tables}
use Rattle.rel_algebra.specs.States.{state_in, is_exception, success}

-- the tables, the turns that are left, and how many functions that call themselves are active
pub record World : Type 0 where
  -- the tables by their names
  pub tables : Tables
  -- how many turns are left
  pub turns : ℕ
  -- how many routines that call themselves are active
  pub active : ℕ

-- the world with other tables
abbrev pub with_tables : World → Tables → World
with_tables w tables = record w { tables = tables }

-- a cursor: closed, or the rows that are left. ISO/IEC 9075-2, 4.38 (cursors).
pub data Cursor : Type 0 where
  Closed : Cursor
  Opened : List Row → Cursor

-- What a statement's names stand for: the values of the variables in sight, by their slots, and the
-- cursors in sight; and its diagnostics, which are the current area and ROW_COUNT. An expression
-- reads the variables alone.
pub record Frame : Type 0 where
  -- by their slots, the outermost first
  pub variables : List Value
  -- by their slots, the outermost first
  pub cursors : List Cursor
  -- the conditions of the statement before. 9075-2, 4.33
  pub current : Area
  -- how many rows it stored, changed or removed
  pub row_count : ℕ

-- the frame of a routine that starts
abbrev pub frame_of : List Value → Frame
frame_of values = record { variables = values; cursors = []; current = success; row_count = 0 }

-- the frame of what stands in no routine
abbrev pub no_frame : Frame
no_frame = frame_of []

-- How an evaluation ends: with what it gives, with the conditions that it raises, or without a turn
-- left; and the world that it leaves.
pub data Ends (A : Type 0) : Type 0 where
  Gives : A → World → Ends A
  Raises : Area → World → Ends A
  RunsOut : World → Ends A

-- what an evaluation does, by the world in which it starts
abbrev pub Eval : Type 0 → Type 0
Eval A = World → Ends A

-- goes on with what the first gives
abbrev pub after : {A B : Type 0} → Ends A → (A → Eval B) → Ends B
after (Gives a w) go = go a w
after (Raises area w) go = Raises area w
after (RunsOut w) go = RunsOut w

-- one after another, as `do` writes it
infixl 1 ◌>>=◌
abbrev pub ◌>>=◌ : {A B : Type 0} → Eval A → (A → Eval B) → Eval B
◌>>=◌ first go = λ w. after (first w) go

-- gives a value, and changes nothing
abbrev pub give : {A : Type 0} → A → Eval A
give a = λ w. Gives a w

-- raises one condition of the engine. 24.1 (SQLSTATE)
abbrev pub raise : {A : Type 0} → EngineCondition → Eval A
raise c = λ w. Raises (area_of c) w

-- raises these conditions
abbrev pub raise_area : {A : Type 0} → Area → Eval A
raise_area area = λ w. Raises area w

-- a unit that raises an exception leaves the tables as before it
abbrev pub unit_of : {A : Type 0} → World → Ends A → Ends A
unit_of w (Gives a w') = Gives a w'
unit_of w (Raises area w') =
    Raises area (if is_exception (state_in area) then with_tables w' w.tables else w')
unit_of w (RunsOut w') = RunsOut w'

-- a unit: where it raises an exception, what it wrote is taken back
abbrev pub unit : {A : Type 0} → Eval A → Eval A
unit e = λ w. unit_of w (e w)

-- the condition that a fault raises; no definition gives want of memory, so that of it is never
-- asked
abbrev pub condition_of : ValueFault → EngineCondition
condition_of TooLong = StringTooLong
condition_of OutOfRange = NumberOutOfRange
condition_of DivZero = DivisionByZero
condition_of BadCast = InvalidTextForCast
condition_of BadSubstring = SubstringError
condition_of WantOfMemory = NumberOutOfRange

-- gives an operation's value, or raises its fault
abbrev pub outcome : Outcome → Eval Value
outcome (Ok v) = give v
outcome (Err fault) = raise (condition_of fault)

-- goes on one way where a test is true, and else the other
abbrev pub choose : {A : Type 0} → Value → A → A → A
choose test a b = if is_true test then a else b

-- what the row of a level has at a place, the innermost row at level 0; NULL where there is none
abbrev pub column_of : ℕ → ℕ → List Row → Value
column_of level i rows = slice_index_or (slice_index_or rows level []) i Null

-- what the frame has at a place
abbrev pub variable_of : ℕ → Frame → Value
variable_of i f = slice_index_or f.variables i Null

-- each in turn; the first that doesn't give ends it
abbrev pub each : {A B : Type 0} → (A → Eval B) → List A → Eval (List B)
each f [] = give []
each f (x ∷ xs) = do
  y ← f x
  ys ← each f xs
  give (y ∷ ys)

-- one more item in front, where there is one
abbrev pub with_front : {A : Type 0} → Option A → List A → List A
with_front None xs = xs
with_front (Some x) xs = x ∷ xs

-- each in turn, of which some are left out
abbrev pub each_kept : {A B : Type 0} → (A → Eval (Option B)) → List A → Eval (List B)
each_kept f [] = give []
each_kept f (x ∷ xs) = do
  y ← f x
  ys ← each_kept f xs
  give (with_front y ys)

-- each in turn, all that they give in one list
abbrev pub each_listed : {A B : Type 0} → (A → Eval (List B)) → List A → Eval (List B)
each_listed f [] = give []
each_listed f (x ∷ xs) = do
  ys ← f x
  zs ← each_listed f xs
  give (ys ++ zs)

-- the record of a row that is kept
abbrev pub kept : {A : Type 0} → Bool → Eval A → Eval (Option A)
kept false list = give None
kept true list = do
  values ← list
  give (Some values)

-- a record, where the tests are true
abbrev pub tested : {A : Type 0} → Eval Bool → Eval A → Eval (Option A)
tested tests list = do
  keep ← tests
  kept keep list

-- one turn, where one is left
abbrev pub turn_of : ℕ → World → Ends (Unit {0})
turn_of zero w = RunsOut w
turn_of (suc n) w = Gives tt (record w { turns = n })

-- takes one turn, where one is left
abbrev pub turn : Eval (Unit {0})
turn = λ w. turn_of w.turns w

-- what a call does with the values of its arguments: a function gives its value, a procedure those
-- of its OUT and INOUT parameters
abbrev pub Answering : Type 0 → Type 0
Answering A = List Value → Eval A

-- what a call of a function does: it gives a value
abbrev pub Called : Type 0
Called = Answering Value

-- what a call of a procedure does: it gives the values of its OUT and INOUT parameters
abbrev pub Calling : Type 0
Calling = Answering (List Value)

-- what stands for a self-call where there is no function, or no procedure, to call
abbrev pub no_self : Called
no_self values = raise RecursionTooDeep

-- the same of a procedure
abbrev pub no_again : Calling
no_again values = raise RecursionTooDeep

-- the end with so many active routines
abbrev pub with_active : {A : Type 0} → ℕ → Ends A → Ends A
with_active n (Gives a w) = Gives a (record w { active = n })
with_active n (Raises area w) = Raises area (record w { active = n })
with_active n (RunsOut w) = RunsOut (record w { active = n })

-- A routine that calls itself, with room for so many activations: without room it raises, and else
-- it takes one turn.
abbrev pub activation : {A : Type 0} → ℕ → (Answering A → Answering A) → Answering A
activation zero body values = raise RecursionTooDeep
activation (suc room) body values =
    turn >>= λ t w. with_active w.active
    (body (activation room body) values (record w { active = w.active + 1 }))

-- how many routines that call themselves may be active
abbrev pub most_active : ℕ
most_active = 24

-- by whether it calls itself, and what stands for a self-call where it doesn't
abbrev pub call_of : {A : Type 0} → Bool → Answering A → (Answering A → Answering A) → Answering A
call_of true none body values = λ w. activation (most_active - w.active) body values w
call_of false none body values = body none values
