-- What routines, compound statements and FOR loops bring in sight, and what a name stands for
-- there. ISO/IEC 9075-4, 4.2 (scopes), 13.1 (compound statement) and 14.6 (for statement).
use Rattle.std.specs.Prelude.{ℕ, ◌+◌, Bool, false, if◌then◌else◌, List, [], ◌∷◌, get_or, slice_get}
use Rattle.std.specs.Prelude.{Option, Some, None}
use Rattle.std.specs.Str.{bytes_eq}
use Rattle.bind_kinds.specs.declared.kind.Kind.{Kind}
use Rattle.bind_kinds.specs.declared.kind.Kind.TheVariants.{Null}
use Rattle.bind_sight.specs.declared.scope.Variable.{Variable}
use Rattle.bind_sight.specs.declared.scope.Cursor.{Cursor}
use Rattle.bind_sight.specs.declared.scope.Scope.{Scope}
use Rattle.bind_sight.specs.declared.scope.ScopeRef.{ScopeRef}
use Rattle.bind_sight.specs.declared.scope.FoundCursor.{FoundCursor}
use Rattle.bind_sight.specs.Index.{place_of}

-- ---- scopes

-- without a name in it; its variables and its cursors begin at these slots
abbrev pub empty_scope : ℕ → ℕ → Scope
empty_scope first first_cursor = record {
  loop_name = None;
  first = first;
  variables = [];
  held =
      [];
  conditions = [];
  states = [];
  first_cursor = first_cursor;
  cursors = [];
  columns = [];
}

-- the columns of a FOR loop
abbrev pub loop_scope : Option (List ℕ) → ℕ → ℕ → List (List ℕ) → List Variable → Scope
loop_scope loop_name first first_cursor names held =
    record {
      loop_name = loop_name;
      first = first;
      variables = names;
      held = held;
      conditions = [];
      states = [];
      first_cursor = first_cursor;
      cursors = [];
      columns = [];
    }

-- the parameters of a routine
abbrev pub parameter_scope : List (List ℕ) → List Variable → Scope
parameter_scope names held = loop_scope None 0 0 names held

-- ---- variables

-- the slot of the variable or cursor at a place, by the first slot of its scope
abbrev pub slot_of : ℕ → ℕ → ℕ
slot_of first place = first + place

-- of a variable of which nothing is said
abbrev pub no_variable : Variable
no_variable = record { kind = Null; data_type = None }

-- what the variable at a place of a scope is
abbrev pub held_at : List Variable → ℕ → Variable
held_at held place = get_or held place no_variable

-- the variable at a place of a scope, and its slot
abbrev pub variable_at : Scope → Option ℕ → Option (ℕ × Variable)
variable_at s None = None
variable_at s (Some place) = Some (slot_of s.first place, held_at s.held place)

-- the variable of a name in one scope
abbrev pub variable_in : List ℕ → Scope → Option (ℕ × Variable)
variable_in name s = variable_at s (place_of name s.variables)

-- the first of two, or the other
abbrev pub or_else : {A : Type 0} → Option A → Option A → Option A
or_else None other = other
or_else (Some a) other = Some a

-- the variable of a name, of the innermost scope that has it
abbrev pub variable_named : List ℕ → List Scope → Option (ℕ × Variable)
variable_named name [] = None
variable_named name (s ∷ ss) = or_else (variable_in name s) (variable_named name ss)

-- whether a scope's loop name, if it has one, is the name before the column
abbrev pub is_loop : List ℕ → Option (List ℕ) → Bool
is_loop q None = false
is_loop q (Some own) = bytes_eq own q

-- The column of a FOR loop, after the loop's name: the innermost loop of the name has it, or there
-- is none.
abbrev pub loop_variable : List ℕ → List ℕ → List Scope → Option (ℕ × Variable)
loop_variable q name [] = None
loop_variable q name (s ∷ ss) = if is_loop q s.loop_name then variable_in name s else loop_variable
    q name ss

-- ---- conditions

-- the SQLSTATE at a place of a scope, or the other
abbrev pub state_or : Scope → Option ℕ → Option (List ℕ) → Option (List ℕ)
state_or s None other = other
state_or s (Some place) other = slice_get s.states place

-- the SQLSTATE of the condition of a name, of the innermost scope that has it
abbrev pub condition_named : List ℕ → List Scope → Option (List ℕ)
condition_named name [] = None
condition_named name (s ∷ ss) = state_or s (place_of name s.conditions) (condition_named name ss)

-- ---- cursors

-- a cursor of which nothing is said has no column
abbrev pub cursor_at : List Cursor → ℕ → Cursor
cursor_at cs place = get_or cs place (record { kinds = [] })

-- the kinds of the columns of the cursor at a place of a scope
abbrev pub kinds_at : List Cursor → ℕ → List Kind
kinds_at cs place = (cursor_at cs place).kinds

-- the cursor at a place of a scope, and its slot
abbrev pub cursor_of : Scope → Option ℕ → Option (ℕ × Cursor)
cursor_of s None = None
cursor_of s (Some place) = Some (slot_of s.first_cursor place, cursor_at s.columns place)

-- the cursor of a name in one scope
abbrev pub cursor_in : List ℕ → Scope → Option (ℕ × Cursor)
cursor_in name s = cursor_of s (place_of name s.cursors)

-- the cursor of a name, of the innermost scope that has it
abbrev pub cursor_named : List ℕ → List Scope → Option (ℕ × Cursor)
cursor_named name [] = None
cursor_named name (s ∷ ss) = or_else (cursor_in name s) (cursor_named name ss)

-- ---- what the code's scopes show

-- the scope that one in sight refers to
abbrev pub scope_by : ScopeRef → Scope
scope_by r = r.scope.now

-- a cursor that a name stands for, as its slot and what it is
abbrev pub cursor_by : FoundCursor → ℕ × Cursor
cursor_by f = (f.slot, record { kinds = f.kinds.now })
