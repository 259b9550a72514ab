-- FOR: the columns of its query as variables. ISO/IEC 9075-4, 14.13 (for statement).
use Rattle.std.specs.Prelude.{ℕ, ◌+◌, true, List, [], ◌∷◌, ◌++◌, map, length, Option, Some, None}
use Rattle.std.specs.Prelude.{is_some}
use Rattle.std.specs.List.{flat_map}
use Rattle.syntax_trees.specs.declared.anchor.Anchor.{Anchor}
use Rattle.syntax_trees.specs.declared.anchor.Ident.{Ident}
use Rattle.syntax_trees.specs.declared.query.Query.{Query}
use Rattle.bind_faults.specs.declared.fault.Fault.{Fault}
use Rattle.bind_faults.specs.declared.fault.FaultKind.TheVariants.{DuplicateName, NotPermitted}
use Rattle.bind_faults.specs.Faults.{fault_if}
use Rattle.bind_sight.specs.declared.output.Output.{Output}
use Rattle.bind_sight.specs.declared.scope.Scope.{Scope}
use Rattle.bind_sight.specs.declared.scope.Variable.{Variable}
use Rattle.bind_sight.specs.Index.{place_of}
use Rattle.bind_sight.specs.Scopes.{loop_scope}
use Rattle.bind_simple.specs.Anchors.{column_at}

-- ---- slots

-- the first slot after those of the scopes, of variables and of cursors
abbrev pub slot_after : Scope → ℕ
slot_after s = s.first + length s.held

-- the first slot of a variable after those of the scopes in sight
abbrev pub next_slot : List Scope → ℕ
next_slot [] = 0
next_slot (s ∷ ss) = slot_after s

-- the first slot of a cursor after those of a scope
abbrev pub cursor_after : Scope → ℕ
cursor_after s = s.first_cursor + length s.columns

-- the first slot of a cursor after those of the scopes in sight
abbrev pub next_cursor : List Scope → ℕ
next_cursor [] = 0
next_cursor (s ∷ ss) = cursor_after s

-- ---- columns

-- the name of a column, where it has one
abbrev pub name_in : Option (List ℕ) → List (List ℕ)
name_in None = []
name_in (Some name) = name ∷ []

-- the names that the columns have
abbrev pub names_of_columns : List Output → List (List ℕ)
names_of_columns cs = flat_map (λ c. name_in c.name) cs

-- a column of FOR has a kind and no type: nothing is stored there
abbrev pub column_held : Output → Variable
column_held c = record { kind = c.kind; data_type = None }

-- a column has a name, and one that none before it has
abbrev pub column_faults : Anchor → List (List ℕ) → Option (List ℕ) → List Fault
column_faults at before None = fault_if true NotPermitted at
column_faults at before (Some name) = fault_if (is_some (place_of name before)) DuplicateName at

-- the columns from a place on
abbrev pub columns_faults : Query → ℕ → List (List ℕ) → List Output → List Fault
columns_faults q place before [] = []
columns_faults q place before (c ∷ cs) =
    column_faults (column_at q place) before c.name ++ columns_faults q (place + 1)
    (before ++ name_in c.name) cs

-- the columns of a FOR loop as variables, after those of the scopes outside
abbrev pub scope_of_columns : Ident → List Output → List Scope → Scope
scope_of_columns i cs ss = loop_scope (Some i.name) (next_slot ss) (next_cursor ss)
    (names_of_columns cs) (map column_held cs)
