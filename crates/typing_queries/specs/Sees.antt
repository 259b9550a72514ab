-- When what stands around a bound tree has what is in sight where it is bound: each column in its
-- row, each variable in its slot, and the tables and functions. ISO/IEC 9075-2, 6.6 (identifier
-- chain), 7.6 (table reference) and 10.4 (routine invocation).
use Rattle.std.specs.Prelude.{◌≡◌, ℕ, ◌+◌, ◌-◌, List, [], ◌∷◌, length, Option, Some, None}
use Rattle.std.specs.Prelude.{slice_get}
use Rattle.bind_kinds.specs.declared.kind.Kind.{Kind}
use Rattle.bind_kinds.specs.Kinds.{kind_of_type}
use Rattle.bind_sight.specs.declared.item.Item.{Item}
use Rattle.bind_sight.specs.declared.output.Output.{Output}
use Rattle.bind_sight.specs.declared.scope.Scope.{Scope}
use Rattle.bind_sight.specs.declared.scope.Variable.{Variable as Held}
use Rattle.bind_sight.specs.declared.sight.Referent.{Referent}
use Rattle.bind_sight.specs.declared.sight.Referent.TheVariants.{Column, Guessed, Variable, Barred}
use Rattle.bind_sight.specs.declared.sight.Referent.TheVariants.{Several, Unknown}
use Rattle.bind_sight.specs.Sight.{Level, Seen, column_of}
use Rattle.bind_parts.specs.From.{table_named}
use Rattle.bind_parts.specs.Typed.{function_known}
use Rattle.typing_trees.specs.Around.{Around, Slot, stored, read}
use Rattle.typing_queries.specs.Below.{Below, Has}

-- ---- columns

-- a row has the column that is found in it
abbrev pub ColumnIn : List Kind → Referent → Type 0
ColumnIn row (Column level place kind) = Has (slice_get row place) kind
ColumnIn row (Guessed level item) = Unit {0}
ColumnIn row (Variable slot kind) = Unit {0}
ColumnIn row Barred = Unit {0}
ColumnIn row Several = Unit {0}
ColumnIn row Unknown = Unit {0}

-- and each column of an item that may be named
abbrev pub ItemIn : Level → List Kind → Item → Type 0
ItemIn l row i = (j : ℕ) (c : Output) → slice_get i.columns j ≡ Some c →
    ColumnIn row (column_of 0 ((i.first - l.base) + j) c.kind l.grouped l.keys)

-- of each item
abbrev pub ItemsIn : Level → List Kind → List Item → Type 0
ItemsIn l row [] = Unit {0}
ItemsIn l row (i ∷ is) = ItemIn l row i × ItemsIn l row is

-- of what a query brings in sight
abbrev pub LevelIn : Level → List Kind → Type 0
LevelIn l row = ItemsIn l row l.items

-- level by level, the innermost first, and as many as rows
abbrev pub LevelsIn : List Level → List (List Kind) → Type 0
LevelsIn [] [] = Unit {0}
LevelsIn [] (r ∷ rs) = ⊥
LevelsIn (l ∷ ls) [] = ⊥
LevelsIn (l ∷ ls) (r ∷ rs) = LevelIn l r × LevelsIn ls rs

-- ---- variables

-- a slot holds what is known of a variable, a parameter or a column of FOR
abbrev pub SlotOf : Held → Slot → Type 0
SlotOf v (stored t) = (v.data_type ≡ Some t) × (v.kind ≡ kind_of_type t)
SlotOf v (read k) = (v.data_type ≡ None) × Below k v.kind

-- there is such a slot
abbrev pub SlotIs : Held → Option Slot → Type 0
SlotIs v o = (x : Slot) × (o ≡ Some x) × SlotOf v x

-- each variable of a scope has its slot, and there are as many as names
pub record ScopeIn (s : Scope) (slots : List Slot) : Type 0 where
  pub as_many : length s.variables ≡ length s.held
  pub slot : (place : ℕ) (v : Held) → slice_get s.held place ≡ Some v →
      SlotIs v (slice_get slots (s.first + place))

-- of each scope
abbrev pub ScopesIn : List Scope → List Slot → Type 0
ScopesIn [] slots = Unit {0}
ScopesIn (s ∷ ss) slots = ScopeIn s slots × ScopesIn ss slots

-- ---- all of it

-- what stands around has all that is in sight
pub record Sees (s : Seen) (a : Around) : Type 0 where
  pub levels : LevelsIn s.levels a.rows
  pub scopes : ScopesIn s.scopes a.slots
  pub tables : (name : List ℕ) → a.tables name ≡ table_named name s.catalog
  pub functions : (name : List ℕ) → a.functions name ≡ function_known name s.own s.catalog
