-- Whether a query is grouped, and its grouping columns. ISO/IEC 9075-2, 7.13 (group by clause),
-- 7.14 (having clause) and 7.16 (query specification).
use Rattle.std.specs.Prelude.{ℕ, Bool, true, false, ◌||◌, List, [], ◌∷◌, ◌++◌}
use Rattle.syntax_trees.specs.Columns.{anchor_of_column}
use Rattle.syntax_trees.specs.declared.anchor.ColumnName.{ColumnName}
use Rattle.bind_faults.specs.Faults.{Noted, as_value}
use Rattle.bind_sight.specs.declared.sight.Referent.{Referent}
use Rattle.bind_sight.specs.Sight.{Seen, stands_for, key_of}
use Rattle.bind_parts.specs.declared.grouping.Grouping.{Grouping}
use Rattle.bind_parts.specs.declared.typed.Typed.{Typed}
use Rattle.bind_parts.specs.Typed.{named}
use Rattle.bind_parts.specs.Turns.{each_noted}

-- ---- grouped queries

-- whether a list has an element
abbrev pub is_written : {A : Type 0} → List A → Bool
is_written [] = false
is_written (x ∷ xs) = true

-- by GROUP BY, by HAVING, or by an aggregate in the list
abbrev pub is_grouped : Bool → List ColumnName → Bool → Bool
is_grouped aggregates group_by having = is_written group_by || (having || aggregates)

-- ---- grouping columns

-- no grouping column
abbrev pub no_grouping : Grouping
no_grouping = record { keys = []; trees = [] }

-- one grouping column more: what its name is to the query, and what it is bound to
abbrev pub with_key : Grouping → Referent → List ℕ → Typed → Grouping
with_key so found name t = record {
  keys = so.keys ++ key_of found name ∷ [];
  trees =
      so.trees ++ t.tree ∷ [];
}

-- one grouping column more by what its name stands for, with the fault of a name that stands for
-- none
abbrev pub key_found : Grouping → ColumnName → Referent → Noted Grouping
key_found so c found = as_value (with_key so found c.name.name) (named (anchor_of_column c) found)

-- a grouping column is sought as any name
abbrev pub one_key : Seen → Grouping → ColumnName → Noted Grouping
one_key seen so c = key_found so c (stands_for c seen)

-- the columns of GROUP BY in turn
abbrev pub grouping_of : List ColumnName → Seen → Noted Grouping
grouping_of columns seen = each_noted (one_key seen) no_grouping columns
