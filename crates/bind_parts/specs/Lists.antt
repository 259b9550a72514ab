-- Output columns, and the names of select items. ISO/IEC 9075-2, 7.16 (query specification).
use Rattle.std.specs.Prelude.{ℕ, ◌+◌, ◌-◌, List, [], ◌∷◌, ◌++◌, Option, Some, None}
use Rattle.syntax_trees.specs.declared.anchor.Anchor.{Anchor}
use Rattle.syntax_trees.specs.declared.anchor.Ident.{Ident}
use Rattle.bind_faults.specs.Faults.{Noted, give, as_value}
use Rattle.bind_sight.specs.declared.item.Item.{Item}
use Rattle.bind_sight.specs.declared.output.Output.{Output}
use Rattle.bind_sight.specs.Sight.{Level, column_of}
use Rattle.bind_parts.specs.declared.aggregates.Parts.{Parts}
use Rattle.bind_parts.specs.declared.list.Outputs.{Outputs}
use Rattle.bind_parts.specs.declared.typed.Typed.{Typed}
use Rattle.bind_parts.specs.Typed.{Beside, keeping, named}
use Rattle.bind_parts.specs.Turns.{each_noted}

-- ---- output columns

-- before the first, with the parts of the group so far
abbrev pub no_outputs : Parts → Outputs
no_outputs parts = record { columns = []; heads = []; trees = []; parts = parts }

-- one output column more, by its name, with the parts of the group that its expression leaves
abbrev pub with_output : Outputs → Option (List ℕ) → Beside Typed → Outputs
with_output so name t = record {
  columns = so.columns ++ record { name = name; kind = t.value.head.kind } ∷ [];
  heads = so.heads ++ t.value.head ∷ [];
  trees = so.trees ++ t.value.tree ∷ [];
  parts = t.parts;
}

-- ---- `*`

-- output columns, and the place of the next column in a row
pub record Placed : Type 0 where
  pub outputs : Outputs
  pub place : ℕ

-- the place right of a place
abbrev pub next : ℕ → ℕ
next place = place + 1

-- these output columns, with the place of the next column in the row
abbrev pub placed : ℕ → Outputs → Placed
placed place so = record { outputs = so; place = place }

-- the next column of the row, which is judged at the `*`
abbrev pub star_column : Anchor → Level → Placed → Output → Noted Placed
star_column at l so c =
    as_value (λ t. placed (next so.place) (with_output so.outputs c.name t))
    (keeping so.outputs.parts (named at (column_of 0 so.place c.kind l.grouped l.keys)))

-- the columns of an item in a row that begins at another column
abbrev pub star_item : Anchor → Level → Outputs → Item → Noted Outputs
star_item at l so i = as_value (λ p. p.outputs)
    (each_noted (star_column at l) (placed (i.first - l.base) so) i.columns)

-- the columns of all items, in FROM's order
abbrev pub star_items : Anchor → Level → Outputs → List Item → Noted Outputs
star_items at l so is = each_noted (star_item at l) so is

-- those of the innermost query
abbrev pub star : Anchor → List Level → Outputs → Noted Outputs
star at [] so = give so
star at (l ∷ ls) so = star_items at l so l.items

-- ---- names

-- the name that is written, or its own
abbrev pub titled : Option Ident → Option (List ℕ) → Option (List ℕ)
titled None own = own
titled (Some i) own = Some i.name
