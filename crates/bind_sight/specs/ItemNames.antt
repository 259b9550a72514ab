-- The names of the items of FROM. ISO/IEC 9075-2, 7.6 (table reference).
use Rattle.std.specs.Prelude.{◌≡◌, ℕ, List}
use Rattle.std.specs.List.{list_any}
use Rattle.std.specs.Str.{bytes_eq}
use Rattle.bind_sight.specs.declared.item.Item.{Item}
use Rattle.bind_sight.specs.Sight.{is_named}

-- a name is among these exactly where an item has it
abbrev pub AreNames : List (List ℕ) → List Item → Type 0
AreNames names items = (name : List ℕ) → list_any (bytes_eq name) names ≡ list_any (is_named name)
    items
