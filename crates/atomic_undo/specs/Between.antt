-- New rows, whose keys rise, with the places that they take among the rows of a table.
use Rattle.std.specs.Prelude.{ℕ, suc, ◌≡◌, ◌+◌, ◌≤◌, true, not, List, [], ◌∷◌, length, Some, Result}
use Rattle.std.specs.Prelude.{Ok, Err}
use Rattle.std.specs.List.{list_all}
use Rattle.std.specs.declared.cmp.Ordering.{Ordering}
use Rattle.row_types.specs.Ordered.{first_repeat_after, searched, stands}
use Rattle.row_types.specs.Rows.{Row}
use Rattle.table_store.specs.declared.placed_row.PlacedRow.{PlacedRow}
use Rattle.atomic_undo.specs.declared.between.FoundPlaces.{FoundPlaces}
use Rattle.atomic_undo.specs.declared.between.FoundPlaces.TheVariants.{Free, Taken}

-- where something stands, or where it is to go
abbrev pub place_of : Result ℕ ℕ → ℕ
place_of (Ok at) = at
place_of (Err at) = at

-- the places that new ones take among old ones, so many new ones being there before them
abbrev pub places_among : {X : Type 0} → (X → X → Ordering) → List X → ℕ → List X → List ℕ
places_among cmp old n [] = []
places_among cmp old n (x ∷ xs) = (place_of (searched (λ y. cmp y x) old) + n) ∷
    places_among cmp old (suc n) xs

-- rows with their places
abbrev pub with_places : List ℕ → List Row → List PlacedRow
with_places [] rows = []
with_places (p ∷ ps) [] = []
with_places (p ∷ ps) (r ∷ rs) = record { at = p; row = r } ∷ with_places ps rs

-- the places of new rows where none has the key of an old one, or else the first that has
abbrev pub IsFound : (Row → Row → Ordering) → List Row → List Row → FoundPlaces → Type 0
IsFound cmp old new (Free places) = (places.items ≡ places_among cmp old 0 new) ×
    (list_all (λ x. not (stands cmp x old)) new ≡ true)
IsFound cmp old new (Taken at) = (at ≤ length new) ×
    (first_repeat_after cmp old new ≡ Some (length old + at))
