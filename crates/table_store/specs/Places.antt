-- Rows at places that increase: what is left without them, and where rows go in at such places.
-- ISO/IEC 9075-2, 14.9 and 14.11 (DELETE and INSERT of many rows).
use Rattle.std.specs.Prelude.{ℕ, suc, ◌<◌, ◌≤◌, List, [], ◌∷◌, map, slice_index_or}
use Rattle.std.specs.List.{insert, remove}
use Rattle.row_types.specs.Rows.{Row}
use Rattle.table_store.specs.declared.placed_row.PlacedRow.{PlacedRow}

-- places increase, from one number on and below another
abbrev pub Climb : ℕ → List ℕ → ℕ → Type 0
Climb low [] high = Unit {0}
Climb low (p ∷ ps) high = (low ≤ p) × (p < high) × Climb (suc p) ps high

-- the rows without those at places, which increase
abbrev pub removed_all : List ℕ → List Row → List Row
removed_all [] rows = rows
removed_all (p ∷ ps) rows = remove (removed_all ps rows) p

-- the row at a place, with the place
abbrev pub placed_at : List Row → ℕ → PlacedRow
placed_at rows p = record { at = p; row = slice_index_or rows p [] }

-- the rows at places, with their places
abbrev pub all_placed_at : List ℕ → List Row → List PlacedRow
all_placed_at ps rows = map (placed_at rows) ps

-- the places alone
abbrev pub places_of : List PlacedRow → List ℕ
places_of new = map (λ (q : PlacedRow). q.at) new

-- the rows with others put in at their places, which increase: each is at its place afterwards
abbrev pub inserted_all : List PlacedRow → List Row → List Row
inserted_all [] rows = rows
inserted_all (q ∷ qs) rows = inserted_all qs (insert rows q.at q.row)
