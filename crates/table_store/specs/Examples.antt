-- Worked rows: tables beside the numbers of rows that they have memory for, and rows in blocks.
use Rattle.std.specs.Prelude.{◌≡◌, pos, List, [], ◌∷◌, codes}
use Rattle.std.proofs.Common.{refl}
use Rattle.sql_values.specs.declared.value.Value.TheVariants.{Int}
use Rattle.row_types.specs.Rows.{Row}
use Rattle.row_types.specs.Tables.{Table, with_rows_at, place_named}
use Rattle.table_store.specs.Kept.{Kept, holding}
use Rattle.table_store.specs.Memory.{Memory, memory_of, with_one_more, without_place, kept_at}
use Rattle.table_store.specs.Blocks.{joined}
use Rattle.table_store.specs.Places.{removed_all, all_placed_at, places_of, inserted_all}

-- a row of one number
abbrev one : Row
one = Int (pos 1) ∷ []

-- a row with a greater number
abbrev two : Row
two = Int (pos 2) ∷ []

-- a row with the greatest number
abbrev three : Row
three = Int (pos 3) ∷ []

-- a table of one column, its key, with these rows
abbrev with_these : List Row → Table
with_these rows = record { columns = []; key = 0 ∷ []; rows = rows }

-- it has memory for two rows
abbrev a : Kept
a = record { table = with_these (one ∷ []); capacity = 2 }

-- one without rows, and without memory for any
abbrev b : Kept
b = record { table = with_these []; capacity = 0 }

-- both tables, by their names
abbrev both : Memory
both = memory_of ((codes "A", a) ∷ (codes "B", b) ∷ [])

-- other rows, and memory for as many as before
other_rows : holding (one ∷ two ∷ []) a ≡ record {
  table = with_these (one ∷ two ∷ []);
  capacity =
      2;
}
other_rows = refl

-- the second table with its number
second : kept_at both 1 ≡ b
second = refl

-- the numbers beside the tables
numbers : both.capacities ≡ 2 ∷ 0 ∷ []
numbers = refl

-- a table more comes last
added_after : with_one_more (memory_of ((codes "A", a) ∷ [])) (codes "B") b ≡ both
added_after = refl

-- a table goes, and its number with it
dropped : without_place (place_named (codes "A") both.tables) both ≡ memory_of ((codes "B", b) ∷ [])
dropped = refl

-- where no table has the name, none goes
none_dropped : without_place (place_named (codes "C") both.tables) both ≡ both
none_dropped = refl

-- rows given to the first table are read there
rows_in_the_first :
    (kept_at (record {
      tables = with_rows_at 0 (two ∷ []) both.tables;
      capacities =
          both.capacities;
    }) 0).table.rows ≡ two ∷ []
rows_in_the_first = refl

-- rows of two blocks and of an empty one
in_two_blocks : joined ((one ∷ []) ∷ (two ∷ []) ∷ [] ∷ []) ≡ one ∷ two ∷ []
in_two_blocks = refl

-- rows at places go out, and in again
left : removed_all (0 ∷ 2 ∷ []) (one ∷ two ∷ three ∷ []) ≡ two ∷ []
left = refl

-- what went out is handed back with its places
handed_back : all_placed_at (0 ∷ 2 ∷ []) (one ∷ two ∷ three ∷ []) ≡ record { at = 0; row = one } ∷
    record { at = 2; row = three } ∷ []
handed_back = refl

-- it goes in at these places
in_again : inserted_all (record { at = 0; row = one } ∷ record { at = 2; row = three } ∷ [])
    (two ∷ []) ≡ one ∷ two ∷ three ∷ []
in_again = refl

-- the places alone
their_places : places_of (record { at = 0; row = one } ∷ record { at = 2; row = three } ∷ []) ≡ 0 ∷
    2 ∷ []
their_places = refl
