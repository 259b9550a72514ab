-- Worked rows: what changes leave, where they are refused, and what taking them back gives.
use Rattle.std.specs.Prelude.{◌≡◌, ℕ, pos, true, false, List, [], ◌∷◌, ◌++◌, Some, None, codes}
use Rattle.std.proofs.Common.{refl}
use Rattle.sql_values.specs.declared.value.Value.TheVariants.{Int, Str}
use Rattle.sql_values.specs.declared.value.SqlType.{SqlType}
use Rattle.sql_values.specs.declared.value.SqlType.TheVariants.{Integer, Varchar}
use Rattle.row_types.specs.declared.ColumnType.{ColumnType}
use Rattle.row_types.specs.Ordered.{in_order, first_repeat}
use Rattle.row_types.specs.Rows.{Row, by_key}
use Rattle.row_types.specs.Tables.{Tables}
use Rattle.atomic_undo.specs.declared.log.Edit.TheVariants.{Inserted, Appended, InsertedAll}
use Rattle.atomic_undo.specs.declared.log.Edit.TheVariants.{Removed, RemovedAll, Replaced}
use Rattle.atomic_undo.specs.declared.log.Entry.{Entry}
use Rattle.atomic_undo.specs.Undo.{rows_before, back_to}
use Rattle.atomic_undo.specs.Changes.{removed_all, set_all, keys_stay}
use Rattle.atomic_undo.specs.Sorting.{abbreviated, is_abbreviated_whole, PutAlike}

-- a key and a value
abbrev row : ℕ → ℕ → Row
row k v = Int (pos k) ∷ Int (pos v) ∷ []

-- the rows of a table, with the keys 1, 3 and 5
abbrev three : List Row
three = row 1 10 ∷ row 3 30 ∷ row 5 50 ∷ []

-- DELETE of the first and the last
deleted : removed_all (0 ∷ 2 ∷ []) three ≡ row 3 30 ∷ []
deleted = refl

-- UPDATE k = k + 2: the result in its own order, and in key order; no key is one of an earlier row
updated : set_all (0 ∷ 1 ∷ 2 ∷ []) (row 3 10 ∷ row 5 30 ∷ row 7 50 ∷ []) three ≡ row 3 10 ∷
    row 5 30 ∷ row 7 50 ∷ []
updated = refl

-- the row at place 0 would get another key
keys_move : keys_stay (by_key (0 ∷ [])) (0 ∷ []) (row 3 10 ∷ []) three ≡ false
keys_move = refl

-- that UPDATE is made: the keys of its result differ
not_refused : first_repeat (by_key (0 ∷ [])) (row 3 10 ∷ row 5 30 ∷ row 7 50 ∷ []) ≡ None
not_refused = refl

-- INSERT of 9, 8, 9: refused at the third new row, which is at place 5 of the result
refused : first_repeat (by_key (0 ∷ [])) (three ++ row 9 0 ∷ row 8 0 ∷ row 9 1 ∷ []) ≡ Some 5
refused = refl

-- INSERT of 4, 2
inserted : in_order (by_key (0 ∷ [])) (three ++ row 4 0 ∷ row 2 0 ∷ []) ≡ row 1 10 ∷ row 2 0 ∷
    row 3 30 ∷ row 4 0 ∷ row 5 50 ∷ []
inserted = refl

-- new rows go in alike in either order
alike : PutAlike (by_key (0 ∷ [])) three (row 2 0 ∷ row 4 0 ∷ []) (row 4 0 ∷ row 2 0 ∷ [])
alike = (refl, λ _. refl)

-- texts are abbreviated to their first characters, so that their keys aren't sorted by these alone
abbreviated_text : abbreviated (Str (codes "ba")) ≡ pos 98
abbreviated_text = refl

-- a key column of a type
abbrev column : SqlType → ColumnType
column t = record { name = codes "K"; data_type = t; not_null = true }

-- of an INTEGER key the abbreviated one says all
by_numbers_alone : is_abbreviated_whole (column Integer ∷ []) (0 ∷ []) ≡ true
by_numbers_alone = refl

-- of a text's key it does not
not_by_texts_alone : is_abbreviated_whole (column (Varchar 3) ∷ []) (0 ∷ []) ≡ false
not_by_texts_alone = refl

-- nor of a key of two columns
not_by_the_first_alone : is_abbreviated_whole (column Integer ∷ column Integer ∷ []) (0 ∷ 1 ∷ []) ≡
    false
not_by_the_first_alone = refl

-- that INSERT taken back: the row that went in last goes out first
taken_back : rows_before (Inserted 2 ∷ Inserted 1 ∷ [])
    (row 1 10 ∷ row 2 0 ∷ row 3 30 ∷ row 4 0 ∷ row 5 50 ∷ []) ≡ three
taken_back = refl

-- rows after the others, taken back in one go
cut_off : rows_before (Appended 1 ∷ []) (row 1 10 ∷ row 3 30 ∷ row 5 50 ∷ []) ≡ row 1 10 ∷ []
cut_off = refl

-- a row that went out, and one that was replaced
brought_back : rows_before (Removed 2 (row 5 50) ∷ Replaced 0 (row 1 10) ∷ [])
    (row 1 11 ∷ row 3 30 ∷ []) ≡ three
brought_back = refl

-- rows that went out in one pass, and those that went in in one pass
brought_back_at_once : rows_before (RemovedAll
    (record { at = 0; row = row 1 10 } ∷ record { at = 2; row = row 5 50 } ∷ []) ∷ [])
    (row 3 30 ∷ []) ≡ three
brought_back_at_once = refl

-- rows that went in at places 1 and 3
taken_back_at_once : rows_before (InsertedAll (1 ∷ 3 ∷ []) ∷ [])
    (row 1 10 ∷ row 2 0 ∷ row 3 30 ∷ row 4 0 ∷ row 5 50 ∷ []) ≡ three
taken_back_at_once = refl

-- two marks: after the first entry, and before it
abbrev tables : List Row → Tables
tables rows = record {
  name = codes "T";
  table =
      record { columns = []; key = 0 ∷ []; rows = rows };
} ∷ []

-- a statement that put a row in, and then one that took it out
abbrev log : List Entry
log = record { table = 0; edits = Inserted 0 ∷ [] } ∷
    record { table = 0; edits = Removed 0 (row 1 10) ∷ [] } ∷ []

-- back to the mark between them the row is there
inner : back_to 1 log (tables []) ≡ tables (row 1 10 ∷ [])
inner = refl

-- back to the first mark it is not
outer : back_to 0 log (tables []) ≡ tables []
outer = refl
