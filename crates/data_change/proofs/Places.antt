-- Where the rows that a query meets stand in their table.
use Rattle.std.proofs.Common.{ℕ, zero, suc, ◌≡◌, ◌<◌, true, not, List, [], ◌∷◌, ◌++◌, length}
use Rattle.std.proofs.Common.{get_or, refl, sym, ap, ◌∙◌, arith, Ok, Ordering, length-append}
use Rattle.std.specs.Cmp.{IsTotalOrder}
use Rattle.std.specs.List.{list_all}
use Rattle.std.specs.Cmp.Lexicographic.{slice_cmp}
use Rattle.std.proofs.Math.Seq.{get_or-append_seam}
use Rattle.std.proofs.lemmas.Bool.{and_parts}
use Rattle.std.proofs.lemmas.Cmp.{tied_itself}
use Rattle.sql_values.specs.declared.value.Value.{Value}
use Rattle.sql_values.specs.declared.value.Value.TheVariants.{Null}
use Rattle.sql_values.specs.Values.{is_null}
use Rattle.row_types.specs.declared.ColumnType.{ColumnType}
use Rattle.row_types.specs.Ordered.{rises, searched}
use Rattle.row_types.specs.Rows.{Row, value_cmp, key_of, by_key, takes, take_all, fits, well_kept}
use Rattle.row_types.specs.Tables.{Table}
use Rattle.row_types.proofs.Laws.{by_key_total, ok_at, rises_before}
use Rattle.table_store.proofs.Laws.{kept_rises}
use Rattle.data_change.specs.Writing.{found_at, place_in}

-- ---- values after a row

length-taken : (cs : List ColumnType) (row : Row) → take_all cs row ≡ true → length row ≡ length cs
length-taken [] [] h = refl
length-taken [] (v ∷ vs) h = cc
length-taken (c ∷ cs) [] h = cc
length-taken (c ∷ cs) (v ∷ vs) h = ap suc (length-taken cs vs
    (and_parts (takes c v) (take_all cs vs) h).1)

-- a row that fits has the table's columns, and no NULL in its key
pub length-fits : (cs : List ColumnType) (key : List ℕ) (row : Row) → fits cs key row ≡ true →
    length row ≡ length cs
length-fits cs key row h = length-taken cs row
    (and_parts (take_all cs row) (list_all (λ v. not (is_null v)) (key_of key row)) h).0

-- a value that is there stays where it is
at-append : (row vs : Row) (i : ℕ) → not (is_null (get_or row i Null)) ≡ true →
    get_or (row ++ vs) i Null ≡ get_or row i Null
at-append [] vs i h = cc
at-append (v ∷ row) vs zero h = refl
at-append (v ∷ row) vs (suc i) h = at-append row vs i h

-- a key without NULL is that of the row with values after it
key_of-append : (key : List ℕ) (row vs : Row) → list_all (λ v. not (is_null v)) (key_of key row) ≡
    true → key_of key (row ++ vs) ≡ key_of key row
key_of-append [] row vs h = refl
key_of-append (i ∷ key) row vs h =
    let both = and_parts (not (is_null (get_or row i Null)))
    (list_all (λ v. not (is_null v)) (key_of key row)) h in
    λ j. at-append row vs i both.0 j ∷ key_of-append key row vs both.1 j

place-append : (t : Table) (row vs : Row) → fits t.columns t.key row ≡ true →
    place_in t (row ++ vs) ≡ place_in t row
place-append t row vs h =
    ap (λ (k : List Value). found_at (searched (λ r. slice_cmp value_cmp (key_of t.key r) k)
    t.rows))
    (key_of-append t.key row vs (and_parts (take_all t.columns row)
    (list_all (λ v. not (is_null v)) (key_of t.key row)) h).1)

-- ---- a row of a list that rises

module _ {X : Type 0} (R : X → X → Ordering) (o : IsTotalOrder R) where
  within : (before : List X) (x : X) (rest : List X) → length before < length (before ++ x ∷ rest)
  within before x rest = let e = length-append before (x ∷ rest) in omega arith

  pub found : (before : List X) (x : X) (rest : List X) → rises R (before ++ x ∷ rest) ≡ true →
      searched (λ y. R y x) (before ++ x ∷ rest) ≡ Ok (length before)
  found before x rest h =
      let all = before ++ x ∷ rest in
      let n = length before in
      ok_at (λ y. R y x) all n x (within before x rest)
      (λ k d l. ap (R (get_or all k d)) (sym (get_or-append_seam before x rest d)) ∙
      rises_before R o all k n d h l (within before x rest))
      (ap (λ y. R y x) (get_or-append_seam before x rest x) ∙ tied_itself o x)

-- the place of a row of the table, with values after it
pub place_of_row : (t : Table) (before rest : List Row) (row vs : Row) →
    well_kept t.columns t.key t.rows ≡ true → t.rows ≡ before ++ row ∷ rest →
    fits t.columns t.key row ≡ true → place_in t (row ++ vs) ≡ length before
place_of_row t before rest row vs kept is fit =
    let R = by_key t.key in
    place-append t row vs fit
    ∙ ap (λ (rows : List Row). found_at (searched (λ r. R r row) rows)) is
    ∙ ap found_at (found R (by_key_total t.key) before row rest
    (ap (rises R) (sym is) ∙ kept_rises t.columns t.key t.rows kept))
