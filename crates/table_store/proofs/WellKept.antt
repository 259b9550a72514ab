-- Tables whose rows are well kept, after an edit of one of them.
use Rattle.std.proofs.Common.{ℕ, zero, suc, ◌≡◌, Bool, true, List, [], ◌∷◌, ◌++◌, refl, sym, subst}
use Rattle.std.proofs.Common.{map, remove, take, slice_get, Some, IsTrue, Ordering, Result, Ok, Err}
use Rattle.std.proofs.Common.{OnOk, OnErr}
use Rattle.std.specs.List.{list_all}
use Rattle.std.proofs.lemmas.Bool.{and_parts, and_from}
use Rattle.indexmap.specs.IndexMap.{set_value_at}
use Rattle.row_types.specs.declared.ColumnType.{ColumnType}
use Rattle.row_types.specs.Ordered.{rises, is_below_first}
use Rattle.row_types.specs.Rows.{Row, by_key, fits, well_kept}
use Rattle.row_types.specs.Tables.{Tables, Stored, table_at, with_rows, with_rows_at}
use Rattle.table_store.specs.Kept.{Kept}
use Rattle.table_store.specs.Places.{removed_all}
use Rattle.table_store.specs.Memory.{Named, Memory, stored_of, memory_of, AllWellKept}
use Rattle.table_store.proofs.Kept.{kept_fits, kept_rises, well_kept-remove}
use Rattle.table_store.proofs.Memory.{kept_of, tables_are, tables_stay}

-- ---- the first rows of a table

module _ {X : Type 0} (R : X → X → Ordering) where
  first-take : (x : X) (xs : List X) (n : ℕ) → is_below_first R x xs ≡ true →
      is_below_first R x (take n xs) ≡ true
  first-take x [] zero h = refl
  first-take x [] (suc n) h = refl
  first-take x (y ∷ ys) zero h = refl
  first-take x (y ∷ ys) (suc n) h = h

  rises-take : (xs : List X) (n : ℕ) → rises R xs ≡ true → rises R (take n xs) ≡ true
  rises-take [] zero h = refl
  rises-take [] (suc n) h = refl
  rises-take (x ∷ xs) zero h = refl
  rises-take (x ∷ xs) (suc n) h =
      let both = and_parts (is_below_first R x xs) (rises R xs) h in
      and_from (is_below_first R x (take n xs)) (rises R (take n xs)) (first-take x xs n both.0)
      (rises-take xs n both.1)

all-take : {X : Type 0} (p : X → Bool) (xs : List X) (n : ℕ) → list_all p xs ≡ true →
    list_all p (take n xs) ≡ true
all-take p [] zero h = refl
all-take p [] (suc n) h = refl
all-take p (x ∷ xs) zero h = refl
all-take p (x ∷ xs) (suc n) h =
    let both = and_parts (p x) (list_all p xs) h in
    and_from (p x) (list_all p (take n xs)) both.0 (all-take p xs n both.1)

pub well_kept-take : (cs : List ColumnType) (key : List ℕ) (rows : List Row) (n : ℕ) →
    well_kept cs key rows ≡ true → well_kept cs key (take n rows) ≡ true
well_kept-take cs key rows n h =
    and_from (list_all (fits cs key) (take n rows)) (rises (by_key key) (take n rows))
    (all-take (fits cs key) rows n (kept_fits cs key rows h))
    (rises-take (by_key key) rows n (kept_rises cs key rows h))

pub well_kept-removed_all : (cs : List ColumnType) (key : List ℕ) (ps : List ℕ) (rows : List Row) →
    well_kept cs key rows ≡ true → well_kept cs key (removed_all ps rows) ≡ true
well_kept-removed_all cs key [] rows h = h
well_kept-removed_all cs key (p ∷ ps) rows h =
    well_kept-remove cs key (removed_all ps rows) p (well_kept-removed_all cs key ps rows h)

-- rows that went out, or stayed
pub well_kept-either : {T E : Type 0} (r : Result T E) (cs : List ColumnType) (key : List ℕ)
    (ps : List ℕ) (rows now : List Row) → OnOk r (now ≡ removed_all ps rows) → OnErr r (now ≡ rows)
    → well_kept cs key rows ≡ true → well_kept cs key now ≡ true
well_kept-either (Ok x) cs key ps rows now e f h =
    subst (λ (xs : List Row). well_kept cs key xs ≡ true) (sym e)
    (well_kept-removed_all cs key ps rows h)
well_kept-either (Err x) cs key ps rows now e f h =
    subst (λ (xs : List Row). well_kept cs key xs ≡ true) (sym f) h

-- ---- all tables

-- the rows of the table at a place are well kept
pub kept_rows_at : (ts : Tables) (t : ℕ) → AllWellKept ts →
    IsTrue (well_kept (table_at ts t).columns (table_at ts t).key (table_at ts t).rows)
kept_rows_at [] t h = refl
kept_rows_at (s ∷ ss) zero h = h.0
kept_rows_at (s ∷ ss) (suc t) h = kept_rows_at ss t h.1

pub AllWellKept-with_rows_at : (t : ℕ) (rows : List Row) (ts : Tables) → AllWellKept ts →
    IsTrue (well_kept (table_at ts t).columns (table_at ts t).key rows)
    → AllWellKept (with_rows_at t rows ts)
AllWellKept-with_rows_at t rows [] h w = tt
AllWellKept-with_rows_at zero rows (s ∷ ss) h w = (w, h.1)
AllWellKept-with_rows_at (suc t) rows (s ∷ ss) h w = (h.0, AllWellKept-with_rows_at t rows ss h.1 w)

pub AllWellKept-push : (ts : Tables) (s : Stored) → AllWellKept ts →
    IsTrue (well_kept s.table.columns s.table.key s.table.rows) → AllWellKept (ts ++ s ∷ [])
AllWellKept-push [] s h w = (w, tt)
AllWellKept-push (x ∷ ts) s h w = (h.0, AllWellKept-push ts s h.1 w)

pub AllWellKept-remove : (ts : Tables) (t : ℕ) → AllWellKept ts → AllWellKept (remove ts t)
AllWellKept-remove [] zero h = tt
AllWellKept-remove [] (suc t) h = tt
AllWellKept-remove (s ∷ ss) zero h = h.1
AllWellKept-remove (s ∷ ss) (suc t) h = (h.0, AllWellKept-remove ss t h.1)

-- ---- the same, as the code has it

pub AllWellKept-view : (ns : List Named) (m : Memory) → memory_of ns ≡ m →
    AllWellKept (map stored_of ns) → AllWellKept m.tables
AllWellKept-view ns m e a = subst (λ (x : Memory). AllWellKept x.tables) e a

-- other rows in the table at a place
module _ (ns : List Named) (m : Memory) (t : ℕ) (k l : Kept) (e : memory_of ns ≡ m)
    (h : slice_get (kept_of ns) t ≡ Some k) (a : AllWellKept (map stored_of ns)) where
  kept_before : AllWellKept m.tables
  kept_before = AllWellKept-view ns m e a

  pub kept_with : (F : List Row → List Row) → l.table ≡ with_rows (F k.table.rows) k.table
      → IsTrue (well_kept (table_at m.tables t).columns (table_at m.tables t).key
      (F (table_at m.tables t).rows)) → AllWellKept (map stored_of (set_value_at ns t l))
  kept_with F b w = subst AllWellKept (sym (tables_are F ns m t k l e h b))
      (AllWellKept-with_rows_at t (F (table_at m.tables t).rows) m.tables kept_before w)

  pub kept_removed : (at : ℕ) → l.table ≡ with_rows (remove k.table.rows at) k.table →
      AllWellKept (map stored_of (set_value_at ns t l))
  kept_removed at b =
      kept_with (λ rows. remove rows at) b (well_kept-remove (table_at m.tables t).columns
      (table_at m.tables t).key (table_at m.tables t).rows at
      (kept_rows_at m.tables t kept_before))

  pub kept_taken : (at : ℕ) → l.table ≡ with_rows (take at k.table.rows) k.table →
      AllWellKept (map stored_of (set_value_at ns t l))
  kept_taken at b =
      kept_with (λ rows. take at rows) b (well_kept-take (table_at m.tables t).columns
      (table_at m.tables t).key (table_at m.tables t).rows at
      (kept_rows_at m.tables t kept_before))

  pub kept_same : l.table ≡ k.table → AllWellKept (map stored_of (set_value_at ns t l))
  kept_same b = subst AllWellKept (sym (tables_stay ns m t k l e h b)) kept_before

  pub kept_removed_all : (ps : List ℕ) → l.table ≡ with_rows (removed_all ps k.table.rows) k.table →
      AllWellKept (map stored_of (set_value_at ns t l))
  kept_removed_all ps b =
      kept_with (λ rows. removed_all ps rows) b
      (well_kept-removed_all (table_at m.tables t).columns (table_at m.tables t).key ps
      (table_at m.tables t).rows (kept_rows_at m.tables t kept_before))

  pub kept_either : {T E : Type 0} (r : Result T E) (ps : List ℕ) →
      OnOk r (l.table ≡ with_rows (removed_all ps k.table.rows) k.table) →
      OnErr r (l.table ≡ k.table) → AllWellKept (map stored_of (set_value_at ns t l))
  kept_either (Ok x) ps b s = kept_removed_all ps b
  kept_either (Err x) ps b s = kept_same s
