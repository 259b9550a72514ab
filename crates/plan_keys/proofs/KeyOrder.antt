-- Rows in key order stand before a place, or not, in one run each.
use Rattle.std.proofs.Common.{◌≡◌, ◌<◌, ℕ, zero, suc, Bool, true, false, not, List, [], ◌∷◌}
use Rattle.std.proofs.Common.{refl, ap, sym, ◌∙◌, take, drop, get_or, length}
use Rattle.std.proofs.Common.{Ordering, Less, Equal, Greater, is_lt, slice_index_or, arith}
use Rattle.std.specs.List.{list_all}
use Rattle.std.specs.Cmp.Lexicographic.{slice_cmp}
use Rattle.std.specs.Ordering.{ordering_then}
use Rattle.std.proofs.lemmas.Bool.{true≢false, and_parts, and_from}
use Rattle.std.proofs.lemmas.Cmp.{alike_right}
use Rattle.sql_values.specs.declared.value.Value.{Value}
use Rattle.sql_values.specs.declared.value.Value.TheVariants.{Null}
use Rattle.row_types.specs.Ordered.{rises}
use Rattle.row_types.specs.Rows.{Row, by_key, key_of, to_key, value_cmp, well_kept}
use Rattle.row_types.specs.declared.ColumnType.{ColumnType}
use Rattle.row_types.proofs.Laws.{key_cmp_total, by_key_total, is_less, first-below}
use Rattle.row_types.proofs.Laws.{tail-rises, rises_before}
use Rattle.table_store.proofs.Laws.{kept_rises}
use Rattle.plan_keys.specs.Bounds.{before, stands_before, is_past}

-- ---- the first columns of keys in order

-- not more
abbrev at_most : Ordering → Bool
at_most Less = true
at_most Equal = true
at_most Greater = false

then_most : (r a b : Ordering) → (a ≡ Less → at_most b ≡ true) → ordering_then r a ≡ Less →
    at_most (ordering_then r b) ≡ true
then_most Less a b h k = refl
then_most Equal a b h k = h k
then_most Greater a b h k = cc

take_most : (xs ys : List Value) (n : ℕ) → slice_cmp value_cmp xs ys ≡ Less →
    at_most (slice_cmp value_cmp (take n xs) (take n ys)) ≡ true
take_most [] [] zero h = refl
take_most [] [] (suc n) h = refl
take_most [] (y ∷ ys) zero h = refl
take_most [] (y ∷ ys) (suc n) h = refl
take_most (x ∷ xs) [] zero h = refl
take_most (x ∷ xs) [] (suc n) h = cc
take_most (x ∷ xs) (y ∷ ys) zero h = refl
take_most (x ∷ xs) (y ∷ ys) (suc n) h =
    then_most (value_cmp x y) (slice_cmp value_cmp xs ys)
    (slice_cmp value_cmp (take n xs) (take n ys)) (λ k. take_most xs ys n k) h

take_key : (key : List ℕ) (row : Row) (n : ℕ) → key_of (take n key) row ≡ take n (key_of key row)
take_key [] row zero = refl
take_key [] row (suc n) = refl
take_key (i ∷ key) row zero = refl
take_key (i ∷ key) row (suc n) = ap (λ vs. slice_index_or row i Null ∷ vs) (take_key key row n)

-- ---- before a place

abbrev vs_cmp : List Value → List Value → Ordering
vs_cmp = slice_cmp value_cmp

before_less : (through : Bool) (r : Ordering) → r ≡ Less → before through r ≡ true
before_less through Less h = refl
before_less through Equal h = cc
before_less through Greater h = cc

before_split : (through : Bool) (r : Ordering) {P : Type 0} → before through r ≡ true →
    (r ≡ Less → P) → (r ≡ Equal → P) → P
before_split through Less h l e = l refl
before_split through Equal h l e = e refl
before_split true Greater h l e = absurd (true≢false (sym h))
before_split false Greater h l e = absurd (true≢false (sym h))

lower_before : (through : Bool) (a b s : List Value) (r : Ordering) → vs_cmp a b ≡ r →
    at_most r ≡ true → before through (vs_cmp b s) ≡ true → before through (vs_cmp a s) ≡ true
lower_before through a b s Less e m h =
    before_less through (vs_cmp a s) (before_split through (vs_cmp b s) h
    (λ l. key_cmp_total.trans a b s e l)
    (λ q. sym (alike_right key_cmp_total b s a q) ∙ e))
lower_before through a b s Equal e m h =
    ap (before through) (key_cmp_total.congr a b s e) ∙ h
lower_before through a b s Greater e m h = absurd (true≢false (sym m))

-- a row below one that stands before a place stands before it too
pub before_below : (key : List ℕ) (sought : List Value) (through : Bool) (a b : Row) →
    by_key key a b ≡ Less → stands_before key sought through b ≡ true →
    stands_before key sought through a ≡ true
before_below key sought through a b l h =
    let n = length sought in
    ap (λ k. before through (vs_cmp k sought)) (take_key key a n) ∙
    lower_before through (take n (key_of key a)) (take n (key_of key b)) sought
    (vs_cmp (take n (key_of key a)) (take n (key_of key b))) refl
    (take_most (key_of key a) (key_of key b) n l)
    (ap (λ k. before through (vs_cmp k sought)) (sym (take_key key b n)) ∙ h)

-- ---- runs of rows

module _ (key : List ℕ) (sought : List Value) (through : Bool) where
  abbrev stands : Row → Bool
  stands row = stands_before key sought through row

  abbrev past : Row → Bool
  past row = is_past key sought through row

  pub all_before : (rows : List Row) (i : ℕ) (d : Row) → rises (by_key key) rows ≡ true →
      i < length rows → stands (get_or rows i d) ≡ true → list_all stands (take (suc i) rows) ≡ true
  all_before [] i d r l h = absurd (omega arith)
  all_before (x ∷ rows) zero d r l h = and_from (stands x) true h refl
  all_before (x ∷ rows) (suc i) d r l h =
      and_from (stands x) (list_all stands (take (suc i) rows))
      (before_below key sought through x (get_or rows i d)
      (rises_before (by_key key) (by_key_total key) (x ∷ rows) 0 (suc i) d r (omega arith) l) h)
      (all_before rows i d (tail-rises (by_key key) (by_key_total key) x rows r) (omega arith) h)

  not_stands : (b : Bool) → b ≡ false → not b ≡ true
  not_stands true h = absurd (true≢false h)
  not_stands false h = refl

  none_after : (x : Row) (xs : List Row) → list_all (λ y. is_lt (by_key key x y)) xs ≡ true →
      stands x ≡ false → list_all past xs ≡ true
  none_after x [] b h = refl
  none_after x (y ∷ ys) b h =
      let both = and_parts (is_lt (by_key key x y)) (list_all (λ z. is_lt (by_key key x z)) ys) b in
      and_from (past y) (list_all past ys) (by_cases (stands y) refl both.0)
      (none_after x ys both.1 h)
    where
      by_cases : (b : Bool) → stands y ≡ b → is_lt (by_key key x y) ≡ true → not (stands y) ≡ true
      by_cases true e l = absurd (true≢false (sym (before_below key sought through x y
          (is_less (by_key key x y) l) e) ∙ h))
      by_cases false e l = not_stands (stands y) e

  pub all_past : (rows : List Row) (i : ℕ) (d : Row) → rises (by_key key) rows ≡ true →
      i < length rows → stands (get_or rows i d) ≡ false → list_all past (drop i rows) ≡ true
  all_past [] i d r l h = absurd (omega arith)
  all_past (x ∷ rows) zero d r l h = and_from (past x) (list_all past rows)
      (not_stands (stands x) h)
      (none_after x rows (first-below (by_key key) (by_key_total key) x rows r) h)
  all_past (x ∷ rows) (suc i) d r l h =
      all_past rows i d (tail-rises (by_key key) (by_key_total key) x rows r) (omega arith) h

-- ---- a step of the search

module _ (cs : List ColumnType) (key front : List ℕ) (sought : List Value) (through : Bool)
    (rows : List Row) (i : ℕ) (row : Row) (order : Ordering) (b : Bool)
    (kept : well_kept cs key rows ≡ true) (l : i < length rows)
    (is : row ≡ slice_index_or rows i row) (f : front ≡ take (length sought) key)
    (o : order ≡ to_key front sought row) (t : b ≡ before through order) where
  is_so : b ≡ stands_before key sought through (slice_index_or rows i row)
  is_so = t ∙ (ap (before through) (o ∙ ap (λ k. to_key k sought row) f) ∙
      ap (λ r. stands_before key sought through r) is)

  pub step_before : (j : ℕ) → j ≡ suc i → b ≡ true →
      list_all (stands_before key sought through) (take j rows) ≡ true
  step_before j e h =
      ap (λ n. list_all (stands_before key sought through) (take n rows)) e ∙
      all_before key sought through rows i row (kept_rises cs key rows kept) l (sym is_so ∙ h)

  pub step_past : b ≡ false → list_all (is_past key sought through) (drop i rows) ≡ true
  step_past h =
      all_past key sought through rows i row (kept_rises cs key rows kept) l (sym is_so ∙ h)
