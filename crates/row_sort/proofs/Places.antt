-- Places of rows: each place once, and the rows at them.
use Rattle.std.proofs.Common.{ℕ, zero, suc, ◌≡◌, ◌≢◌, ◌<◌, ◌≤◌, ◌+◌, ◌-◌, false, List, [], ◌∷◌}
use Rattle.std.proofs.Common.{◌++◌, refl, sym, ap, ◌∙◌, subst, arith, length, drop, get_or, set}
use Rattle.std.proofs.Common.{Ordering, append_assoc, length-append, nat_eq}
use Rattle.std.proofs.Math.Seq.{get_or-append_seam}
use Rattle.std.proofs.lemmas.Bool.Decides.{nat_tests}
use Rattle.std.proofs.lemmas.Cmp.{on_total}
use Rattle.std.proofs.lemmas.List.{get_or-set_other, drop_more}
use Rattle.std.proofs.lemmas.List.Elements.{All-from_recursion}
use Rattle.std.proofs.lemmas.List.Sorted.{All-permutation}
use Rattle.std.proofs.lemmas.Map.Keys.{IsDistinct-cons, IsDistinct-head, IsDistinct-tail}
use Rattle.std.proofs.lemmas.Map.Keys.{IsDistinct-IsPermutation}
use Rattle.std.specs.List.{All, AllByRecursion, IsDistinct}
use Rattle.std.specs.List.Sorted.{IsPermutation}
use Rattle.row_types.specs.Ordered as ordered
use Rattle.row_types.specs.Rows.{Row}
use Rattle.row_types.specs.Sorting.{key_cmp, keys_cmp}
use Rattle.row_types.specs.declared.sort_key.SortKey.{SortKey}
use Rattle.row_sort.specs.Places.{row_at, rows_at, at_places, places_from}
use Rattle.row_sort.proofs.Keys.{key_cmp_total, keys_cmp_total}
use Rattle.row_sort.proofs.Mapped.{in_order-map}
use Rattle.row_sort.proofs.Passes.{in_order-passes, in_order-moves, in_order-tied}

-- ---- each place once

flips : (p q : ℕ) → nat_eq p q ≡ nat_eq q p
flips p q = grind (arith, nat_tests)

within-places : (n m : ℕ) (rows : List Row) → n + length rows ≤ m →
    AllByRecursion (λ p. p < m) (places_from n rows)
within-places n m [] l = tt
within-places n m (r ∷ rs) l = (omega arith, within-places (suc n) m rs (omega arith))

above-places : (p n : ℕ) (rows : List Row) → p < n →
    AllByRecursion (λ q. nat_eq p q ≡ false) (places_from n rows)
above-places p n [] l = tt
above-places p n (r ∷ rs) l = (grind (arith, nat_tests), above-places p (suc n) rs (omega arith))

once-places : (n : ℕ) (rows : List Row) → IsDistinct nat_eq (places_from n rows)
unfolding IsDistinct
once-places n [] = tt
once-places n (r ∷ rs) = IsDistinct-cons nat_eq n (places_from (suc n) rs)
    (above-places n (suc n) rs (omega arith)) (once-places (suc n) rs)

-- ---- rows taken from their places

-- a row that goes out is no other's
apart_from : (rows : List Row) (p : ℕ) (row : Row) (ps : List ℕ) →
    AllByRecursion (λ q. nat_eq p q ≡ false) ps → rows_at (set rows p row) ps ≡ rows_at rows ps
apart_from rows p row [] h = refl
apart_from rows p row (q ∷ qs) h =
    let ne : q ≢ p = (let f = h.0 in grind (arith, nat_tests)) in
    ap (λ x. x ∷ rows_at (set rows p row) qs) (get_or-set_other rows p q row [] ne) ∙
    ap (λ (xs : List Row). row_at rows q ∷ xs) (apart_from rows p row qs h.1)

once-drop : (ps : List ℕ) (i : ℕ) → IsDistinct nat_eq ps → IsDistinct nat_eq (drop i ps)
once-drop ps zero h = h
once-drop [] (suc i) h = h
once-drop (p ∷ ps) (suc i) h = once-drop ps i (IsDistinct-tail nat_eq p ps h)

pub goes_out : (taken left : List Row) (ps : List ℕ) (i d : ℕ) (row new : Row) →
    IsDistinct nat_eq ps → i < length ps → row ≡ row_at left (get_or ps i d)
    → (taken ++ row ∷ []) ++ rows_at (set left (get_or ps i d) new) (drop (i + 1) ps) ≡ taken ++
    rows_at left (drop i ps)
goes_out taken left ps i d row new once l e =
    let p = get_or ps i d in
    let rest = drop (i + 1) ps in
    let apart = IsDistinct-head nat_eq p rest
    (subst (λ (qs : List ℕ). IsDistinct nat_eq qs) (drop_more ps i d l) (once-drop ps i once))
    in
    append_assoc taken (row ∷ []) (rows_at (set left p new) rest)
    ∙ ap (λ (xs : List Row). taken ++ row ∷ xs) (apart_from left p new rest apart)
    ∙ ap (λ (x : Row). taken ++ x ∷ rows_at left rest) e
    ∙ sym (ap (λ (qs : List ℕ). taken ++ rows_at left qs) (drop_more ps i d l))

rows_at-places : (front rows : List Row) → rows_at (front ++ rows) (places_from (length front) rows)
    ≡ rows
rows_at-places front [] = refl
rows_at-places front (r ∷ rs) =
    let more = front ++ r ∷ [] in
    let joined : more ++ rs ≡ front ++ r ∷ rs = append_assoc front (r ∷ []) rs in
    let count : length more ≡ suc (length front) = omega (arith, length-append front (r ∷ [])) in
    ap (λ x. x ∷ rows_at (front ++ r ∷ rs) (places_from (suc (length front)) rs))
    (get_or-append_seam front r rs [])
    ∙ ap (λ (xs : List Row). r ∷ xs)
    (ap (λ (n : ℕ). rows_at (front ++ r ∷ rs) (places_from n rs)) (sym count)
    ∙ ap (λ (xs : List Row). rows_at xs (places_from (length more) rs)) (sym joined) ∙
    rows_at-places more rs)

-- ---- places in an order

module _ (rows : List Row) (R : Row → Row → Ordering) where
  abbrev sorted : List ℕ
  sorted = ordered.in_order (at_places R rows) (places_from 0 rows)

  moved : IsPermutation (places_from 0 rows) sorted
  moved = in_order-moves (at_places R rows) (places_from 0 rows)

  pub places_within : All (λ p. p < length rows) sorted
  places_within = All-permutation (λ p. p < length rows) (places_from 0 rows) sorted moved
      (All-from_recursion (λ p. p < length rows) (places_from 0 rows)
      (within-places 0 (length rows) rows (omega arith)))

  pub places_once : IsDistinct nat_eq sorted
  places_once = IsDistinct-IsPermutation nat_eq flips (places_from 0 rows) sorted moved
      (once-places 0 rows)

  -- the rows at places in order are the rows in order
  pub rows_at-sorted : rows_at rows sorted ≡ ordered.in_order R rows
  rows_at-sorted = sym (in_order-map (row_at rows) R (at_places R rows) (λ a b. refl)
      (places_from 0 rows)) ∙ ap (ordered.in_order R) (rows_at-places [] rows)

-- places in the order of no column
pub no_pass : (rows : List Row) (ps : List ℕ) →
    ps ≡ ordered.in_order (at_places (keys_cmp []) rows) ps
no_pass rows ps = sym (in_order-tied ps)

-- places in the order of some columns, and then in that of the one before them
pub one_pass : (rows : List Row) (key : SortKey) (keys : List SortKey) (ps : List ℕ)
    → ordered.in_order (at_places (key_cmp key) rows)
    (ordered.in_order (at_places (keys_cmp keys) rows) ps) ≡ ordered.in_order
    (at_places (keys_cmp (key ∷ keys)) rows) ps
one_pass rows key keys ps = in_order-passes (at_places (key_cmp key) rows)
    (at_places (keys_cmp keys) rows) (on_total (row_at rows) (key_cmp_total key))
    (on_total (row_at rows) (keys_cmp_total keys)) ps

-- a step of a sort from the last column on
pub pass_step : (rows : List Row) (keys : List SortKey) (ps : List ℕ) (i : ℕ) (key : SortKey)
    (vs ws : List ℕ) → 0 < i → i ≤ length keys → get_or keys (i - 1) key ≡ key
    → vs ≡ ordered.in_order (at_places (keys_cmp (drop i keys)) rows) ps →
    ws ≡ ordered.in_order (at_places (key_cmp key) rows) vs →
    ws ≡ ordered.in_order (at_places (keys_cmp (drop (i - 1) keys)) rows) ps
pass_step rows keys ps i key vs ws some within at before after =
    let next : i ≡ i - 1 + 1 = omega arith in
    let rest = drop (i - 1 + 1) keys in
    let here : drop (i - 1) keys ≡ key ∷ rest = drop_more keys (i - 1) key (omega arith) ∙
    ap (λ (k : SortKey). k ∷ rest) at in
    let old = before ∙ ap (λ (n : ℕ). ordered.in_order (at_places (keys_cmp (drop n keys)) rows) ps)
    next in
    after ∙ ap (ordered.in_order (at_places (key_cmp key) rows)) old ∙ one_pass rows key rest ps
    ∙ ap (λ (ks : List SortKey). ordered.in_order (at_places (keys_cmp ks) rows) ps) (sym here)
