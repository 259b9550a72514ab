-- New rows, whose keys rise, go in among those of a table in one pass.
use Rattle.std.proofs.Common.{ℕ, zero, suc, ◌≡◌, ◌<◌, ◌≤◌, ◌+◌, Bool, true, false, not, cond, List}
use Rattle.std.proofs.Common.{[], ◌∷◌, ◌++◌, refl, sym, ap, ◌∙◌, subst, arith, length, take, drop}
use Rattle.std.proofs.Common.{get_or, slice_index, insert, Ok, Err, Result, Some, None, Ordering}
use Rattle.std.proofs.Common.{Less, Equal, Greater, is_lt, is_eq, ◌||◌, IsTrue, append_assoc}
use Rattle.std.proofs.Common.{take-append-drop, length-append}
use Rattle.std.proofs.lemmas.Bool.{and_parts, and_from, or_from}
use Rattle.std.proofs.lemmas.List.{append-nil, take_all, drop_all, drop_more, take_more, length-map}
use Rattle.std.proofs.lemmas.List.{length-take-le}
use Rattle.std.proofs.lemmas.List.Folds.{list_all-append, list_any-append}
use Rattle.std.specs.Cmp.{IsTotalOrder}
use Rattle.std.specs.List.{list_all}
use Rattle.std.specs.Ordering.{match_ordering, ordering_reverse}
use Rattle.row_types.specs.Ordered.{rises, put, put_all, stands, searched, one_on}
use Rattle.row_types.specs.Ordered.{first_repeat_after}
use Rattle.row_types.specs.Rows.{Row, by_key, fits, well_kept}
use Rattle.row_types.specs.Tables.{Table, table_at, with_rows, with_rows_at}
use Rattle.row_types.proofs.Laws.{by_order, is_less, one_on_err, err_within, by_key_total}
use Rattle.row_types.proofs.Laws.{insert_is_put, first-below, tail-rises, one_stands, none_stands}
use Rattle.row_types.proofs.Laws.{not_tied_above, all-put, repeat_none, repeat_here}
use Rattle.table_store.specs.declared.placed_row.PlacedRow.{PlacedRow}
use Rattle.table_store.specs.Kept.{Kept, IsKept, CanInsertAll, holding}
use Rattle.table_store.specs.Memory.{Memory, kept_at, NoLess}
use Rattle.table_store.specs.Places.{Climb, places_of, removed_all, inserted_all}
use Rattle.table_store.proofs.Laws.{kept_rises, kept_fits, Climb-low, Climb-more}
use Rattle.table_store.proofs.Laws.{length-inserted_all, removed-inserted}
use Rattle.atomic_undo.specs.declared.log.Edit.{Edit}
use Rattle.atomic_undo.specs.declared.log.Edit.TheVariants.{InsertedAll}
use Rattle.atomic_undo.specs.Undo.{rows_before, undo_edit, CanUndo}
use Rattle.atomic_undo.specs.Changes.{order_in, rows_in, WentIn}
use Rattle.atomic_undo.specs.Between.{place_of, places_among, with_places}
use Rattle.atomic_undo.proofs.TakingBack.{CanUndo-push, more_undo, rows_before-append}
use Rattle.atomic_undo.proofs.Steps.{table_after}
use Rattle.atomic_undo.proofs.Sorting.{none_among, after-above, rises_put}

-- ---- where one stands after another went in

module _ {X : Type 0} (R : X → X → Ordering) (o : IsTotalOrder R) where
  reversed : (x y : X) (r : Ordering) → R x y ≡ r → R y x ≡ ordering_reverse r
  reversed x y r h = o.antisymm y x ∙ ap ordering_reverse h

  searched_on : (x y : X) (ys : List X) (r : Ordering) → R y x ≡ r →
      searched (λ z. R z x) (y ∷ ys) ≡ match_ordering r (one_on (searched (λ z. R z x) ys)) (Ok 0)
      (Err 0)
  searched_on x y ys r h = ap (λ s. match_ordering s (one_on (searched (λ z. R z x) ys)) (Ok 0)
      (Err 0)) h

  put_on : (y z : X) (zs : List X) (b : Bool) → is_lt (R y z) ≡ b →
      put R y (z ∷ zs) ≡ cond b (y ∷ z ∷ zs) (z ∷ put R y zs)
  put_on y z zs b h = ap (λ c. cond c (y ∷ z ∷ zs) (z ∷ put R y zs)) h

  -- one place further on than without the one below it
  searched-put : (y x : X) (xs : List X) (p : ℕ) → R y x ≡ Less → searched (λ z. R z x) xs ≡ Err p →
      searched (λ z. R z x) (put R y xs) ≡ Err (suc p)
  searched-put y x [] zero l h = searched_on x y [] Less l
  searched-put y x [] (suc p) l h = cc
  searched-put y x (z ∷ zs) p l h = by_order (R y z)
      (λ a. ap (searched (λ w. R w x)) (put_on y z zs true (ap is_lt a)) ∙
      searched_on x y (z ∷ zs) Less l ∙ ap one_on h)
      (λ a. past (ap is_lt a) (sym (o.congr y z x a) ∙ l) (λ q. searched-put y x zs q l))
      (λ a. past (ap is_lt a) (o.trans z y x (reversed y z Greater a) l)
      (λ q. searched-put y x zs q l))
    where
      past : is_lt (R y z) ≡ false → R z x ≡ Less →
          ((q : ℕ) → searched (λ w. R w x) zs ≡ Err q →
          searched (λ w. R w x) (put R y zs) ≡ Err (suc q))
          → searched (λ w. R w x) (put R y (z ∷ zs)) ≡ Err (suc p)
      past f b on =
          let q = one_on_err (searched (λ w. R w x) zs) p (sym (searched_on x z zs Less b) ∙ h) in
          let e : suc (suc q.0) ≡ suc p = (let k = q.2 in omega arith) in
          ap (searched (λ w. R w x)) (put_on y z zs false f) ∙ searched_on x z (put R y zs) Less b ∙
          ap one_on (on q.0 q.1) ∙ ap (λ n. Err n) e

  -- what is above stands no earlier
  searched-above : (y x : X) (xs : List X) (p q : ℕ) → R y x ≡ Less →
      searched (λ z. R z y) xs ≡ Err p → searched (λ z. R z x) xs ≡ Err q → p ≤ q
  searched-above y x [] p q l h k = let e : 0 ≡ p = cc in omega arith
  searched-above y x (z ∷ zs) p q l h k = by_order (R z y)
      (λ a.
      let s = one_on_err (searched (λ w. R w y) zs) p (sym (searched_on y z zs Less a) ∙ h) in
      let t = one_on_err (searched (λ w. R w x) zs) q
      (sym (searched_on x z zs Less (o.trans z y x a l)) ∙ k) in
      let m : s.0 ≤ t.0 = searched-above y x zs s.0 t.0 l s.1 t.1 in
      let e = s.2 in
      let f = t.2 in
      omega arith)
      (λ a. let e = sym (searched_on y z zs Equal a) ∙ h in cc)
      (λ a. let e : Err 0 ≡ Err p = sym (searched_on y z zs Greater a) ∙ h in let f : 0 ≡ p = cc in
      omega arith)

  -- ---- all of them

  -- each goes in, so many places further on than among the old ones
  abbrev AllGoIn : List X → ℕ → List X → List X → Type 0
  AllGoIn old n now [] = Unit {0}
  AllGoIn old n now (x ∷ xs) = (searched (λ z. R z x) now ≡
      Err (place_of (searched (λ z. R z x) old) + n)) × AllGoIn old n now xs

  go_in-put : (old now : List X) (n : ℕ) (y : X) (xs : List X) → list_all (λ z. is_lt (R y z)) xs ≡
      true → AllGoIn old n now xs → AllGoIn old (suc n) (put R y now) xs
  go_in-put old now n y [] b g = tt
  go_in-put old now n y (x ∷ xs) b g =
      let parts = and_parts (is_lt (R y x)) (list_all (λ z. is_lt (R y z)) xs) b in
      let p = place_of (searched (λ z. R z x) old) in
      let e : suc (p + n) ≡ p + suc n = omega arith in (
        searched-put y x now (p + n) (is_less (R y x) parts.0) g.0 ∙
            ap (λ k. Err k) e,
        go_in-put old now n y xs parts.1 g.1,
      )

  not_false : (b : Bool) → not b ≡ true → b ≡ false
  not_false true h = cc
  not_false false h = refl

  go_in-free : (old xs : List X) → list_all (λ x. not (stands R x old)) xs ≡ true →
      AllGoIn old 0 old xs
  go_in-free old [] f = tt
  go_in-free old (x ∷ xs) f =
      let parts = and_parts (not (stands R x old)) (list_all (λ y. not (stands R y old)) xs) f in (
        found (searched (λ z. R z x) old) refl (not_false (stands R x old) parts.0),
        go_in-free old
            xs parts.1,
      )
    where
      found : (r : Result ℕ ℕ) → searched (λ z. R z x) old ≡ r → stands R x old ≡ false →
          r ≡ Err (place_of r + 0)
      found (Ok p) e n = let t = one_stands R o x old p e in cc
      found (Err p) e n = ap (λ k. Err k) (let h : p ≡ p + 0 = omega arith in h)

  -- their places increase
  climb_after : (old : List X) (y : X) (a n : ℕ) (xs : List X) → searched (λ z. R z y) old ≡ Err a →
      rises R (y ∷ xs) ≡ true → AllGoIn old 0 old xs
      → Climb (a + n) (places_among R old n xs) (length old + (n + length xs))
  climb_after old y a n [] s up g = tt
  climb_after old y a n (x ∷ xs) s up g =
      let p = place_of (searched (λ z. R z x) old) in
      let parts = and_parts (is_lt (R y x)) (rises R (x ∷ xs)) up in
      let here : p + 0 ≤ length old = err_within (λ z. R z x) old (p + 0) g.0 in
      let above : a ≤ p + 0 = searched-above y x old a (p + 0) (is_less (R y x) parts.0) s g.0 in
      let rest : Climb (p + 0 + suc n) (places_among R old (suc n) xs)
      (length old + (suc n + length xs)) =
      climb_after old x (p + 0) (suc n) xs g.0 parts.1 g.1 in (
        omega arith,
        omega arith,
        Climb-more (suc (p + n)) (places_among R old (suc n) xs) (length old + (suc n + length xs))
            (length old + (n + suc (length xs))) (omega arith)
            (Climb-low (suc (p + n)) (p + 0 + suc n) (places_among R old (suc n) xs)
            (length old + (suc n + length xs)) (omega arith) rest),
      )

  pub climb_among : (old xs : List X) → rises R xs ≡ true →
      list_all (λ x. not (stands R x old)) xs ≡ true →
      Climb 0 (places_among R old 0 xs) (length old + length xs)
  climb_among old [] up f = tt
  climb_among old (x ∷ xs) up f =
      let p = place_of (searched (λ z. R z x) old) in
      let g = go_in-free old (x ∷ xs) f in
      let here : p + 0 ≤ length old = err_within (λ z. R z x) old (p + 0) g.0 in
      let rest : Climb (p + 0 + 1) (places_among R old 1 xs) (length old + (1 + length xs)) =
      climb_after old x (p + 0) 1 xs g.0 up g.1 in (
        omega arith,
        omega arith,
        Climb-more (suc (p + 0)) (places_among R old 1 xs) (length old + (1 + length xs))
            (length old + suc (length xs)) (omega arith)
            (Climb-low (suc (p + 0)) (p + 0 + 1) (places_among R old 1 xs)
            (length old + (1 + length xs)) (omega arith) rest),
      )

  pub length-places : (old : List X) (n : ℕ) (xs : List X) →
      length (places_among R old n xs) ≡ length xs
  length-places old n [] = refl
  length-places old n (x ∷ xs) = ap suc (length-places old (suc n) xs)

  all-put_all : (p : X → Bool) (xs ys : List X) → list_all p xs ≡ true → list_all p ys ≡ true →
      list_all p (put_all R xs ys) ≡ true
  all-put_all p xs [] h k = h
  all-put_all p xs (y ∷ ys) h k =
      let parts = and_parts (p y) (list_all p ys) k in
      all-put_all p (put R y xs) ys (all-put R o p y xs ∙ and_from (p y) (list_all p xs) parts.0 h)
      parts.1

  -- ---- places found one after another

  pub places_next : (old xs : List X) (i : ℕ) (x d : X) (ps all : List ℕ) → i < length xs →
      x ≡ get_or xs i d → ps ++ places_among R old i (drop i xs) ≡ all
      → (ps ++ (place_of (searched (λ z. R z x) old) + i) ∷ []) ++ places_among R old (i + 1)
      (drop (i + 1) xs) ≡ all
  places_next old xs i x d ps all l e h =
      let on : suc i ≡ i + 1 = omega arith in
      let p = place_of (searched (λ z. R z x) old) + i in
      append_assoc ps (p ∷ []) (places_among R old (i + 1) (drop (i + 1) xs))
      ∙ ap (λ n. ps ++ p ∷ places_among R old n (drop (i + 1) xs)) (sym on)
      ∙ ap (λ (y : X). ps ++ places_among R old i (y ∷ drop (i + 1) xs)) e
      ∙ ap (λ (ys : List X). ps ++ places_among R old i ys) (sym (drop_more xs i d l)) ∙ h

  -- one that goes in is none of the old ones
  pub free_next : (old xs : List X) (i : ℕ) (x d : X) (p : ℕ) → rises R old ≡ true → i < length xs →
      x ≡ get_or xs i d → searched (λ z. R z x) old ≡ Err p
      → list_all (λ y. not (stands R y old)) (take i xs) ≡ true →
      list_all (λ y. not (stands R y old)) (take (i + 1) xs) ≡ true
  free_next old xs i x d p up l e s h =
      let free = λ (y : X). not (stands R y old) in
      ap (list_all free) (take_more xs i d l ∙ ap (λ (y : X). take i xs ++ y ∷ []) (sym e)) ∙
      list_all-append free (take i xs) (x ∷ [])
      ∙ and_from (list_all free (take i xs)) (list_all free (x ∷ [])) h
      (and_from (free x) true (ap not (none_stands R o x old p up s)) refl)

  -- the first that is one of the old ones
  pub taken_here : (old xs : List X) (i : ℕ) (x d : X) (p : ℕ) → rises R old ≡ true →
      rises R xs ≡ true → i < length xs → x ≡ get_or xs i d → searched (λ z. R z x) old ≡ Ok p
      → list_all (λ y. not (stands R y old)) (take i xs) ≡ true →
      first_repeat_after R old xs ≡ Some (length old + i)
  taken_here old xs i x d p up rise l e s f =
      let split : xs ≡ take i xs ++ x ∷ drop (i + 1) xs =
      sym (take-append-drop i xs) ∙ ap (λ (ys : List X). take i xs ++ ys) (drop_more xs i d l) ∙
      ap (λ (y : X). take i xs ++ y ∷ drop (i + 1) xs) (sym e) in
      let count : length (old ++ take i xs) ≡ length old + i =
      (let a = length-append old (take i xs) in let b = length-take-le i xs (omega arith) in
      omega arith) in
      ap (first_repeat_after R old) split
      ∙ ap (λ (ys : List X). first_repeat_after R ys (take i xs ++ x ∷ drop (i + 1) xs))
      (sym (append-nil old))
      ∙ past [] (take i xs) (drop (i + 1) xs) (ap (rises R) (sym split) ∙ rise) f ∙
      ap (λ n. Some n) count
    where
      past : (front mid rest : List X) → rises R ((front ++ mid) ++ x ∷ rest) ≡ true →
          list_all (λ y. not (stands R y old)) mid ≡ true
          → first_repeat_after R (old ++ front) (mid ++ x ∷ rest) ≡
          Some (length (old ++ (front ++ mid)))
      past front [] rest h k =
          let t : stands R x (old ++ front) ≡ true =
          list_any-append (λ y. is_eq (R y x)) old front ∙
          ap (λ b. b || stands R x front) (one_stands R o x old p s) in
          repeat_here R o (old ++ front) x rest t ∙
          ap (λ (ys : List X). Some (length (old ++ ys))) (sym (append-nil front))
      past front (m ∷ mid) rest h k =
          let parts = and_parts (not (stands R m old)) (list_all (λ y. not (stands R y old)) mid) k
          in
          let n : stands R m old ≡ false = not_false (stands R m old) parts.0 in
          let t : stands R m (old ++ front) ≡ false =
          list_any-append (λ y. is_eq (R y m)) old front
          ∙ or_from (stands R m old) (stands R m front) n
          (not_tied_above R o m front (after-above R o old up front m (mid ++ x ∷ rest)
          (ap (rises R) (sym (append_assoc front (m ∷ mid) (x ∷ rest))) ∙ h))) in
          repeat_none R o (old ++ front) m (mid ++ x ∷ rest) t
          ∙ ap (λ (ys : List X). first_repeat_after R ys (mid ++ x ∷ rest))
          (append_assoc old front (m ∷ []))
          ∙ past (front ++ m ∷ []) mid rest (ap (λ (ys : List X). rises R (ys ++ x ∷ rest))
          (append_assoc front (m ∷ []) mid) ∙ h) parts.1
          ∙ ap (λ (ys : List X). Some (length (old ++ ys))) (append_assoc front (m ∷ []) mid)

-- ---- rows with their places

pub length-with_places : (ps : List ℕ) (rs : List Row) → length ps ≡ length rs →
    length (with_places ps rs) ≡ length rs
length-with_places [] [] e = refl
length-with_places [] (r ∷ rs) e = absurd (omega arith)
length-with_places (p ∷ ps) [] e = absurd (omega arith)
length-with_places (p ∷ ps) (r ∷ rs) e = ap suc (length-with_places ps rs (omega arith))

pub places_of-with_places : (ps : List ℕ) (rs : List Row) → length ps ≡ length rs →
    places_of (with_places ps rs) ≡ ps
places_of-with_places [] rs e = refl
places_of-with_places (p ∷ ps) [] e = absurd (omega arith)
places_of-with_places (p ∷ ps) (r ∷ rs) e = ap (λ (qs : List ℕ). p ∷ qs)
    (places_of-with_places ps rs (omega arith))

-- one more row gets its place
pub placed_next : (ps : List ℕ) (r : Row) (rs rows : List Row) (i : ℕ) (placed all : List PlacedRow)
    → i < length ps → rows ≡ r ∷ rs → placed ++ with_places (drop i ps) rows ≡ all
    → (placed ++ record { at = get_or ps i 0; row = r } ∷ []) ++ with_places (drop (i + 1) ps) rs ≡
    all
placed_next ps r rs rows i placed all l e h =
    let q : PlacedRow = record { at = get_or ps i 0; row = r } in
    append_assoc placed (q ∷ []) (with_places (drop (i + 1) ps) rs)
    ∙ ap (λ (qs : List ℕ). placed ++ with_places qs (r ∷ rs)) (sym (drop_more ps i 0 l))
    ∙ ap (λ (xs : List Row). placed ++ with_places (drop i ps) xs) (sym e) ∙ h

pub placed_all : (ps : List ℕ) (rows : List Row) (i : ℕ) (placed all : List PlacedRow) →
    length ps ≤ i → placed ++ with_places (drop i ps) rows ≡ all → placed ≡ all
placed_all ps rows i placed all l h = sym (ap (λ (qs : List ℕ). placed ++ with_places qs rows)
    (drop_all i ps l) ∙ append-nil placed) ∙ h

module _ (R : Row → Row → Ordering) (o : IsTotalOrder R) where
  all_in : (old : List Row) (n : ℕ) (now xs : List Row) → rises R xs ≡ true →
      AllGoIn R o old n now xs → inserted_all (with_places (places_among R old n xs) xs) now ≡
      put_all R now xs
  all_in old n now [] up g = refl
  all_in old n now (x ∷ xs) up g =
      let p = place_of (searched (λ z. R z x) old) + n in
      ap (inserted_all (with_places (places_among R old (suc n) xs) xs))
      (insert_is_put R o x now p g.0)
      ∙ all_in old (suc n) (put R x now) xs (tail-rises R o x xs up)
      (go_in-put R o old now n x xs (first-below R o x xs up) g.1)

module _ (m : Memory) (t : ℕ) (new : List Row) (kept : IsKept (kept_at m t))
    (up : rises (order_in m.tables t) new ≡ true)
    (free : list_all (λ x. not (stands (order_in m.tables t) x (rows_in m.tables t))) new ≡ true)
  where
    abbrev R : Row → Row → Ordering
    R = order_in m.tables t

    abbrev rows : List Row
    rows = rows_in m.tables t

    abbrev old : Table
    old = table_at m.tables t

    abbrev places : List ℕ
    places = places_among R rows 0 new

    total : IsTotalOrder R
    total = by_key_total old.key

    old_rise : rises R rows ≡ true
    old_rise = kept_rises old.columns old.key rows kept.rows

    all : inserted_all (with_places places new) rows ≡ put_all R rows new
    all = all_in R total rows 0 rows new up (go_in-free R total rows new free)

    none : first_repeat_after R rows new ≡ None
    none = ap (λ (xs : List Row). first_repeat_after R xs new) (sym (append-nil rows)) ∙
        none_among R total rows old_rise [] new up free

    many : length places ≡ length new
    many = length-places R total rows 0 new

    pub can_insert_all : list_all (fits (table_at m.tables t).columns (table_at m.tables t).key) new ≡
        true → length (rows_in m.tables t) + length new ≤ slice_index m.capacities t
        → CanInsertAll (kept_at m t) (with_places
        (places_among (order_in m.tables t) (rows_in m.tables t) 0 new) new)
    can_insert_all fit room =
        let n = length-with_places places new many in
        let e : length rows + length new ≡ length rows + length (with_places places new) =
        omega arith in
        record {
          climb = subst (λ (ps : List ℕ). Climb 0 ps (length rows + length (with_places places new)))
              (sym (places_of-with_places places new many))
              (subst (λ i. Climb 0 places i) e (climb_among R total rows new up free));
          room = omega arith;
          kept = subst (λ (xs : List Row). IsTrue (well_kept old.columns old.key xs)) (sym all)
              (and_from (list_all (fits old.columns old.key) (put_all R rows new))
              (rises R (put_all R rows new))
              (all-put_all R total (fits old.columns old.key) rows new
              (kept_fits old.columns old.key rows kept.rows) fit)
              (rises_put R total rows old_rise new none));
        }

    pub went_at_once : (n : Memory) (before es : List Edit) (ps : List ℕ) (placed : List PlacedRow) →
        t < length m.tables → CanUndo (kept_at m t) before →
        length (rows_in m.tables t) + length new ≤ slice_index m.capacities t
        → ps ≡ places_among (order_in m.tables t) (rows_in m.tables t) 0 new →
        placed ≡ with_places ps new → n.tables ≡ with_rows_at t
        (inserted_all placed (rows_in m.tables t)) m.tables → NoLess m.capacities n.capacities
        → es ≡ before ++ InsertedAll ps ∷ [] → WentIn m n t new before es None
    went_at_once n before es ps placed l can room ep ed h c is =
        let capacity = slice_index n.capacities t in
        let after = put_all R rows new in
        let into : inserted_all placed rows ≡ after =
        ap (λ (qs : List PlacedRow). inserted_all qs rows)
        (ed ∙ ap (λ (xs : List ℕ). with_places xs new) ep) ∙ all in
        let tables : n.tables ≡ with_rows_at t after m.tables = h ∙
        ap (λ (xs : List Row). with_rows_at t xs m.tables) into in
        let table : table_at n.tables t ≡ with_rows after old =
        table_after t after m.tables n.tables tables l in
        let k : Kept = record { table = with_rows after old; capacity = capacity } in
        let w = length-with_places places new many in
        let size : length rows + length new ≡ length rows + length (with_places places new) =
        omega arith in
        let climb : Climb 0 (places_of (with_places places new)) (length rows + length new) =
        subst (λ (qs : List ℕ). Climb 0 qs (length rows + length new))
        (sym (places_of-with_places places new many)) (climb_among R total rows new up free) in
        let long : length after ≡ length rows + length new =
        (let a : length (inserted_all (with_places places new) rows) ≡ length rows + length (with_places places new) = length-inserted_all 0 (with_places places new) rows (length rows + length new) size climb in
        let b : length (inserted_all (with_places places new) rows) ≡ length after =
        ap (λ (xs : List Row). length xs) all in omega arith) in
        let undone : removed_all ps after ≡ rows =
        ap (λ (xs : List ℕ). removed_all xs after) (ep ∙ sym (places_of-with_places places new many))
        ∙ ap (removed_all (places_of (with_places places new))) (sym all)
        ∙ removed-inserted 0 (with_places places new) rows (length rows + length new) size climb in
        let first : CanUndo (holding (undo_edit (InsertedAll ps) after) k) before =
        subst (λ (xs : List Row). CanUndo record { table = with_rows xs old; capacity = capacity }
        before) (sym undone) (more_undo old (slice_index m.capacities t) capacity before
        (c t) can) in
        let there : Climb 0 ps (length after) =
        subst (λ (qs : List ℕ). Climb 0 qs (length after)) (sym ep)
        (subst (λ i. Climb 0 places i) (sym long) (climb_among R total rows new up free)) in
        let both : CanUndo k (before ++ InsertedAll ps ∷ []) =
        CanUndo-push k before (InsertedAll ps) first there in
        let whole : put_all R rows (take (length new) new) ≡ after =
        ap (put_all R rows) (take_all (length new) new (omega arith)) in (
          record {
            tables = tables ∙ ap (λ (xs : List Row). with_rows_at t xs m.tables) (sym whole);
            can = subst (λ (x : Table). CanUndo record { table = x; capacity = capacity } es)
                (sym table) (subst (λ (xs : List Edit). CanUndo k xs) (sym is) both);
            back = ap (λ (xs : List Edit). rows_before xs (put_all R rows (take (length new) new)))
                is ∙ ap (rows_before (before ++ InsertedAll ps ∷ [])) whole
                ∙ rows_before-append before (InsertedAll ps ∷ []) after ∙
                ap (rows_before before) undone;
            count = omega arith;
            room = (let a = ap (λ (xs : List Row). length xs) whole in
                let d : slice_index m.capacities t ≤ capacity = c t in omega arith);
            judged = none ∙ sym (ap (first_repeat_after R (rows ++ take (length new) new))
                (drop_all (length new) new (omega arith)));
            capacities = c;
          },
          none,
        )
