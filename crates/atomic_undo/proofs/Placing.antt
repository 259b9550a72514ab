-- New rows with their places, in key order and back.
use Rattle.std.proofs.Common.{ℕ, zero, suc, pos, ◌≡◌, ◌≢◌, ◌<◌, ◌≤◌, ◌+◌, ◌-◌, Bool, true, false}
use Rattle.std.proofs.Common.{List, [], ◌∷◌, ◌++◌, refl, sym, ap, ◌∙◌, subst, arith, not, ◌&&◌}
use Rattle.std.proofs.Common.{length, drop, get_or, set, Err, Ok, Result, Some, None, Ordering}
use Rattle.std.proofs.Common.{Less, is_lt, is_ok, ⊎_elim, append_assoc, length-append}
use Rattle.std.proofs.Math.Bool.{and-true}
use Rattle.std.proofs.Math.Seq.{get_or-append_seam}
use Rattle.std.proofs.lemmas.Bool.{cases_eq, and_parts}
use Rattle.std.proofs.lemmas.Bool.Decides.{nat_tests}
use Rattle.std.proofs.lemmas.List.{get_or_default, get_or-set_other, drop_more, drop_all}
use Rattle.std.proofs.lemmas.List.{length-drop, append-nil}
use Rattle.std.proofs.lemmas.List.Elements.{All-from_recursion}
use Rattle.std.proofs.lemmas.Map.Keys.{IsDistinct-cons, IsDistinct-head, IsDistinct-tail}
use Rattle.std.proofs.lemmas.Map.Keys.{IsDistinct-IsPermutation}
use Rattle.std.proofs.lemmas.Option.{unwrap_or-slice_get}
use Rattle.std.specs.Option.{unwrap_or}
use Rattle.std.specs.List.{slice_get, All, AllByRecursion, IsDistinct}
use Rattle.sql_values.specs.declared.value.Value.{Value}
use Rattle.sql_values.specs.declared.value.Value.TheVariants.{Null}
use Rattle.std.proofs.lemmas.List.Sorted.{All-permutation, IsPermutation-map, IsPermutation-sym}
use Rattle.std.specs.Cmp.{IsTotalOrder}
use Rattle.std.specs.List.{list_all}
use Rattle.std.specs.List.Sorted.{IsPermutation}
use Rattle.row_types.specs.Ordered.{is_below_first, rises, stands, searched, first_repeat}
use Rattle.row_types.specs.Ordered.{first_repeat_after}
use Rattle.row_types.specs.Rows.{Row, by_key}
use Rattle.row_types.proofs.Laws.{is_less, err_at, none_stands, rises_before, by_key_total}
use Rattle.row_types.proofs.Laws.{first_repeat-append}
use Rattle.table_store.specs.Kept.{Kept, IsKept}
use Rattle.table_store.specs.Memory.{Memory}
use Rattle.table_store.proofs.Laws.{kept_rises}
use Rattle.row_types.specs.Tables.{with_rows_at}
use Rattle.atomic_undo.specs.declared.fault.ApplyFault.{ApplyFault}
use Rattle.atomic_undo.specs.declared.fault.ApplyFault.TheVariants.{Constraint, NoMemory}
use Rattle.atomic_undo.specs.declared.log.Edit.{Edit}
use Rattle.atomic_undo.specs.declared.sorted.Placed.{Placed}
use Rattle.atomic_undo.specs.Changes.{order_in, rows_in, IsAnswer}
use Rattle.atomic_undo.specs.Undo.{rows_before}
use Rattle.atomic_undo.specs.Sorting.{abbreviated, abbreviated_key, numbered_from, have_one_place}
use Rattle.atomic_undo.specs.Sorting.{row_at, rows_at, IsOrder, PutAlike}
use Rattle.atomic_undo.proofs.Sorting.{alike, none_among}

-- ---- a place after the last

module _ {X : Type 0} (R : X → X → Ordering) (o : IsTotalOrder R) (xs : List X) (x y : X)
    (up : rises R xs ≡ true) (some : 0 < length xs) (last : y ≡ get_or xs (length xs - 1) y)
    (below : R y x ≡ Less) where
  all_below : (k : ℕ) (d : X) → k < length xs → R (get_or xs k d) x ≡ Less
  all_below k d l = ⊎_elim
      (λ same. ap (λ i. R (get_or xs i d) x) same ∙
      ap (λ z. R z x) (get_or_default xs (length xs - 1) d y (omega arith) ∙ sym last) ∙ below)
      (λ other. o.trans (get_or xs k d) y x
      (ap (λ z. R z y) (get_or_default xs k d y l) ∙ ap (λ z. R (get_or xs k y) z) last ∙
      rises_before R o xs k (length xs - 1) y up (omega arith) (omega arith)) below)
      (cases_eq k (length xs - 1))

  pub after_last : searched (λ z. R z x) xs ≡ Err (length xs)
  after_last = err_at (λ z. R z x) xs (length xs) (omega arith) all_below
      (λ k d h m. absurd (omega arith))

-- the same of a table
pub after_table : (k : Kept) (x y : Row) → IsKept k → 0 < length k.table.rows →
    y ≡ get_or k.table.rows (length k.table.rows - 1) y → is_lt (by_key k.table.key y x) ≡ true
    → searched (λ r. by_key k.table.key r x) k.table.rows ≡ Err (length k.table.rows)
after_table k x y h some last below =
    after_last (by_key k.table.key) (by_key_total k.table.key) k.table.rows x y
    (kept_rises k.table.columns k.table.key k.table.rows h.rows) some last
    (is_less (by_key k.table.key y x) below)

-- ---- whether a list rises, one after another

module _ {X : Type 0} (R : X → X → Ordering) where
  pub rises_step : (xs : List X) (i : ℕ) (d e : X) → 1 ≤ i → i < length xs →
      rises R (drop (i - 1) xs) ≡ (is_lt (R (get_or xs (i - 1) d) (get_or xs i e)) && rises R
      (drop i xs))
  rises_step xs i d e h l =
      let x = get_or xs (i - 1) d in
      let next : i - 1 + 1 ≡ i = omega arith in
      ap (rises R) (drop_more xs (i - 1) d (omega arith) ∙ ap (λ (n : ℕ). x ∷ drop n xs) next)
      ∙ ap (λ b. b && rises R (drop i xs)) (ap (is_below_first R x) (drop_more xs i e l))

  one_rises : (xs : List X) → length xs ≤ 1 → rises R xs ≡ true
  one_rises [] l = refl
  one_rises (x ∷ []) l = refl
  one_rises (x ∷ y ∷ ys) l = absurd (omega arith)

  pub rises_end : (xs : List X) (i : ℕ) → length xs ≤ i → rises R (drop (i - 1) xs) ≡ true
  rises_end xs i l = one_rises (drop (i - 1) xs) (let h = length-drop (i - 1) xs in omega arith)

  -- lists that rise, one after the other
  pub rises_joined : (xs : List X) (y : X) (ys : List X) (z : X) → rises R xs ≡ true →
      rises R (y ∷ ys) ≡ true → 0 < length xs → z ≡ get_or xs (length xs - 1) z →
      rises R (xs ++ y ∷ ys) ≡ is_lt (R z y)
  rises_joined [] y ys z h k l e = absurd (omega arith)
  rises_joined (x ∷ []) y ys z h k l e = ap (λ b. is_lt (R x y) && b) k ∙ and-true (is_lt (R x y)) ∙
      ap (λ w. is_lt (R w y)) (sym e)
  rises_joined (x ∷ w ∷ ws) y ys z h k l e =
      let parts = and_parts (is_lt (R x w)) (rises R (w ∷ ws)) h in
      ap (λ b. b && rises R (w ∷ ws ++ y ∷ ys)) parts.0 ∙ rises_joined (w ∷ ws) y ys z parts.1 k
      (omega arith) (e ∙ ap (λ (n : ℕ). get_or (x ∷ w ∷ ws) n z) (arith_last (length ws)))
    where
      arith_last : (n : ℕ) → suc (suc n) - 1 ≡ suc (suc n - 1)
      arith_last n = omega arith

-- the rows of a table and others that rise
pub after_rows : (R : Row → Row → Ordering) (xs ys : List Row) (y z : Row) → rises R xs ≡ true →
    rises R ys ≡ true → 0 < length xs → 0 < length ys → z ≡ get_or xs (length xs - 1) z →
    y ≡ get_or ys 0 y
    → rises R (xs ++ ys) ≡ is_lt (R z y)
after_rows R xs [] y z h k l m e f = absurd (omega arith)
after_rows R xs (v ∷ vs) y z h k l m e f = rises_joined R xs v vs z h k l e ∙
    ap (λ w. is_lt (R z w)) (sym f)

pub nothing_after : (R : Row → Row → Ordering) (xs ys : List Row) → rises R xs ≡ true →
    length ys ≡ 0 → rises R (xs ++ ys) ≡ true
nothing_after R xs [] h l = ap (rises R) (append-nil xs) ∙ h
nothing_after R xs (y ∷ ys) h l = absurd (omega arith)

pub nothing_before : (R : Row → Row → Ordering) (xs ys : List Row) → rises R ys ≡ true →
    length xs ≡ 0 → rises R (xs ++ ys) ≡ true
nothing_before R [] ys h l = h
nothing_before R (x ∷ xs) ys h l = absurd (omega arith)

-- ---- rows gone through from the last

rows_from : (rows : List Row) (ps : List Placed) (i : ℕ) (p : Placed) → i < length ps →
    rows_at rows (drop i ps) ≡ row_at rows (get_or ps i p) ∷ rows_at rows (drop (i + 1) ps)
rows_from rows ps i p l = ap (rows_at rows) (drop_more ps i p l)

-- x is the row at the place that stands at i
pub rows_next : (rows : List Row) (ps : List Placed) (i : ℕ) (p : Placed) (x : Row) →
    All (λ q. q.place < length rows) ps → i < length ps → x ≡ get_or rows (get_or ps i p).place x
    → rows_at rows (drop i ps) ≡ x ∷ rows_at rows (drop (i + 1) ps)
rows_next rows ps i p x within l e =
    rows_from rows ps i p l ∙ ap (λ y. y ∷ rows_at rows (drop (i + 1) ps))
    (get_or_default rows (get_or ps i p).place [] x (within i p l) ∙ sym e)

pub next_below : (R : Row → Row → Ordering) (rows : List Row) (ps : List Placed) (i : ℕ) (x y : Row)
    (p : Placed) (r : Bool) → All (λ q. q.place < length rows) ps → i < length ps
    → y ≡ get_or rows (get_or ps i p).place y → r ≡ is_lt (R x y) →
    r ≡ is_below_first R x (rows_at rows (drop i ps))
next_below R rows ps i x y p r within l e h = h ∙
    sym (ap (is_below_first R x) (rows_next rows ps i p y within l e))

pub none_next : (R : Row → Row → Ordering) (rows : List Row) (ps : List Placed) (i : ℕ) (x : Row) →
    length ps ≤ i → true ≡ is_below_first R x (rows_at rows (drop i ps))
none_next R rows ps i x l = sym (ap (λ (qs : List Placed). is_below_first R x (rows_at rows qs))
    (drop_all i ps l))

-- a row whose key isn't found stands nowhere
pub not_there : (k : Kept) (x : Row) (r : Result ℕ ℕ) → IsKept k →
    r ≡ searched (λ y. by_key k.table.key y x) k.table.rows → is_ok r ≡ false →
    not (stands (by_key k.table.key) x k.table.rows) ≡ true
not_there k x (Ok p) h e f = cc
not_there k x (Err p) h e f = ap not (none_stands (by_key k.table.key) (by_key_total k.table.key) x
    k.table.rows p (kept_rises k.table.columns k.table.key k.table.rows h.rows) (sym e))

-- ---- the abbreviated key

pub first_is : (key : List ℕ) (row : Row) (place : ℕ) (v : Value) → 0 < length key →
    place ≡ get_or key 0 place → v ≡ get_or row place Null → abbreviated v ≡ abbreviated_key key row
first_is [] row place v l h e = absurd (omega arith)
first_is (i ∷ is) row place v l h e = ap abbreviated (e ∙ ap (λ n. get_or row n Null) h)

pub no_value : (row : Row) (place : ℕ) → None ≡ slice_get row place → Null ≡ get_or row place Null
no_value row place h = ap (λ o. unwrap_or o Null) h ∙ unwrap_or-slice_get row place Null

pub some_value : (row : Row) (place : ℕ) (v : Value) → Some v ≡ slice_get row place →
    v ≡ get_or row place Null
some_value row place v h = ap (λ o. unwrap_or o Null) h ∙ unwrap_or-slice_get row place Null

pub no_key : (key : List ℕ) (row : Row) → length key ≡ 0 → pos 0 ≡ abbreviated_key key row
no_key [] row l = refl
no_key (i ∷ is) row l = absurd (omega arith)

-- ---- each place once

flips : (p q : Placed) → have_one_place p q ≡ have_one_place q p
flips p q = grind (arith, nat_tests)

within-numbered : (key : List ℕ) (n m : ℕ) (rows : List Row) → n + length rows ≤ m →
    AllByRecursion (λ p. p.place < m) (numbered_from key n rows)
within-numbered key n m [] l = tt
within-numbered key n m (r ∷ rs) l = (omega arith, within-numbered key (suc n) m rs (omega arith))

above-numbered : (key : List ℕ) (p : Placed) (n : ℕ) (rows : List Row) → p.place < n →
    AllByRecursion (λ q. have_one_place p q ≡ false) (numbered_from key n rows)
above-numbered key p n [] l = tt
above-numbered key p n (r ∷ rs) l = (
  grind (arith, nat_tests),
  above-numbered key p (suc n) rs
      (omega arith),
)

once-numbered : (key : List ℕ) (n : ℕ) (rows : List Row) →
    IsDistinct have_one_place (numbered_from key n rows)
unfolding IsDistinct
once-numbered key n [] = tt
once-numbered key n (r ∷ rs) =
    let first : Placed = record { place = n; abbreviated = abbreviated_key key r } in
    IsDistinct-cons have_one_place first (numbered_from key (suc n) rs)
    (above-numbered key first (suc n) rs (omega arith)) (once-numbered key (suc n) rs)

-- a row that goes out is no other's
apart_from : (rows : List Row) (p : Placed) (row : Row) (ps : List Placed) →
    AllByRecursion (λ q. have_one_place p q ≡ false) ps →
    rows_at (set rows p.place row) ps ≡ rows_at rows ps
apart_from rows p row [] h = refl
apart_from rows p row (q ∷ qs) h =
    let ne : q.place ≢ p.place = (let f = h.0 in grind (arith, nat_tests)) in
    ap (λ x. x ∷ rows_at (set rows p.place row) qs)
    (get_or-set_other rows p.place q.place row [] ne) ∙
    ap (λ (xs : List Row). row_at rows q ∷ xs) (apart_from rows p row qs h.1)

once-drop : (ps : List Placed) (i : ℕ) → IsDistinct have_one_place ps →
    IsDistinct have_one_place (drop i ps)
once-drop ps zero h = h
once-drop [] (suc i) h = h
once-drop (p ∷ ps) (suc i) h = once-drop ps i (IsDistinct-tail have_one_place p ps h)

pub goes_out : (taken left : List Row) (ps : List Placed) (i : ℕ) (d : Placed) (row new : Row) →
    IsDistinct have_one_place ps → i < length ps → row ≡ row_at left (get_or ps i d)
    → (taken ++ row ∷ []) ++ rows_at (set left (get_or ps i d).place new) (drop (i + 1) ps) ≡
    taken ++ rows_at left (drop i ps)
goes_out taken left ps i d row new once l e =
    let p = get_or ps i d in
    let rest = drop (i + 1) ps in
    let apart = IsDistinct-head have_one_place p rest
    (subst (λ (qs : List Placed). IsDistinct have_one_place qs) (drop_more ps i d l)
    (once-drop ps i once)) in
    append_assoc taken (row ∷ []) (rows_at (set left p.place new) rest)
    ∙ ap (λ (xs : List Row). taken ++ row ∷ xs) (apart_from left p new rest apart)
    ∙ ap (λ (x : Row). taken ++ x ∷ rows_at left rest) e
    ∙ sym (ap (λ (xs : List Row). taken ++ xs) (rows_from left ps i d l))

rows_at-numbered : (key : List ℕ) (front rows : List Row) →
    rows_at (front ++ rows) (numbered_from key (length front) rows) ≡ rows
rows_at-numbered key front [] = refl
rows_at-numbered key front (r ∷ rs) =
    let more = front ++ r ∷ [] in
    let joined : more ++ rs ≡ front ++ r ∷ rs = append_assoc front (r ∷ []) rs in
    let count : length more ≡ suc (length front) = omega (arith, length-append front (r ∷ [])) in
    ap (λ x. x ∷ rows_at (front ++ r ∷ rs) (numbered_from key (suc (length front)) rs))
    (get_or-append_seam front r rs [])
    ∙ ap (λ (xs : List Row). r ∷ xs)
    (ap (λ (n : ℕ). rows_at (front ++ r ∷ rs) (numbered_from key n rs)) (sym count)
    ∙ ap (λ (xs : List Row). rows_at xs (numbered_from key (length more) rs)) (sym joined) ∙
    rows_at-numbered key more rs)

module _ (key : List ℕ) (new : List Row) (ps : List Placed) (order : IsOrder key new ps) where
  pub order_within : All (λ p. p.place < length new) ps
  order_within = All-permutation (λ p. p.place < length new) (numbered_from key 0 new) ps order
      (All-from_recursion (λ p. p.place < length new) (numbered_from key 0 new)
      (within-numbered key 0 (length new) new (omega arith)))

  pub order_once : IsDistinct have_one_place ps
  order_once = IsDistinct-IsPermutation have_one_place flips (numbered_from key 0 new) ps order
      (once-numbered key 0 new)

  pub order_moves : IsPermutation new (rows_at new ps)
  order_moves = subst (λ (xs : List Row). IsPermutation xs (rows_at new ps))
      (rows_at-numbered key [] new) (IsPermutation-map (row_at new) (numbered_from key 0 new) ps
      order)

-- what comes of the rows in their own order comes of them in key order
pub alike_in_order : (k : Kept) (new sorted : List Row) → IsKept k → IsPermutation new sorted →
    first_repeat (by_key k.table.key) (k.table.rows ++ sorted) ≡ None
    → PutAlike (by_key k.table.key) k.table.rows sorted new
alike_in_order k new sorted h p n =
    let R = by_key k.table.key in
    let o = by_key_total k.table.key in
    let r = kept_rises k.table.columns k.table.key k.table.rows h.rows in
    alike R o k.table.rows r sorted new (IsPermutation-sym new sorted p)
    (sym (first_repeat-append R o k.table.rows sorted r) ∙ n)

pub alike_same : (R : Row → Row → Ordering) (old xs ys : List Row) → xs ≡ ys → PutAlike R old xs ys
alike_same R old xs ys e = subst (λ (zs : List Row). PutAlike R old zs ys) (sym e) (refl, λ _. refl)

pub none_free : (k : Kept) (xs : List Row) → IsKept k → rises (by_key k.table.key) xs ≡ true →
    list_all (λ x. not (stands (by_key k.table.key) x k.table.rows)) xs ≡ true
    → first_repeat (by_key k.table.key) (k.table.rows ++ xs) ≡ None
none_free k xs h up free =
    let R = by_key k.table.key in
    let o = by_key_total k.table.key in
    let r = kept_rises k.table.columns k.table.key k.table.rows h.rows in
    first_repeat-append R o k.table.rows xs r ∙ ap (λ (ys : List Row). first_repeat_after R ys xs)
    (sym (append-nil k.table.rows)) ∙ none_among R o k.table.rows r [] xs up free

-- the answer to rows in key order is that to the rows in their own
pub answer_alike : (m n : Memory) (t : ℕ) (xs ys : List Row) (r : Result (List Edit) ApplyFault) →
    PutAlike (order_in m.tables t) (rows_in m.tables t) xs ys
    → IsAnswer m n t (rows_in m.tables t ++ xs) r → IsAnswer m n t (rows_in m.tables t ++ ys) r
answer_alike m n t xs ys (Ok es) a h =
    let none = sym a.0 ∙ h.1 in
    let same = a.1 none in (
      record {
        tables = h.0.tables ∙ ap (λ (rows : List Row). with_rows_at t rows m.tables) same;
        can = h.0.can;
        back = ap (rows_before es) (sym same) ∙ h.0.back;
        capacities = h.0.capacities;
      },
      none,
    )
answer_alike m n t xs ys (Err (Constraint at)) a h = (h.0, sym a.0 ∙ h.1)
answer_alike m n t xs ys (Err NoMemory) a h = h
