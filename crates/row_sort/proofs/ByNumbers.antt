-- Where the numbers of two values differ, the values stand as these do; and where the numbers of a
-- column say all, they tie as these do.
use Rattle.std.proofs.Common.{ℕ, ℤ, pos, ◌≡◌, ◌<◌, ◌<ℤ◌, ◌||◌, Bool, true, false, List, [], ◌∷◌}
use Rattle.std.proofs.Common.{refl, sym, ap, ◌∙◌, subst, arith, map, cond, get_or, Ordering, Less}
use Rattle.std.proofs.Common.{Equal, Greater}
use Rattle.std.proofs.lemmas.Cmp.{int_cmp_total, on_total, then_total, back_total}
use Rattle.std.specs.Cmp.{IsTotalOrder, int_ranks, nat_cmp_is}
use Rattle.std.specs.Ordering.{MatchOrdering, int_cmp, ordering_then, ordering_reverse}
use Rattle.sql_values.specs.declared.value.Value.{Value}
use Rattle.sql_values.specs.declared.value.Value.TheVariants.{Null, Int, Str, Bool as Truth}
use Rattle.sql_values.specs.Values.{text_cmp}
use Rattle.row_types.specs.Rows.{Row, value_cmp}
use Rattle.row_types.specs.Sorting.{key_cmp}
use Rattle.row_types.specs.Ordered.{in_order}
use Rattle.row_types.specs.declared.sort_key.SortKey.{SortKey}
use Rattle.row_types.proofs.Laws.{value_cmp_total, is_less}
use Rattle.row_sort.specs.declared.columns.Numbered.{Numbered}
use Rattle.row_sort.specs.Numbers.{least, whole_number, first_number, is_told, are_told, tells}
use Rattle.row_sort.specs.Numbers.{numbered, place_of, by_number, by_value}
use Rattle.row_sort.specs.Places.{row_at, value_at, at_places}
use Rattle.row_sort.proofs.Keys.{keys_cmp_total}
use Rattle.row_sort.proofs.Mapped.{in_order-map}
use Rattle.row_sort.proofs.Stable.{cases}
use Rattle.row_sort.proofs.Values.{in_none, at_one}

-- ---- the orders by numbers are total

pub by_number_total : (descending : Bool) → IsTotalOrder (by_number descending)
by_number_total true = back_total (on_total (λ (p : Numbered). p.number) int_cmp_total)
by_number_total false = on_total (λ (p : Numbered). p.number) int_cmp_total

pub by_value_total : (key : SortKey) (rows : List Row) → IsTotalOrder (by_value key rows)
by_value_total key rows = then_total (by_number_total key.descending)
    (on_total (λ (p : Numbered). row_at rows p.place) (keys_cmp_total (key ∷ [])))

-- ---- numbers that rise with all values

abbrev firsts_cmp : Value → Value → Ordering
firsts_cmp v w = int_cmp (first_number v) (first_number w)

firsts_total : IsTotalOrder firsts_cmp
firsts_total = on_total first_number int_cmp_total

lower : (c d : ℕ) → int_cmp (pos c) (pos d) ≡ Less → c < d
lower c d h =
    let l : pos c <ℤ pos d = subst (λ o. MatchOrdering o (pos c <ℤ pos d) (pos c ≡ pos d)
    (pos d <ℤ pos c)) h (int_ranks (pos c) (pos d)) in
    grind arith

-- texts: the first characters decide where they differ
by_first : (s t : List ℕ) → int_cmp (pos (get_or s 0 0)) (pos (get_or t 0 0)) ≡ Less →
    text_cmp s t ≡ Less
by_first [] [] h = cc
by_first [] (d ∷ t) h = refl
by_first (c ∷ s) [] h = absurd (let l = lower c 0 h in omega (arith, l))
by_first (c ∷ s) (d ∷ t) h = ap (λ r. ordering_then r (text_cmp s t))
    (sym (nat_cmp_is c d Less (lower c d h)))

agrees : (v w : Value) → firsts_cmp v w ≡ Less → value_cmp v w ≡ Less
agrees Null Null h = cc
agrees (Truth false) (Truth false) h = cc
agrees (Truth false) (Truth true) h = refl
agrees (Truth true) (Truth false) h = cc
agrees (Truth true) (Truth true) h = cc
agrees (Int m) (Int n) h = cc
agrees (Str s) (Str t) h = by_first s t h
agrees Null (Truth q) h = refl
agrees Null (Int n) h = refl
agrees Null (Str t) h = refl
agrees (Truth false) Null h = cc
agrees (Truth true) Null h = cc
agrees (Truth p) (Int n) h = refl
agrees (Truth p) (Str t) h = refl
agrees (Int m) Null h = cc
agrees (Int m) (Truth false) h = cc
agrees (Int m) (Truth true) h = cc
agrees (Int m) (Str t) h = refl
agrees (Str s) Null h = cc
agrees (Str s) (Truth false) h = cc
agrees (Str s) (Truth true) h = cc
agrees (Str s) (Int n) h = cc

agrees_above : (v w : Value) → firsts_cmp v w ≡ Greater → value_cmp v w ≡ Greater
agrees_above v w h = value_cmp_total.antisymm v w ∙
    ap ordering_reverse (agrees w v (firsts_total.antisymm w v ∙ ap ordering_reverse h))

told : (o r rest : Ordering) → (o ≡ Less → r ≡ Less) → (o ≡ Greater → r ≡ Greater) →
    ordering_then o (ordering_then r rest) ≡ ordering_then r rest
told Less r rest f g = ap (λ p. ordering_then p rest) (sym (f refl))
told Equal r rest f g = refl
told Greater r rest f g = ap (λ p. ordering_then p rest) (sym (g refl))

then_equal : (o : Ordering) → ordering_then o Equal ≡ o
then_equal Less = refl
then_equal Equal = refl
then_equal Greater = refl

by_one : (b : Bool) (v w : Value) →
    ordering_then (cond b (firsts_cmp w v) (firsts_cmp v w))
    (ordering_then (cond b (value_cmp w v) (value_cmp v w)) Equal) ≡ cond b (value_cmp w v)
    (value_cmp v w)
by_one true v w = told (firsts_cmp w v) (value_cmp w v) Equal (agrees w v) (agrees_above w v) ∙
    then_equal (value_cmp w v)
by_one false v w = told (firsts_cmp v w) (value_cmp v w) Equal (agrees v w) (agrees_above v w) ∙
    then_equal (value_cmp v w)

-- ---- numbers that say all

above_least : (n : ℤ) → is_told false (Int n) ≡ true → int_cmp least n ≡ Less
above_least n h = is_less (int_cmp least n) h

told_cmp : (truths : Bool) (v w : Value) → is_told truths v ≡ true → is_told truths w ≡ true →
    int_cmp (whole_number v) (whole_number w) ≡ value_cmp v w
told_cmp truths Null Null h k = refl
told_cmp true (Truth false) (Truth false) h k = refl
told_cmp true (Truth false) (Truth true) h k = refl
told_cmp true (Truth true) (Truth false) h k = refl
told_cmp true (Truth true) (Truth true) h k = refl
told_cmp true Null (Truth false) h k = refl
told_cmp true Null (Truth true) h k = refl
told_cmp true (Truth false) Null h k = refl
told_cmp true (Truth true) Null h k = refl
told_cmp false Null (Int n) h k = above_least n k
told_cmp false (Int n) Null h k = int_cmp_total.antisymm n least ∙
    ap ordering_reverse (above_least n h)
told_cmp truths (Int m) (Int n) h k = refl
told_cmp false (Truth p) w h k = cc
told_cmp false v (Truth q) h k = cc
told_cmp true (Int m) w h k = cc
told_cmp true v (Int n) h k = cc
told_cmp truths (Str s) w h k = cc
told_cmp truths v (Str t) h k = cc

is_told_at : (truths : Bool) (rows : List Row) (column place : ℕ) →
    are_told truths rows column ≡ true → is_told truths (value_at rows column place) ≡ true
is_told_at truths rows column place h = at_one (λ row. is_told truths (get_or row column Null)) rows
    place [] (ap (is_told truths) (in_none column Null)) h

turned : (b : Bool) (x y z w : Ordering) → x ≡ z → y ≡ w → cond b x y ≡ cond b z w
turned true x y z w h k = h
turned false x y z w h k = k

-- ---- places in the order of a column

places_back : (alone : Bool) (rows : List Row) (column : ℕ) (ps : List ℕ) →
    map place_of (map (numbered alone rows column) ps) ≡ ps
places_back alone rows column [] = refl
places_back alone rows column (p ∷ ps) = ap (λ (qs : List ℕ). p ∷ qs)
    (places_back alone rows column ps)

module _ (rows : List Row) (key : SortKey) (ps : List ℕ) where
  abbrev by_key : ℕ → ℕ → Ordering
  by_key = at_places (key_cmp key) rows

  pub by_values : map place_of (in_order (by_value key rows)
      (map (numbered false rows key.place) ps)) ≡ in_order by_key ps
  by_values =
      ap (map place_of)
      (in_order-map (numbered false rows key.place) (by_value key rows) by_key
      (λ m n. by_one key.descending (value_at rows key.place m) (value_at rows key.place n)) ps)
      ∙ places_back false rows key.place (in_order by_key ps)

  by_numbers_of : (truths : Bool) → are_told truths rows key.place ≡ true →
      map place_of (in_order (by_number key.descending) (map (numbered true rows key.place) ps)) ≡
      in_order by_key ps
  by_numbers_of truths h =
      let at = λ (m : ℕ). value_at rows key.place m in
      let is = λ (m : ℕ). is_told_at truths rows key.place m h in
      ap (map place_of)
      (in_order-map (numbered true rows key.place) (by_number key.descending) by_key
      (λ m n. turned key.descending (int_cmp (whole_number (at n)) (whole_number (at m)))
      (int_cmp (whole_number (at m)) (whole_number (at n))) (value_cmp (at n) (at m))
      (value_cmp (at m) (at n))
      (told_cmp truths (at n) (at m) (is n) (is m)) (told_cmp truths (at m) (at n) (is m) (is n)))
      ps)
      ∙ places_back true rows key.place (in_order by_key ps)

  pub by_numbers : tells rows key.place ≡ true →
      map place_of (in_order (by_number key.descending) (map (numbered true rows key.place) ps)) ≡
      in_order by_key ps
  by_numbers h = cases (are_told false rows key.place)
      (λ t. by_numbers_of false t)
      (λ f. by_numbers_of true (sym (ap (λ b. b || are_told true rows key.place) f) ∙ h))
