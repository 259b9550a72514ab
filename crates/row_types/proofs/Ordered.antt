-- Lists that rise: where an element is found or put, and what an edit leaves.
use Rattle.std.proofs.Common.{ℕ, zero, suc, ◌≡◌, ◌<◌, ◌≤◌, Bool, true, false, List, [], ◌∷◌, ◌++◌}
use Rattle.std.proofs.Common.{refl, sym, ap, ◌∙◌, arith, cond, ◌&&◌, ◌||◌, get_or, set, length, Ok}
use Rattle.std.proofs.Common.{Err, Result, Some, None, Ordering, Less, Equal, Greater, is_lt, is_eq}
use Rattle.std.proofs.Common.{append_assoc, insert, remove}
use Rattle.std.proofs.lemmas.List.{append-nil}
use Rattle.std.specs.Cmp.{IsTotalOrder}
use Rattle.std.specs.Ordering.{match_ordering, ordering_reverse}
use Rattle.std.proofs.lemmas.Cmp.{alike_right, tied_back}
use Rattle.std.specs.List.{list_any, list_all}
use Rattle.row_types.specs.Ordered.{is_below_first, rises, put, put_all, in_order, stands}
use Rattle.row_types.specs.Ordered.{first_repeat, first_repeat_after, one_on, searched}
use Rattle.std.proofs.lemmas.Bool.{and_parts, and_from, or_parts, or_from}
use Rattle.std.proofs.lemmas.List.Folds.{list_all-append}
use Rattle.std.proofs.Math.Bool.{or_assoc, or-false}
use Rattle.row_types.proofs.Tests.{cases, or_swap, and_swap}

-- ---- what an answer of a comparison says

pub by_order : {P : Type 0} (r : Ordering) → (r ≡ Less → P) → (r ≡ Equal → P) → (r ≡ Greater → P) →
    P
by_order Less l e g = l refl
by_order Equal l e g = e refl
by_order Greater l e g = g refl

pub is_less : (r : Ordering) → is_lt r ≡ true → r ≡ Less
is_less Less h = refl
is_less Equal h = cc
is_less Greater h = cc

-- ---- searching

pub err_at : {X : Type 0} (by : X → Ordering) (xs : List X) (p : ℕ) → p ≤ length xs →
    ((k : ℕ) (d : X) → k < p → by (get_or xs k d) ≡ Less)
    → ((k : ℕ) (d : X) → p ≤ k → k < length xs → by (get_or xs k d) ≡ Greater) →
    searched by xs ≡ Err p
err_at by [] zero l f g = refl
err_at by [] (suc p) l f g = absurd (omega arith)
err_at by (x ∷ xs) zero l f g = ap (λ r. match_ordering r (one_on (searched by xs)) (Ok 0) (Err 0))
    (g 0 x (omega arith) (omega arith))
err_at by (x ∷ xs) (suc p) l f g =
    ap (λ r. match_ordering r (one_on (searched by xs)) (Ok 0) (Err 0)) (f 0 x (omega arith))
    ∙ ap one_on (err_at by xs p (omega arith) (λ k d h. f (suc k) d (omega arith))
    (λ k d h m. g (suc k) d (omega arith) (omega arith)))

pub ok_at : {X : Type 0} (by : X → Ordering) (xs : List X) (p : ℕ) (d : X) → p < length xs →
    ((k : ℕ) (d : X) → k < p → by (get_or xs k d) ≡ Less)
    → by (get_or xs p d) ≡ Equal → searched by xs ≡ Ok p
ok_at by [] p d l f e = absurd (omega arith)
ok_at by (x ∷ xs) zero d l f e = ap (λ r. match_ordering r (one_on (searched by xs)) (Ok 0) (Err 0))
    e
ok_at by (x ∷ xs) (suc p) d l f e =
    ap (λ r. match_ordering r (one_on (searched by xs)) (Ok 0) (Err 0)) (f 0 x (omega arith))
    ∙ ap one_on (ok_at by xs p d (omega arith) (λ k d h. f (suc k) d (omega arith)) e)

pub one_on_err : (r : Result ℕ ℕ) (p : ℕ) → one_on r ≡ Err p → (q : ℕ) × (r ≡ Err q) × (p ≡ suc q)
one_on_err (Ok i) p h = cc
one_on_err (Err i) p h = (i, refl, cc)

pub one_on_ok : (r : Result ℕ ℕ) (p : ℕ) → one_on r ≡ Ok p → (q : ℕ) × (r ≡ Ok q) × (p ≡ suc q)
one_on_ok (Ok i) p h = (i, refl, cc)
one_on_ok (Err i) p h = cc

searched_on : {X : Type 0} (by : X → Ordering) (x : X) (xs : List X) (r : Ordering) → by x ≡ r →
    searched by (x ∷ xs) ≡ match_ordering r (one_on (searched by xs)) (Ok 0) (Err 0)
searched_on by x xs r h = ap (λ s. match_ordering s (one_on (searched by xs)) (Ok 0) (Err 0)) h

pub err_within : {X : Type 0} (by : X → Ordering) (xs : List X) (p : ℕ) → searched by xs ≡ Err p →
    p ≤ length xs
err_within by [] zero h = omega arith
err_within by [] (suc p) h = cc
err_within by (x ∷ xs) p h = by_order (by x)
    (λ l. let q = one_on_err (searched by xs) p (sym (searched_on by x xs Less l) ∙ h) in
    let w : q.0 ≤ length xs = err_within by xs q.0 q.1 in let e = q.2 in omega arith)
    (λ e. let z = sym (searched_on by x xs Equal e) ∙ h in cc)
    (λ g. let z : Err 0 ≡ Err p = sym (searched_on by x xs Greater g) ∙ h in let e : 0 ≡ p = cc in
    omega arith)

pub ok_within : {X : Type 0} (by : X → Ordering) (xs : List X) (p : ℕ) → searched by xs ≡ Ok p →
    p < length xs
ok_within by [] p h = cc
ok_within by (x ∷ xs) p h = by_order (by x)
    (λ l. let q = one_on_ok (searched by xs) p (sym (searched_on by x xs Less l) ∙ h) in
    let w : q.0 < length xs = ok_within by xs q.0 q.1 in let e = q.2 in omega arith)
    (λ e. let z : Ok 0 ≡ Ok p = sym (searched_on by x xs Equal e) ∙ h in let e : 0 ≡ p = cc in
    omega arith)
    (λ g. let z = sym (searched_on by x xs Greater g) ∙ h in cc)

module _ {X : Type 0} (R : X → X → Ordering) (o : IsTotalOrder R) where
  reversed : (x y : X) (r : Ordering) → R x y ≡ r → R y x ≡ ordering_reverse r
  reversed x y r h = o.antisymm y x ∙ ap ordering_reverse h

  -- ---- lists that rise

  pub head-rises : (x : X) (xs : List X) → rises R (x ∷ xs) ≡ true → is_below_first R x xs ≡ true
  head-rises x xs h = (and_parts (is_below_first R x xs) (rises R xs) h).0

  pub tail-rises : (x : X) (xs : List X) → rises R (x ∷ xs) ≡ true → rises R xs ≡ true
  tail-rises x xs h = (and_parts (is_below_first R x xs) (rises R xs) h).1

  abbrev pub above_all : X → List X → Bool
  above_all x xs = list_all (λ y. is_lt (R y x)) xs

  abbrev pub below_all : X → List X → Bool
  below_all x xs = list_all (λ y. is_lt (R x y)) xs

  less_trans : (x y z : X) → is_lt (R x y) ≡ true → is_lt (R y z) ≡ true → is_lt (R x z) ≡ true
  less_trans x y z h k = ap is_lt (o.trans x y z (is_less (R x y) h) (is_less (R y z) k))

  below_all-trans : (x y : X) (zs : List X) → is_lt (R x y) ≡ true → below_all y zs ≡ true →
      below_all x zs ≡ true
  below_all-trans x y [] h k = refl
  below_all-trans x y (z ∷ zs) h k =
      and_from (is_lt (R x z)) (below_all x zs)
      (less_trans x y z h ((and_parts (is_lt (R y z)) (below_all y zs) k).0))
      (below_all-trans x y zs h ((and_parts (is_lt (R y z)) (below_all y zs) k).1))

  pub first-below : (x : X) (xs : List X) → rises R (x ∷ xs) ≡ true → below_all x xs ≡ true
  first-below x [] h = refl
  first-below x (y ∷ ys) h =
      and_from (is_lt (R x y)) (below_all x ys) (head-rises x (y ∷ ys) h)
      (below_all-trans x y ys (head-rises x (y ∷ ys) h)
      (first-below y ys (tail-rises x (y ∷ ys) h)))

  all_at : (p : X → Bool) (xs : List X) (i : ℕ) (d : X) → i < length xs → list_all p xs ≡ true →
      p (get_or xs i d) ≡ true
  all_at p [] i d l h = absurd (omega arith)
  all_at p (x ∷ xs) zero d l h = (and_parts (p x) (list_all p xs) h).0
  all_at p (x ∷ xs) (suc i) d l h = all_at p xs i d (omega arith)
      ((and_parts (p x) (list_all p xs) h).1)

  pub rises_before : (xs : List X) (i j : ℕ) (d : X) → rises R xs ≡ true → i < j → j < length xs →
      R (get_or xs i d) (get_or xs j d) ≡ Less
  rises_before [] i j d h k l = absurd (omega arith)
  rises_before (x ∷ xs) i zero d h k l = absurd (omega arith)
  rises_before (x ∷ xs) zero (suc j) d h k l =
      is_less (R x (get_or xs j d)) (all_at (λ y. is_lt (R x y)) xs j d (omega arith)
      (first-below x xs h))
  rises_before (x ∷ xs) (suc i) (suc j) d h k l =
      rises_before xs i j d (tail-rises x xs h) (omega arith) (omega arith)

  -- ---- putting

  put-front : (x y : X) (ys : List X) → is_lt (R x y) ≡ true → put R x (y ∷ ys) ≡ x ∷ y ∷ ys
  put-front x y ys h = ap (λ b. cond b (x ∷ y ∷ ys) (y ∷ put R x ys)) h

  put-past : (x y : X) (ys : List X) → is_lt (R x y) ≡ false → put R x (y ∷ ys) ≡ y ∷ put R x ys
  put-past x y ys h = ap (λ b. cond b (x ∷ y ∷ ys) (y ∷ put R x ys)) h

  -- where nothing is found, an insert is a put
  pub insert_is_put : (x : X) (xs : List X) (p : ℕ) → searched (λ y. R y x) xs ≡ Err p →
      insert xs p x ≡ put R x xs
  insert_is_put x [] zero h = refl
  insert_is_put x [] (suc p) h = cc
  insert_is_put x (y ∷ ys) zero h = by_order (R y x)
      (λ l. let q = one_on_err (searched (λ y. R y x) ys) zero (sym (searched_on (λ y. R y x) y ys Less l) ∙ h) in let e = q.2 in absurd (omega arith))
      (λ e. let z = sym (searched_on (λ y. R y x) y ys Equal e) ∙ h in cc)
      (λ g. sym (put-front x y ys (ap is_lt (reversed y x Greater g))))
  insert_is_put x (y ∷ ys) (suc p) h = by_order (R y x)
      (λ l. let q = one_on_err (searched (λ y. R y x) ys) (suc p) (sym (searched_on (λ y. R y x) y ys Less l) ∙ h) in
      let e : q.0 ≡ p = (let f = q.2 in omega arith) in
      ap (λ (zs : List X). y ∷ zs) (insert_is_put x ys p (q.1 ∙ ap (λ n. Err n) e)) ∙
      sym (put-past x y ys (ap is_lt (reversed y x Less l))))
      (λ e. let z = sym (searched_on (λ y. R y x) y ys Equal e) ∙ h in cc)
      (λ g. let z = sym (searched_on (λ y. R y x) y ys Greater g) ∙ h in cc)

  not_tied_below : (x : X) (ys : List X) → below_all x ys ≡ true → stands R x ys ≡ false
  not_tied_below x [] h = refl
  not_tied_below x (y ∷ ys) h =
      or_from (is_eq (R y x)) (stands R x ys)
      (ap is_eq
      (reversed x y Less (is_less (R x y) ((and_parts (is_lt (R x y)) (below_all x ys) h).0))))
      (not_tied_below x ys ((and_parts (is_lt (R x y)) (below_all x ys) h).1))

  pub not_tied_above : (x : X) (ys : List X) → above_all x ys ≡ true → stands R x ys ≡ false
  not_tied_above x [] h = refl
  not_tied_above x (y ∷ ys) h =
      or_from (is_eq (R y x)) (stands R x ys)
      (ap is_eq (is_less (R y x) ((and_parts (is_lt (R y x)) (above_all x ys) h).0)))
      (not_tied_above x ys ((and_parts (is_lt (R y x)) (above_all x ys) h).1))

  -- nothing is found exactly where none ties
  pub none_stands : (x : X) (xs : List X) (p : ℕ) → rises R xs ≡ true →
      searched (λ y. R y x) xs ≡ Err p → stands R x xs ≡ false
  none_stands x [] p r h = refl
  none_stands x (y ∷ ys) p r h = by_order (R y x)
      (λ l. let q = one_on_err (searched (λ y. R y x) ys) p (sym (searched_on (λ y. R y x) y ys Less l) ∙ h) in
      or_from (is_eq (R y x)) (stands R x ys) (ap is_eq l)
      (none_stands x ys q.0 (tail-rises y ys r) q.1))
      (λ e. let z = sym (searched_on (λ y. R y x) y ys Equal e) ∙ h in cc)
      (λ g. or_from (is_eq (R y x)) (stands R x ys) (ap is_eq g)
      (not_tied_below x ys (below_all-trans x y ys (ap is_lt (reversed y x Greater g))
      (first-below y ys r))))

  pub one_stands : (x : X) (xs : List X) (p : ℕ) → searched (λ y. R y x) xs ≡ Ok p →
      stands R x xs ≡ true
  one_stands x [] p h = cc
  one_stands x (y ∷ ys) p h = by_order (R y x)
      (λ l. let q = one_on_ok (searched (λ y. R y x) ys) p (sym (searched_on (λ y. R y x) y ys Less l) ∙ h) in
      ap (λ b. is_eq b || stands R x ys) l ∙ one_stands x ys q.0 q.1)
      (λ e. ap (λ b. is_eq b || stands R x ys) e)
      (λ g. let z = sym (searched_on (λ y. R y x) y ys Greater g) ∙ h in cc)

  first-put : (y x : X) (xs : List X) → is_lt (R y x) ≡ true → is_below_first R y xs ≡ true →
      is_below_first R y (put R x xs) ≡ true
  first-put y x [] h k = h
  first-put y x (z ∷ zs) h k = cases (is_lt (R x z))
      (λ t. ap (is_below_first R y) (put-front x z zs t) ∙ h)
      (λ f. ap (is_below_first R y) (put-past x z zs f) ∙ k)

  pub rises-put : (x : X) (xs : List X) → rises R xs ≡ true → stands R x xs ≡ false →
      rises R (put R x xs) ≡ true
  rises-put x [] h n = refl
  rises-put x (y ∷ ys) h n = by_order (R y x)
      (λ l. ap (rises R) (put-past x y ys (ap is_lt (reversed y x Less l)))
      ∙ and_from (is_below_first R y (put R x ys)) (rises R (put R x ys))
      (first-put y x ys (ap is_lt l) (head-rises y ys h))
      (rises-put x ys (tail-rises y ys h) (sym (ap (λ b. is_eq b || stands R x ys) l) ∙ n)))
      (λ e. let z = sym (ap (λ b. is_eq b || stands R x ys) e) ∙ n in cc)
      (λ g. ap (rises R) (put-front x y ys (ap is_lt (reversed y x Greater g)))
      ∙ and_from (is_lt (R x y)) (rises R (y ∷ ys)) (ap is_lt (reversed y x Greater g)) h)

  pub any-put : (p : X → Bool) (x : X) (xs : List X) →
      list_any p (put R x xs) ≡ (p x || list_any p xs)
  any-put p x [] = refl
  any-put p x (y ∷ ys) = cases (is_lt (R x y))
      (λ t. ap (list_any p) (put-front x y ys t))
      (λ f. ap (list_any p) (put-past x y ys f) ∙ ap (λ b. p y || b) (any-put p x ys) ∙
      or_swap (p y) (p x) (list_any p ys))

  pub all-put : (p : X → Bool) (x : X) (xs : List X) →
      list_all p (put R x xs) ≡ (p x && list_all p xs)
  all-put p x [] = refl
  all-put p x (y ∷ ys) = cases (is_lt (R x y))
      (λ t. ap (list_all p) (put-front x y ys t))
      (λ f. ap (list_all p) (put-past x y ys f) ∙ ap (λ b. p y && b) (all-put p x ys) ∙
      and_swap (p y) (p x) (list_all p ys))

  pub any-put_all : (p : X → Bool) (xs ys : List X) →
      list_any p (put_all R xs ys) ≡ (list_any p xs || list_any p ys)
  any-put_all p xs [] = sym (or-false (list_any p xs))
  any-put_all p xs (y ∷ ys) =
      any-put_all p (put R y xs) ys ∙ ap (λ b. b || list_any p ys) (any-put p y xs) ∙
      or_assoc (p y) (list_any p xs) (list_any p ys) ∙
      or_swap (p y) (list_any p xs) (list_any p ys)

  pub put_all-append : (xs ys zs : List X) → put_all R xs (ys ++ zs) ≡ put_all R (put_all R xs ys)
      zs
  put_all-append xs [] zs = refl
  put_all-append xs (y ∷ ys) zs = put_all-append (put R y xs) ys zs

  -- ---- those that rise already

  put_last : (x : X) (xs : List X) → above_all x xs ≡ true → put R x xs ≡ xs ++ x ∷ []
  put_last x [] h = refl
  put_last x (y ∷ ys) h =
      put-past x y ys
      (ap is_lt
      (reversed y x Less (is_less (R y x) ((and_parts (is_lt (R y x)) (above_all x ys) h).0))))
      ∙ ap (λ (zs : List X). y ∷ zs) (put_last x ys
      ((and_parts (is_lt (R y x)) (above_all x ys) h).1))

  -- in a list that rises, what stands after is above all before
  after-above : (xs : List X) (x : X) (ys : List X) → rises R (xs ++ x ∷ ys) ≡ true →
      above_all x xs ≡ true
  after-above [] x ys h = refl
  after-above (z ∷ zs) x ys h =
      let b = sym (list_all-append (λ y. is_lt (R z y)) zs (x ∷ ys)) ∙
      first-below z (zs ++ x ∷ ys) h in
      and_from (is_lt (R z x)) (above_all x zs)
      ((and_parts (is_lt (R z x)) (below_all z ys)
      ((and_parts (below_all z zs) (below_all z (x ∷ ys)) b).1)).0)
      (after-above zs x ys (tail-rises z (zs ++ x ∷ ys) h))

  one_further : (xs : List X) (x : X) (ys : List X) → rises R (xs ++ x ∷ ys) ≡ true →
      rises R ((xs ++ x ∷ []) ++ ys) ≡ true
  one_further xs x ys h = ap (rises R) (append_assoc xs (x ∷ []) ys) ∙ h

  pub put_all-rises : (xs ys : List X) → rises R (xs ++ ys) ≡ true → put_all R xs ys ≡ xs ++ ys
  put_all-rises xs [] h = sym (append-nil xs)
  put_all-rises xs (y ∷ ys) h =
      ap (λ (zs : List X). put_all R zs ys) (put_last y xs (after-above xs y ys h))
      ∙ put_all-rises (xs ++ y ∷ []) ys (one_further xs y ys h) ∙ append_assoc xs (y ∷ []) ys

  pub in_order-rises : (xs : List X) → rises R xs ≡ true → in_order R xs ≡ xs
  in_order-rises xs h = put_all-rises [] xs h

  -- old ones in order, and more after them
  pub in_order-append : (xs ys : List X) → rises R xs ≡ true →
      in_order R (xs ++ ys) ≡ put_all R xs ys
  in_order-append xs ys h = put_all-append [] xs ys ∙
      ap (λ (zs : List X). put_all R zs ys) (in_order-rises xs h)

  step_repeat : (seen : List X) (x : X) (xs : List X) → stands R x seen ≡ false →
      first_repeat_after R seen (x ∷ xs) ≡ first_repeat_after R (seen ++ x ∷ []) xs
  step_repeat seen x xs h = ap (λ b. cond b (Some (length seen))
      (first_repeat_after R (seen ++ x ∷ []) xs)) h

  pub repeat_none : (seen : List X) (x : X) (xs : List X) → stands R x seen ≡ false →
      first_repeat_after R seen (x ∷ xs) ≡ first_repeat_after R (seen ++ x ∷ []) xs
  repeat_none seen x xs h = step_repeat seen x xs h

  pub repeat_here : (seen : List X) (x : X) (xs : List X) → stands R x seen ≡ true →
      first_repeat_after R seen (x ∷ xs) ≡ Some (length seen)
  repeat_here seen x xs h = ap (λ b. cond b (Some (length seen))
      (first_repeat_after R (seen ++ x ∷ []) xs)) h

  repeat_past : (seen xs ys : List X) → rises R (seen ++ xs) ≡ true →
      first_repeat_after R seen (xs ++ ys) ≡ first_repeat_after R (seen ++ xs) ys
  repeat_past seen [] ys h = ap (λ (zs : List X). first_repeat_after R zs ys)
      (sym (append-nil seen))
  repeat_past seen (x ∷ xs) ys h =
      step_repeat seen x (xs ++ ys) (not_tied_above x seen (after-above seen x xs h))
      ∙ repeat_past (seen ++ x ∷ []) xs ys (one_further seen x xs h)
      ∙ ap (λ (zs : List X). first_repeat_after R zs ys) (append_assoc seen (x ∷ []) xs)

  -- among those that rise none ties with an earlier one
  pub first_repeat-append : (xs ys : List X) → rises R xs ≡ true →
      first_repeat R (xs ++ ys) ≡ first_repeat_after R xs ys
  first_repeat-append xs ys h = repeat_past [] xs ys h

  pub first_repeat-rises : (xs : List X) → rises R xs ≡ true → first_repeat R xs ≡ None
  first_repeat-rises xs h = ap (first_repeat R) (sym (append-nil xs)) ∙ first_repeat-append xs [] h

  -- ---- one less

  first-remove : (x : X) (xs : List X) (i : ℕ) → below_all x xs ≡ true →
      is_below_first R x (remove xs i) ≡ true
  first-remove x [] zero h = refl
  first-remove x [] (suc i) h = refl
  first-remove x (y ∷ []) zero h = refl
  first-remove x (y ∷ z ∷ zs) zero h = (and_parts (is_lt (R x z)) (below_all x zs)
      ((and_parts (is_lt (R x y)) (below_all x (z ∷ zs)) h).1)).0
  first-remove x (y ∷ ys) (suc i) h = (and_parts (is_lt (R x y)) (below_all x ys) h).0

  pub rises-remove : (xs : List X) (i : ℕ) → rises R xs ≡ true → rises R (remove xs i) ≡ true
  rises-remove [] zero h = refl
  rises-remove [] (suc i) h = refl
  rises-remove (x ∷ xs) zero h = tail-rises x xs h
  rises-remove (x ∷ xs) (suc i) h =
      and_from (is_below_first R x (remove xs i)) (rises R (remove xs i))
      (first-remove x xs i (first-below x xs h)) (rises-remove xs i (tail-rises x xs h))

  -- ---- one in the place of another that it ties with

  first-alike : (x y : X) (zs : List X) → R x y ≡ Equal → is_below_first R y zs ≡ true →
      is_below_first R x zs ≡ true
  first-alike x y [] e h = refl
  first-alike x y (z ∷ zs) e h = ap is_lt (o.congr x y z e) ∙ h

  first-set : (y x : X) (zs : List X) (i : ℕ) → i < length zs → R x (get_or zs i x) ≡ Equal →
      is_below_first R y zs ≡ true → is_below_first R y (set zs i x) ≡ true
  first-set y x [] i l e h = absurd (omega arith)
  first-set y x (z ∷ zs) zero l e h = ap is_lt (alike_right o x z y e) ∙ h
  first-set y x (z ∷ zs) (suc i) l e h = h

  pub rises-set : (x : X) (xs : List X) (i : ℕ) → i < length xs → R x (get_or xs i x) ≡ Equal →
      rises R xs ≡ true → rises R (set xs i x) ≡ true
  rises-set x [] i l e h = absurd (omega arith)
  rises-set x (y ∷ ys) zero l e h = and_from (is_below_first R x ys) (rises R ys)
      (first-alike x y ys e (head-rises y ys h)) (tail-rises y ys h)
  rises-set x (y ∷ ys) (suc i) l e h =
      and_from (is_below_first R y (set ys i x)) (rises R (set ys i x))
      (first-set y x ys i (omega arith) e (head-rises y ys h))
      (rises-set x ys i (omega arith) e (tail-rises y ys h))

  -- ---- the order of putting

  pub stands_out : (x : X) (xs : List X) → rises R (put R x xs) ≡ true → (stands R x xs ≡ false) ×
      (rises R xs ≡ true)
  stands_out x [] h = (refl, refl)
  stands_out x (y ∷ ys) h = cases (is_lt (R x y))
      (λ t.
      let g : rises R (x ∷ y ∷ ys) ≡ true = ap (rises R) (sym (put-front x y ys t)) ∙ h in
      (not_tied_below x (y ∷ ys) (first-below x (y ∷ ys) g), tail-rises x (y ∷ ys) g))
      (λ f.
      let g : rises R (y ∷ put R x ys) ≡ true = ap (rises R) (sym (put-past x y ys f)) ∙ h in
      let rest = stands_out x ys (tail-rises y (put R x ys) g) in
      let below = sym (all-put (λ z. is_lt (R y z)) x ys) ∙ first-below y (put R x ys) g in (
        or_from (is_eq (R y x)) (stands R x ys)
            (ap is_eq (is_less (R y x) ((and_parts (is_lt (R y x)) (below_all y ys) below).0)))
            rest.0,
        and_from (is_below_first R y ys) (rises R ys)
            (below_first y ys ((and_parts (is_lt (R y x)) (below_all y ys) below).1)) rest.1,
      ))
    where
      below_first : (y : X) (ys : List X) → below_all y ys ≡ true → is_below_first R y ys ≡ true
      below_first y [] k = refl
      below_first y (z ∷ zs) k = (and_parts (is_lt (R y z)) (below_all y zs) k).0

  pub put_all-rises_first : (xs ys : List X) → rises R (put_all R xs ys) ≡ true → rises R xs ≡ true
  put_all-rises_first xs [] h = h
  put_all-rises_first xs (y ∷ ys) h = (stands_out y xs (put_all-rises_first (put R y xs) ys h)).1

  -- x and y don't tie
  abbrev pub Apart : X → X → Type 0
  Apart x y = is_eq (R x y) ≡ false

  turn : (x y : X) → Apart x y → is_lt (R x y) ≡ false → is_lt (R y x) ≡ true
  turn x y a f = by_order (R x y)
      (λ l. let t = ap is_lt l in cc)
      (λ e. let t = ap is_eq e in cc)
      (λ g. ap is_lt (reversed x y Greater g))

  never_both : (x y : X) → is_lt (R x y) ≡ true → is_lt (R y x) ≡ false
  never_both x y h = ap is_lt (reversed x y Less (is_less (R x y) h))

  pub put_comm : (x y : X) (zs : List X) → Apart x y → put R x (put R y zs) ≡ put R y (put R x zs)
  put_comm x y [] a = cases (is_lt (R x y))
      (λ t. put-front x y [] t ∙ sym (put-past y x [] (never_both x y t)))
      (λ f. put-past x y [] f ∙ sym (put-front y x [] (turn x y a f)))
  put_comm x y (z ∷ zs) a = cases (is_lt (R x z))
      (λ xz. cases (is_lt (R y z))
      (λ yz.
      let l : put R x (put R y (z ∷ zs)) ≡ put R x (y ∷ z ∷ zs) =
      ap (put R x) (put-front y z zs yz) in
      let r : put R y (put R x (z ∷ zs)) ≡ put R y (x ∷ z ∷ zs) =
      ap (put R y) (put-front x z zs xz) in
      l ∙ cases (is_lt (R x y))
      (λ t. put-front x y (z ∷ zs) t ∙ sym (put-past y x (z ∷ zs) (never_both x y t) ∙
      ap (λ (ws : List X). x ∷ ws) (put-front y z zs yz)))
      (λ f. put-past x y (z ∷ zs) f ∙ ap (λ (ws : List X). y ∷ ws) (put-front x z zs xz) ∙
      sym (put-front y x (z ∷ zs) (turn x y a f)))
      ∙ sym r)
      (λ yz.
      let xy : is_lt (R x y) ≡ true = cases {P = is_lt (R x y) ≡ true} (is_lt (R x y)) (λ t. t)
      (λ f. let u = less_trans y x z (turn x y a f) xz in cc) in
      ap (put R x) (put-past y z zs yz) ∙ put-front x z (put R y zs) xz ∙
      sym (ap (put R y) (put-front x z zs xz) ∙ put-past y x (z ∷ zs) (never_both x y xy) ∙
      ap (λ (ws : List X). x ∷ ws) (put-past y z zs yz))))
      (λ xz. cases (is_lt (R y z))
      (λ yz.
      let yx : is_lt (R x y) ≡ false = cases {P = is_lt (R x y) ≡ false} (is_lt (R x y))
      (λ t. let u = less_trans x y z t yz in cc) (λ f. f) in
      ap (put R x) (put-front y z zs yz) ∙ put-past x y (z ∷ zs) yx ∙
      ap (λ (ws : List X). y ∷ ws) (put-past x z zs xz) ∙
      sym (ap (put R y) (put-past x z zs xz) ∙ put-front y z (put R x zs) yz))
      (λ yz.
      ap (put R x) (put-past y z zs yz) ∙ put-past x z (put R y zs) xz ∙
      ap (λ (ws : List X). z ∷ ws) (put_comm x y zs a)
      ∙ sym (ap (put R y) (put-past x z zs xz) ∙ put-past y z (put R x zs) yz)))

  apart_first : (x y : X) (ys : List X) → stands R x (y ∷ ys) ≡ false → Apart y x
  apart_first x y ys h = (or_parts (is_eq (R y x)) (stands R x ys) h).0

  -- one that ties with none of those to be put may be put last
  pub put_all-put : (x : X) (xs ys : List X) → stands R x ys ≡ false →
      put_all R (put R x xs) ys ≡ put R x (put_all R xs ys)
  put_all-put x xs [] h = refl
  put_all-put x xs (y ∷ ys) h =
      ap (λ (zs : List X). put_all R zs ys) (put_comm y x xs
      ((or_parts (is_eq (R y x)) (stands R x ys) h).0))
      ∙ put_all-put x (put R y xs) ys ((or_parts (is_eq (R y x)) (stands R x ys) h).1)

  tied_turn : (x y : X) → is_eq (R x y) ≡ false → is_eq (R y x) ≡ false
  tied_turn x y h = by_order (R y x)
      (λ l. ap is_eq l)
      (λ e. let t = ap is_eq (tied_back o y x e) in cc)
      (λ g. ap is_eq g)

  -- where all rise at the end, the first that was put ties with none of the others
  pub put_all-apart : (x : X) (xs ys : List X) → rises R (put_all R (put R x xs) ys) ≡ true →
      stands R x ys ≡ false
  put_all-apart x xs [] h = refl
  put_all-apart x xs (y ∷ ys) h =
      let first = put_all-rises_first (put R y (put R x xs)) ys h in
      let s = sym (any-put (λ z. is_eq (R z y)) x xs) ∙ (stands_out y (put R x xs) first).0 in
      let a : is_eq (R y x) ≡ false = tied_turn x y ((or_parts (is_eq (R x y)) (stands R y xs) s).0)
      in
      or_from (is_eq (R y x)) (stands R x ys) a
      (put_all-apart x (put R y xs) ys (ap (λ (zs : List X). rises R (put_all R zs ys))
      (put_comm x y xs (tied_turn y x a)) ∙ h))

  -- an element in the middle may be put last
  pub in_order-middle : (xs : List X) (x : X) (ys : List X) → stands R x ys ≡ false →
      in_order R (xs ++ x ∷ ys) ≡ put R x (in_order R (xs ++ ys))
  in_order-middle xs x ys h =
      put_all-append [] xs (x ∷ ys) ∙ put_all-put x (in_order R xs) ys h ∙
      ap (put R x) (sym (put_all-append [] xs ys))

  -- where all rise in the end, none ties with an earlier one
  pub repeat_none-rises : (seen xs : List X) → rises R (put_all R (in_order R seen) xs) ≡ true →
      first_repeat_after R seen xs ≡ None
  repeat_none-rises seen [] h = refl
  repeat_none-rises seen (x ∷ xs) h =
      let first = put_all-rises_first (put R x (in_order R seen)) xs h in
      let s : stands R x seen ≡ false = sym (any-put_all (λ y. is_eq (R y x)) [] seen) ∙
      (stands_out x (in_order R seen) first).0 in
      step_repeat seen x xs s ∙ repeat_none-rises (seen ++ x ∷ []) xs
      (ap (λ (zs : List X). rises R (put_all R zs xs)) (put_all-append [] seen (x ∷ [])) ∙ h)

  -- and where none ties with an earlier one, all rise in the end
  pub rises_from_none : (seen xs : List X) → rises R (in_order R seen) ≡ true →
      first_repeat_after R seen xs ≡ None → rises R (put_all R (in_order R seen) xs) ≡ true
  rises_from_none seen [] h n = h
  rises_from_none seen (x ∷ xs) h n = cases (stands R x seen)
      (λ t. let z : Some (length seen) ≡ None = sym (repeat_here seen x xs t) ∙ n in cc)
      (λ f.
      let s : stands R x (in_order R seen) ≡ false = any-put_all (λ y. is_eq (R y x)) [] seen ∙ f in
      let one : put R x (in_order R seen) ≡ in_order R (seen ++ x ∷ []) =
      sym (put_all-append [] seen (x ∷ [])) in
      let up : rises R (in_order R (seen ++ x ∷ [])) ≡ true = ap (rises R) (sym one) ∙
      rises-put x (in_order R seen) h s in
      ap (λ (zs : List X). rises R (put_all R zs xs)) one ∙
      rises_from_none (seen ++ x ∷ []) xs up (sym (step_repeat seen x xs f) ∙ n))

module _ {X : Type 0} where
  pub all-remove : (p : X → Bool) (xs : List X) (i : ℕ) → list_all p xs ≡ true →
      list_all p (remove xs i) ≡ true
  all-remove p [] zero h = refl
  all-remove p [] (suc i) h = refl
  all-remove p (x ∷ xs) zero h = (and_parts (p x) (list_all p xs) h).1
  all-remove p (x ∷ xs) (suc i) h = and_from (p x) (list_all p (remove xs i))
      ((and_parts (p x) (list_all p xs) h).0)
      (all-remove p xs i ((and_parts (p x) (list_all p xs) h).1))

  -- ---- an edit and the edit that takes it back

  pub remove-insert : (xs : List X) (i : ℕ) (x : X) → i ≤ length xs → remove (insert xs i x) i ≡ xs
  remove-insert xs zero x l = refl
  remove-insert [] (suc i) x l = absurd (omega arith)
  remove-insert (y ∷ ys) (suc i) x l = ap (λ (zs : List X). y ∷ zs)
      (remove-insert ys i x (omega arith))

  pub insert-remove : (xs : List X) (i : ℕ) (x : X) → i < length xs → x ≡ get_or xs i x →
      insert (remove xs i) i x ≡ xs
  insert-remove [] i x l h = absurd (omega arith)
  insert-remove (y ∷ ys) zero x l h = ap (λ z. z ∷ ys) h
  insert-remove (y ∷ ys) (suc i) x l h = ap (λ (zs : List X). y ∷ zs)
      (insert-remove ys i x (omega arith) h)

  pub set-back : (xs : List X) (i : ℕ) (x y : X) → x ≡ get_or xs i x → set (set xs i y) i x ≡ xs
  set-back [] i x y h = refl
  set-back (z ∷ zs) zero x y h = ap (λ w. w ∷ zs) h
  set-back (z ∷ zs) (suc i) x y h = ap (λ (ws : List X). z ∷ ws) (set-back zs i x y h)

  pub all-set : (p : X → Bool) (xs : List X) (i : ℕ) (x : X) → p x ≡ true → list_all p xs ≡ true →
      list_all p (set xs i x) ≡ true
  all-set p [] i x h k = refl
  all-set p (y ∷ ys) zero x h k = and_from (p x) (list_all p ys) h
      ((and_parts (p y) (list_all p ys) k).1)
  all-set p (y ∷ ys) (suc i) x h k = and_from (p y) (list_all p (set ys i x))
      ((and_parts (p y) (list_all p ys) k).0)
      (all-set p ys i x h ((and_parts (p y) (list_all p ys) k).1))
