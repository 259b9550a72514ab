-- A stable sort gives the list that insertion gives. Nothing here knows of rows.
use Rattle.std.proofs.Common.{ℕ, zero, suc, ◌+◌, ◌≡◌, ◌<◌, ◌≤◌, Bool, true, false, List, [], ◌∷◌}
use Rattle.std.proofs.Common.{◌++◌, refl, sym, ap, ◌∙◌, arith, cond, not, ◌&&◌, length, get_or}
use Rattle.std.proofs.Common.{drop, filter, Ordering, is_lt, append_assoc}
use Rattle.std.proofs.lemmas.Bool.{and_parts, and_from}
use Rattle.std.proofs.lemmas.List.{append-nil}
use Rattle.std.proofs.lemmas.List.Elements.{filter-append}
use Rattle.std.proofs.lemmas.List.Sorted.{ranks_by, sorted_far}
use Rattle.std.specs.Cmp.{IsTotalOrder, IsStrictWeakOrder}
use Rattle.std.specs.List.{list_all}
use Rattle.std.specs.List.Sorted.{IsSortedBy, IsStableBy, ties}
use Rattle.row_types.specs.Ordered.{put, put_all, in_order}
use Rattle.row_types.proofs.Laws.{all-put}

pub cases : {P : Type 0} (b : Bool) → (b ≡ true → P) → (b ≡ false → P) → P
cases true t f = t refl
cases false t f = f refl

pub not_true : (b : Bool) → not b ≡ true → b ≡ false
not_true true h = cc
not_true false h = refl

-- ---- what a test keeps

module _ {X : Type 0} where
  pub kept : (p : X → Bool) (x : X) (xs : List X) → p x ≡ true → filter p (x ∷ xs) ≡ x ∷ filter p xs
  kept p x xs h = ap (λ b. cond b (x ∷ filter p xs) (filter p xs)) h

  pub left_out : (p : X → Bool) (x : X) (xs : List X) → p x ≡ false →
      filter p (x ∷ xs) ≡ filter p xs
  left_out p x xs h = ap (λ b. cond b (x ∷ filter p xs) (filter p xs)) h

  -- what all pass, the first that is kept passes
  first_passes : (p q : X → Bool) (xs : List X) (y : X) (ys : List X) → list_all p xs ≡ true →
      filter q xs ≡ y ∷ ys → p y ≡ true
  first_passes p q [] y ys h k = cc
  first_passes p q (x ∷ xs) y ys h k = cases (q x)
      (λ t. let e : x ≡ y = ap (λ (zs : List X). get_or zs 0 x) (sym (kept q x xs t) ∙ k) in
      ap p (sym e) ∙ (and_parts (p x) (list_all p xs) h).0)
      (λ f. first_passes p q xs y ys ((and_parts (p x) (list_all p xs) h).1)
      (sym (left_out q x xs f) ∙ k))

  none_kept : (q : X → Bool) (xs : List X) → list_all (λ x. not (q x)) xs ≡ true → filter q xs ≡ []
  none_kept q [] h = refl
  none_kept q (x ∷ xs) h =
      let parts = and_parts (not (q x)) (list_all (λ x. not (q x)) xs) h in
      left_out q x xs (not_true (q x) parts.0) ∙ none_kept q xs parts.1

  all_more : (p q : X → Bool) → ((x : X) → p x ≡ true → q x ≡ true) → (xs : List X) →
      list_all p xs ≡ true → list_all q xs ≡ true
  all_more p q f [] h = refl
  all_more p q f (x ∷ xs) h =
      let parts = and_parts (p x) (list_all p xs) h in
      and_from (q x) (list_all q xs) (f x parts.0) (all_more p q f xs parts.1)

  all_at : (p : X → Bool) (xs : List X) → ((k : ℕ) (d : X) → k < length xs →
      p (get_or xs k d) ≡ true) → list_all p xs ≡ true
  all_at p [] f = refl
  all_at p (x ∷ xs) f = and_from (p x) (list_all p xs) (f 0 x (omega arith))
      (all_at p xs (λ k d l. f (suc k) d (omega arith)))

module _ {X : Type 0} (R : X → X → Ordering) (o : IsTotalOrder R) where
  abbrev pub below : X → X → Bool
  below x y = is_lt (R x y)

  pub weak : IsStrictWeakOrder below
  weak = ranks_by o (λ x. x)

  never_below_itself : (x : X) → below x x ≡ false
  never_below_itself x = cases (below x x) (λ t. weak.one_way x x t) (λ f. f)

  tied : (x : X) → ties below x x ≡ true
  tied x = ap (λ b. not b && not b) (never_below_itself x)

  -- what is not below z is above all that z is above
  above_too : (x y z : X) → below x y ≡ true → below z y ≡ false → below x z ≡ true
  above_too x y z h k = cases (below x z) (λ t. t) (λ f. let u = weak.chain x z y f k in cc)

  -- ---- lists that don't fall

  -- none of these is below x
  abbrev none_below : X → List X → Bool
  none_below x ys = list_all (λ y. not (below y x)) ys

  abbrev climbs : List X → Bool
  climbs [] = true
  climbs (x ∷ xs) = none_below x xs && climbs xs

  climbs_from : (xs : List X) → ((i j : ℕ) (d : X) → i ≤ j → j < length xs →
      below (get_or xs j d) (get_or xs i d) ≡ false) → climbs xs ≡ true
  climbs_from [] f = refl
  climbs_from (x ∷ xs) f =
      and_from (none_below x xs) (climbs xs)
      (all_at (λ y. not (below y x)) xs (λ k d l.
      ap not (f 0 (suc k) d (omega arith) (omega arith))))
      (climbs_from xs (λ i j d l m. f (suc i) (suc j) d (omega arith) (omega arith)))

  -- ---- one such list at most has these ties

  none_below_all : (y : X) (ys : List X) → climbs (y ∷ ys) ≡ true → none_below y (y ∷ ys) ≡ true
  none_below_all y ys h = and_from (not (below y y)) (none_below y ys)
      (ap not (never_below_itself y)) ((and_parts (none_below y ys) (climbs ys) h).0)

  not_below_first : (y z : X) (ys zs : List X) → climbs (y ∷ ys) ≡ true →
      filter (ties below z) (y ∷ ys) ≡ filter (ties below z) (z ∷ zs) → below z y ≡ false
  not_below_first y z ys zs h e =
      not_true (below z y) (first_passes (λ x. not (below x y)) (ties below z) (y ∷ ys) z
      (filter (ties below z) zs) (none_below_all y ys h) (e ∙ kept (ties below z) z zs (tied z)))

  rest_alike : (y : X) (ys zs : List X) (x : X) → filter (ties below x) (y ∷ ys) ≡ filter
      (ties below x) (y ∷ zs) → filter (ties below x) ys ≡ filter (ties below x) zs
  rest_alike y ys zs x e = cases (ties below x y)
      (λ t. ap (λ (xs : List X). drop 1 xs) (sym (kept (ties below x) y ys t) ∙ e ∙
      kept (ties below x) y zs t))
      (λ f. sym (left_out (ties below x) y ys f) ∙ e ∙ left_out (ties below x) y zs f)

  same_ties : (ys zs : List X) → climbs ys ≡ true → climbs zs ≡ true →
      ((x : X) → filter (ties below x) ys ≡ filter (ties below x) zs) → ys ≡ zs
  same_ties [] [] h k e = refl
  same_ties [] (z ∷ zs) h k e = let f = e z ∙ kept (ties below z) z zs (tied z) in cc
  same_ties (y ∷ ys) [] h k e = let f = sym (kept (ties below y) y ys (tied y)) ∙ e y in cc
  same_ties (y ∷ ys) (z ∷ zs) h k e =
      let t : ties below y z ≡ true =
      and_from (not (below y z)) (not (below z y))
      (ap not (not_below_first z y zs ys k (sym (e y))))
      (ap not (not_below_first y z ys zs h (e z))) in
      let heads : y ∷ filter (ties below y) ys ≡ z ∷ filter (ties below y) zs =
      sym (kept (ties below y) y ys (tied y)) ∙ e y ∙ kept (ties below y) z zs t in
      let one : y ≡ z = ap (λ (xs : List X). get_or xs 0 y) heads in
      let alike : (x : X) → filter (ties below x) (y ∷ ys) ≡ filter (ties below x) (y ∷ zs) =
      λ x. e x ∙ ap (λ (w : X). filter (ties below x) (w ∷ zs)) (sym one) in
      ap (λ (w : X). w ∷ ys) one
      ∙ ap (λ (xs : List X). z ∷ xs) (same_ties ys zs
      ((and_parts (none_below y ys) (climbs ys) h).1)
      ((and_parts (none_below z zs) (climbs zs) k).1) (λ x. rest_alike y ys zs x (alike x)))

  -- ---- insertion gives such a list

  put_front : (x y : X) (ys : List X) → below x y ≡ true → put R x (y ∷ ys) ≡ x ∷ y ∷ ys
  put_front x y ys h = ap (λ b. cond b (x ∷ y ∷ ys) (y ∷ put R x ys)) h

  put_past : (x y : X) (ys : List X) → below x y ≡ false → put R x (y ∷ ys) ≡ y ∷ put R x ys
  put_past x y ys h = ap (λ b. cond b (x ∷ y ∷ ys) (y ∷ put R x ys)) h

  none_below_lower : (x y : X) (ys : List X) → below x y ≡ true → none_below y ys ≡ true →
      none_below x ys ≡ true
  none_below_lower x y ys h k = all_more (λ z. not (below z y)) (λ z. not (below z x))
      (λ z n. ap not (weak.chain z y x (not_true (below z y) n) (weak.one_way x y h))) ys k

  climbs-put : (x : X) (zs : List X) → climbs zs ≡ true → climbs (put R x zs) ≡ true
  climbs-put x [] h = refl
  climbs-put x (y ∷ ys) h =
      let parts = and_parts (none_below y ys) (climbs ys) h in
      cases (below x y)
      (λ t. ap climbs (put_front x y ys t)
      ∙ and_from (none_below x (y ∷ ys)) (climbs (y ∷ ys))
      (and_from (not (below y x)) (none_below x ys) (ap not (weak.one_way x y t))
      (none_below_lower x y ys t parts.0)) h)
      (λ f. ap climbs (put_past x y ys f)
      ∙ and_from (none_below y (put R x ys)) (climbs (put R x ys))
      (all-put R o (λ z. not (below z y)) x ys ∙ and_from (not (below x y)) (none_below y ys)
      (ap not f) parts.0) (climbs-put x ys parts.1))

  climbs-put_all : (zs xs : List X) → climbs zs ≡ true → climbs (put_all R zs xs) ≡ true
  climbs-put_all zs [] h = h
  climbs-put_all zs (x ∷ xs) h = climbs-put_all (put R x zs) xs (climbs-put x zs h)

  -- what is above one ties with none that ties with it
  apart : (w x y : X) (zs : List X) → ties below w x ≡ true → below x y ≡ true →
      none_below y zs ≡ true → list_all (λ z. not (ties below w z)) zs ≡ true
  apart w x y zs t h k = all_more (λ z. not (below z y)) (λ z. not (ties below w z)) one zs k
    where
      one : (z : X) → not (below z y) ≡ true → not (ties below w z) ≡ true
      one z n = cases (ties below w z)
          (λ u. let a = weak.chain x w z (not_true (below x w) ((and_parts (not (below w x)) (not (below x w)) t).1)) (not_true (below w z) ((and_parts (not (below w z)) (not (below z w)) u).0)) in
          let b = above_too x y z h (not_true (below z y) n) in cc)
          (λ f. ap not f)

  -- ---- insertion keeps the order of what ties

  put_among : (w x y : X) (ys : List X) → climbs (y ∷ ys) ≡ true → below x y ≡ true →
      filter (ties below w) (x ∷ y ∷ ys) ≡ filter (ties below w) ((y ∷ ys) ++ x ∷ [])
  put_among w x y ys h l =
      let p = ties below w in
      let both : filter p ((y ∷ ys) ++ x ∷ []) ≡ filter p (y ∷ ys) ++ filter p (x ∷ []) =
      filter-append p (y ∷ ys) (x ∷ []) in
      cases (p x)
      (λ t. let none : filter p (y ∷ ys) ≡ [] = none_kept p (y ∷ ys) (apart w x y (y ∷ ys) t l (none_below_all y ys h)) in
      kept p x (y ∷ ys) t ∙ ap (λ (zs : List X). x ∷ zs) none ∙
      sym (both ∙ ap (λ (zs : List X). zs ++ filter p (x ∷ [])) none ∙ kept p x [] t))
      (λ f. left_out p x (y ∷ ys) f ∙ sym (both ∙ ap (λ (zs : List X). filter p (y ∷ ys) ++ zs)
      (left_out p x [] f) ∙ append-nil (filter p (y ∷ ys))))

  filter-put : (w x : X) (zs : List X) → climbs zs ≡ true →
      filter (ties below w) (put R x zs) ≡ filter (ties below w) (zs ++ x ∷ [])
  filter-put w x [] h = refl
  filter-put w x (y ∷ ys) h = cases (below x y)
      (λ t. ap (filter (ties below w)) (put_front x y ys t) ∙ put_among w x y ys h t)
      (λ f. ap (filter (ties below w)) (put_past x y ys f) ∙
      ap (λ (zs : List X). cond (ties below w y) (y ∷ zs) zs)
      (filter-put w x ys ((and_parts (none_below y ys) (climbs ys) h).1)))

  filter-put_all : (w : X) (zs xs : List X) → climbs zs ≡ true →
      filter (ties below w) (put_all R zs xs) ≡ filter (ties below w) (zs ++ xs)
  filter-put_all w zs [] h = ap (filter (ties below w)) (sym (append-nil zs))
  filter-put_all w zs (x ∷ xs) h =
      let p = ties below w in
      filter-put_all w (put R x zs) xs (climbs-put x zs h)
      ∙ filter-append p (put R x zs) xs
      ∙ ap (λ (ys : List X). ys ++ filter p xs) (filter-put w x zs h)
      ∙ sym (filter-append p (zs ++ x ∷ []) xs)
      ∙ ap (filter p) (append_assoc zs (x ∷ []) xs)

  -- a list that is sorted, with ties in the order of another, is the other by insertion
  pub stable_is_in_order : (xs ys : List X) → IsSortedBy below ys → IsStableBy below xs ys →
      ys ≡ in_order R xs
  stable_is_in_order xs ys up stable =
      same_ties ys (in_order R xs) (climbs_from ys (sorted_far below weak ys up))
      (climbs-put_all [] xs refl) (λ x. stable x ∙ sym (filter-put_all x [] xs refl))

  -- what insertion gives is sorted, and ties keep their order
  climbs_at : (xs : List X) → climbs xs ≡ true → (k : ℕ) (d : X) → suc k < length xs →
      below (get_or xs (suc k) d) (get_or xs k d) ≡ false
  climbs_at [] h k d l = absurd (omega arith)
  climbs_at (x ∷ []) h k d l = absurd (omega arith)
  climbs_at (x ∷ y ∷ ys) h zero d l = not_true (below y x)
      ((and_parts (not (below y x)) (none_below x ys)
      ((and_parts (none_below x (y ∷ ys)) (climbs (y ∷ ys)) h).0)).0)
  climbs_at (x ∷ y ∷ ys) h (suc k) d l = climbs_at (y ∷ ys)
      ((and_parts (none_below x (y ∷ ys)) (climbs (y ∷ ys)) h).1) k d (omega arith)

  pub in_order_sorted : (xs : List X) → IsSortedBy below (in_order R xs)
  in_order_sorted xs k d l m =
      let next : suc k ≡ k + 1 = omega arith in
      ap (λ (n : ℕ). below (get_or (in_order R xs) n d) (get_or (in_order R xs) k d)) (sym next)
      ∙ climbs_at (in_order R xs) (climbs-put_all [] xs refl) k d (omega arith)

  pub in_order_stable : (xs : List X) → IsStableBy below xs (in_order R xs)
  in_order_stable xs x = filter-put_all x [] xs refl
