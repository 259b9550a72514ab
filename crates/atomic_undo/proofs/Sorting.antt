-- Elements in another order, put among old ones: the same comes of them, where none ties with an
-- earlier one.
use Rattle.std.proofs.Common.{ℕ, zero, suc, ◌≡◌, ◌<◌, ◌≤◌, ◌+◌, ◌⊎◌, inl, inr, Bool, true, false}
use Rattle.std.proofs.Common.{List, [], ◌∷◌, ◌++◌, refl, sym, ap, ◌∙◌, subst, arith, cond, not}
use Rattle.std.proofs.Common.{◌||◌, length, get_or, None, Ordering, Less, Equal, Greater, is_lt}
use Rattle.std.proofs.Common.{is_eq, append_assoc}
use Rattle.std.proofs.lemmas.Cmp.{tied_itself}
use Rattle.std.proofs.lemmas.List.{append-nil}
use Rattle.std.proofs.lemmas.List.Sorted.{IsPermutation-refl, IsPermutation-sym}
use Rattle.std.proofs.lemmas.List.Sorted.{IsPermutation-trans, IsPermutation-cons}
use Rattle.std.proofs.lemmas.List.Sorted.{IsPermutation-middle, IsPermutation-append_left}
use Rattle.std.proofs.lemmas.List.Sorted.{IsPermutation-append_right, Contains-permutation}
use Rattle.std.proofs.lemmas.List.Sorted.{sum_by-IsPermutation}
use Rattle.std.proofs.lemmas.List.Sums.{sum_by-cons, sum_by-append, sum_by_push}
use Rattle.std.specs.Cmp.{IsTotalOrder}
use Rattle.std.specs.List.{Contains, list_all, sum_by}
use Rattle.std.specs.List.Sorted.{IsPermutation}
use Rattle.std.specs.Ordering.{ordering_reverse}
use Rattle.row_types.specs.Ordered.{rises, put, put_all, in_order, stands, first_repeat_after}
use Rattle.std.proofs.lemmas.Bool.{and_parts, and_from, or_from, or_parts}
use Rattle.std.proofs.lemmas.List.Folds.{list_any-append, list_all-append}
use Rattle.row_types.proofs.Laws.{is_less, first-below, tail-rises, not_tied_above, repeat_none}
use Rattle.row_types.proofs.Laws.{rises_from_none, in_order-rises, in_order-append}
use Rattle.row_types.proofs.Laws.{first_repeat-append}
use Rattle.atomic_undo.specs.Sorting.{PutAlike}

cases : {P : Type 0} (b : Bool) → (b ≡ true → P) → (b ≡ false → P) → P
cases true t f = t refl
cases false t f = f refl

-- ---- the elements of a list

module _ {X : Type 0} where
  abbrev In : List X → X → Type 0
  In [] z = ⊥
  In (x ∷ xs) z = (x ≡ z) ⊎ In xs z

  in_at : (xs : List X) (z : X) (k : ℕ) → k < length xs → get_or xs k z ≡ z → In xs z
  in_at [] z k l e = absurd (omega arith)
  in_at (x ∷ xs) z zero l e = inl e
  in_at (x ∷ xs) z (suc k) l e = inr (in_at xs z k (omega arith) e)

  contained : (xs : List X) (z : X) → In xs z → Contains xs z
  contained [] z h = absurd h
  contained (x ∷ xs) z (inl e) = (zero, omega arith, e)
  contained (x ∷ xs) z (inr h) = let c = contained xs z h in
      (suc c.0, (let l = c.1 in omega arith), c.2)

  in_permutation : (xs ys : List X) → IsPermutation xs ys → (z : X) → In xs z → In ys z
  in_permutation xs ys p z h = let c = Contains-permutation xs ys z p (contained xs z h) in
      in_at ys z c.0 c.1 c.2

  all_in : (p : X → Bool) (xs : List X) (z : X) → list_all p xs ≡ true → In xs z → p z ≡ true
  all_in p [] z h i = absurd i
  all_in p (x ∷ xs) z h (inl e) = ap p (sym e) ∙ (and_parts (p x) (list_all p xs) h).0
  all_in p (x ∷ xs) z h (inr i) = all_in p xs z ((and_parts (p x) (list_all p xs) h).1) i

  all_from_in : (p : X → Bool) (xs : List X) → ((z : X) → In xs z → p z ≡ true) →
      list_all p xs ≡ true
  all_from_in p [] f = refl
  all_from_in p (x ∷ xs) f = and_from (p x) (list_all p xs) (f x (inl refl))
      (all_from_in p xs (λ z i. f z (inr i)))

  pub all_moved : (p : X → Bool) (xs ys : List X) → IsPermutation xs ys → list_all p xs ≡ true →
      list_all p ys ≡ true
  all_moved p xs ys m h = all_from_in p ys (λ z i. all_in p xs z h
      (in_permutation ys xs (IsPermutation-sym xs ys m) z i))

module _ {X : Type 0} (R : X → X → Ordering) (o : IsTotalOrder R) where
  -- ---- how many tie with one

  abbrev pub ties : X → X → ℕ
  ties x y = cond (is_eq (R y x)) 1 0

  ties_none : (x : X) (xs : List X) → stands R x xs ≡ false → sum_by (ties x) xs ≡ 0
  ties_none x [] h = refl
  ties_none x (y ∷ ys) h =
      let a : ties x y ≡ 0 = ap (λ b. cond b 1 0) ((or_parts (is_eq (R y x)) (stands R x ys) h).0)
      in
      let b = ties_none x ys ((or_parts (is_eq (R y x)) (stands R x ys) h).1) in
      sum_by-cons (ties x) y ys ∙ omega arith

  ties_some : (x : X) (xs : List X) → stands R x xs ≡ true → 1 ≤ sum_by (ties x) xs
  ties_some x [] h = cc
  ties_some x (y ∷ ys) h = cases (is_eq (R y x))
      (λ t. let a : ties x y ≡ 1 = ap (λ b. cond b 1 0) t in let s = sum_by-cons (ties x) y ys in
      omega arith)
      (λ f. let r = ties_some x ys (sym (ap (λ b. b || stands R x ys) f) ∙ h) in
      let s = sum_by-cons (ties x) y ys in omega arith)

  -- what is above one is above all that tie with it
  past : (x y : X) (zs : List X) → R y x ≡ Equal → list_all (λ z. is_lt (R y z)) zs ≡ true →
      stands R x zs ≡ false
  past x y [] e h = refl
  past x y (z ∷ zs) e h =
      let l : R x z ≡ Less = sym (o.congr y x z e) ∙
      is_less (R y z) ((and_parts (is_lt (R y z)) (list_all (λ w. is_lt (R y w)) zs) h).0) in
      or_from (is_eq (R z x)) (stands R x zs) (ap is_eq (o.antisymm z x ∙ ap ordering_reverse l))
      (past x y zs e ((and_parts (is_lt (R y z)) (list_all (λ w. is_lt (R y w)) zs) h).1))

  equal_is : (r : Ordering) → is_eq r ≡ true → r ≡ Equal
  equal_is Less h = cc
  equal_is Equal h = refl
  equal_is Greater h = cc

  -- of those that rise one at most ties with x
  pub ties_once : (x : X) (xs : List X) → rises R xs ≡ true → sum_by (ties x) xs ≤ 1
  ties_once x [] h = omega arith
  ties_once x (y ∷ ys) h =
      let s = sum_by-cons (ties x) y ys in
      cases (is_eq (R y x))
      (λ t. let a : ties x y ≡ 1 = ap (λ b. cond b 1 0) t in
      let n = ties_none x ys (past x y ys (equal_is (R y x) t) (first-below R o y ys h)) in
      omega arith)
      (λ f. let a : ties x y ≡ 0 = ap (λ b. cond b 1 0) f in
      let r = ties_once x ys (tail-rises R o y ys h) in omega arith)

  -- where one at most ties with each, none ties with an earlier one
  pub none_from_ties : (seen xs : List X) → ((x : X) →
      sum_by (ties x) seen + sum_by (ties x) xs ≤ 1) → first_repeat_after R seen xs ≡ None
  none_from_ties seen [] f = refl
  none_from_ties seen (x ∷ xs) f = cases (stands R x seen)
      (λ t. absurd (let a = ties_some x seen t in let b = f x in
      let s = sum_by-cons (ties x) x xs in
      let c : ties x x ≡ 1 = ap (λ r. cond (is_eq r) 1 0) (tied_itself o x) in omega arith))
      (λ n. repeat_none R o seen x xs n ∙ none_from_ties (seen ++ x ∷ []) xs
      (λ y. let b = f y in let s = sum_by-cons (ties y) x xs in
      let p = sum_by_push (ties y) seen x in omega arith))

  -- ---- putting only moves elements

  pub permutation-put : (x : X) (xs : List X) → IsPermutation (x ∷ xs) (put R x xs)
  permutation-put x [] = IsPermutation-refl (x ∷ [])
  permutation-put x (y ∷ ys) = cases (is_lt (R x y))
      (λ t. subst (λ (zs : List X). IsPermutation (x ∷ y ∷ ys) zs)
      (sym (ap (λ b. cond b (x ∷ y ∷ ys) (y ∷ put R x ys)) t))
      (IsPermutation-refl (x ∷ y ∷ ys)))
      (λ f. subst (λ (zs : List X). IsPermutation (x ∷ y ∷ ys) zs)
      (sym (ap (λ b. cond b (x ∷ y ∷ ys) (y ∷ put R x ys)) f))
      (IsPermutation-trans (x ∷ y ∷ ys) (y ∷ x ∷ ys) (y ∷ put R x ys)
      (IsPermutation-middle (x ∷ []) y ys)
      (IsPermutation-cons y (x ∷ ys) (put R x ys) (permutation-put x ys))))

  pub permutation-put_all : (xs ys : List X) → IsPermutation (xs ++ ys) (put_all R xs ys)
  permutation-put_all xs [] = subst (λ (zs : List X). IsPermutation zs xs) (sym (append-nil xs))
      (IsPermutation-refl xs)
  permutation-put_all xs (y ∷ ys) =
      IsPermutation-trans (xs ++ y ∷ ys) (y ∷ (xs ++ ys)) (put_all R (put R y xs) ys)
      (IsPermutation-middle xs y ys)
      (IsPermutation-trans (y ∷ (xs ++ ys)) (put R y xs ++ ys) (put_all R (put R y xs) ys)
      (IsPermutation-append_left ys (y ∷ xs) (put R y xs) (permutation-put y xs))
      (permutation-put_all (put R y xs) ys))

  -- ---- lists that rise and have the same elements are one

  not_itself : (x : X) → is_lt (R x x) ≡ true → ⊥
  not_itself x h = let e = sym (ap is_lt (tied_itself o x)) ∙ h in cc

  one_way : (x y : X) → is_lt (R x y) ≡ true → is_lt (R y x) ≡ true → ⊥
  one_way x y h k =
      let e = sym (ap is_lt (o.antisymm y x ∙ ap ordering_reverse (is_less (R x y) h))) ∙ k in cc

  heads : (x y : X) (xs ys : List X) → rises R (x ∷ xs) ≡ true → rises R (y ∷ ys) ≡ true →
      In (y ∷ ys) x → In (x ∷ xs) y → x ≡ y
  heads x y xs ys h k (inl e) j = sym e
  heads x y xs ys h k (inr i) (inl e) = e
  heads x y xs ys h k (inr i) (inr j) =
      absurd (one_way x y (all_in (λ z. is_lt (R x z)) xs y (first-below R o x xs h) j)
      (all_in (λ z. is_lt (R y z)) ys x (first-below R o y ys k) i))

  after : (x y : X) (xs ys : List X) → rises R (x ∷ xs) ≡ true → x ≡ y → (z : X) → In xs z →
      In (y ∷ ys) z → In ys z
  after x y xs ys h e z i (inl f) =
      absurd (not_itself z (ap (λ w. is_lt (R w z)) (sym (e ∙ f)) ∙
      all_in (λ w. is_lt (R x w)) xs z (first-below R o x xs h) i))
  after x y xs ys h e z i (inr j) = j

  pub one_order : (xs ys : List X) → rises R xs ≡ true → rises R ys ≡ true →
      ((z : X) → In xs z → In ys z) → ((z : X) → In ys z → In xs z) → xs ≡ ys
  one_order [] [] h k f g = refl
  one_order [] (y ∷ ys) h k f g = absurd (g y (inl refl))
  one_order (x ∷ xs) [] h k f g = absurd (f x (inl refl))
  one_order (x ∷ xs) (y ∷ ys) h k f g =
      let e : x ≡ y = heads x y xs ys h k (f x (inl refl)) (g y (inl refl)) in
      ap (λ w. w ∷ xs) e
      ∙ ap (λ (ws : List X). y ∷ ws) (one_order xs ys (tail-rises R o x xs h)
      (tail-rises R o y ys k) (λ z i. after x y xs ys h e z i (f z (inr i)))
      (λ z i. after y x ys xs k (sym e) z i (g z (inr i))))

  pub risen_alike : (xs ys : List X) → rises R xs ≡ true → rises R ys ≡ true → IsPermutation xs ys →
      xs ≡ ys
  risen_alike xs ys h k p = one_order xs ys h k (in_permutation xs ys p)
      (in_permutation ys xs (IsPermutation-sym xs ys p))

  -- ---- new ones in two orders

  module _ (old : List X) (r : rises R old ≡ true) where
    pub rises_put : (xs : List X) → first_repeat_after R old xs ≡ None →
        rises R (put_all R old xs) ≡ true
    rises_put xs n =
        let i : in_order R old ≡ old = in_order-rises R o old r in
        ap (λ (zs : List X). rises R (put_all R zs xs)) (sym i) ∙
        rises_from_none R o old xs (ap (rises R) i ∙ r) n

    put_alike : (xs ys : List X) → IsPermutation xs ys → first_repeat_after R old xs ≡ None →
        (first_repeat_after R old ys ≡ None) × (put_all R old xs ≡ put_all R old ys)
    put_alike xs ys p n =
        let up = rises_put xs n in
        let first = permutation-put_all old xs in
        let second = permutation-put_all old ys in
        let moved : IsPermutation (put_all R old xs) (put_all R old ys) =
        IsPermutation-trans (put_all R old xs) (old ++ ys) (put_all R old ys)
        (IsPermutation-trans (put_all R old xs) (old ++ xs) (old ++ ys)
        (IsPermutation-sym (old ++ xs) (put_all R old xs) first)
        (IsPermutation-append_right old xs ys p)) second in
        let none : first_repeat_after R old ys ≡ None = none_from_ties old ys
        (λ x. let a = ties_once x (put_all R old xs) up in
        let b = sum_by-IsPermutation (ties x) (put_all R old xs) (put_all R old ys) moved in
        let c = sum_by-IsPermutation (ties x) (old ++ ys) (put_all R old ys) second in
        let d = sum_by-append (ties x) old ys in omega arith) in
        (none, risen_alike (put_all R old xs) (put_all R old ys) up (rises_put ys none) moved)

    pub alike : (xs ys : List X) → IsPermutation xs ys → first_repeat_after R old xs ≡ None →
        PutAlike R old xs ys
    alike xs ys p n =
        let a = put_alike xs ys p n in (
          first_repeat-append R o old xs r ∙ n ∙ sym (first_repeat-append R o old ys r ∙ a.0),
          λ _. in_order-append R o old xs r ∙ a.1 ∙ sym (in_order-append R o old ys r),
        )

    -- in a list that rises, what stands after is above all before
    pub after-above : (xs : List X) (x : X) (ys : List X) → rises R (xs ++ x ∷ ys) ≡ true →
        list_all (λ y. is_lt (R y x)) xs ≡ true
    after-above [] x ys h = refl
    after-above (z ∷ zs) x ys h =
        let below = λ (y : X). is_lt (R z y) in
        let b = sym (list_all-append below zs (x ∷ ys)) ∙ first-below R o z (zs ++ x ∷ ys) h in
        and_from (is_lt (R z x)) (list_all (λ y. is_lt (R y x)) zs)
        (and_parts (is_lt (R z x)) (list_all below ys)
        (and_parts (list_all below zs) (list_all below (x ∷ ys)) b).1).0
        (after-above zs x ys (tail-rises R o z (zs ++ x ∷ ys) h))

    -- those that rise, none of which stands among the old ones
    pub none_among : (front xs : List X) → rises R (front ++ xs) ≡ true →
        list_all (λ x. not (stands R x old)) xs ≡ true →
        first_repeat_after R (old ++ front) xs ≡ None
    none_among front [] h k = refl
    none_among front (x ∷ xs) h k =
        let n : stands R x old ≡ false = not_false (stands R x old)
        ((and_parts (not (stands R x old)) (list_all (λ y. not (stands R y old)) xs) k).0) in
        let s : stands R x (old ++ front) ≡ false =
        list_any-append (λ y. is_eq (R y x)) old front ∙
        or_from (stands R x old) (stands R x front) n
        (not_tied_above R o x front (after-above front x xs h)) in
        repeat_none R o (old ++ front) x xs s
        ∙ ap (λ (zs : List X). first_repeat_after R zs xs) (append_assoc old front (x ∷ []))
        ∙ none_among (front ++ x ∷ []) xs (ap (rises R) (append_assoc front (x ∷ []) xs) ∙ h)
        ((and_parts (not (stands R x old)) (list_all (λ y. not (stands R y old)) xs) k).1)
      where
        not_false : (b : Bool) → not b ≡ true → b ≡ false
        not_false true h = cc
        not_false false h = refl
