-- The order by one comparison and then by another is that by the second, and then by the first: a
-- stable sort by columns may begin at the last. Nothing here knows of rows.
use Rattle.std.proofs.Common.{◌≡◌, ◌+◌, Bool, true, false, List, [], ◌∷◌, ◌++◌, refl, sym, ap, ◌∙◌}
use Rattle.std.proofs.Common.{subst, cond, not, ◌&&◌, get_or, filter, Ordering, Less, Equal}
use Rattle.std.proofs.Common.{Greater, is_lt}
use Rattle.std.proofs.lemmas.Bool.{and_from}
use Rattle.std.proofs.lemmas.Cmp.{then_total}
use Rattle.std.proofs.lemmas.List.{append-nil}
use Rattle.std.proofs.lemmas.List.Sorted.{ties_stay_sorted, IsPermutation-refl, IsPermutation-trans}
use Rattle.std.proofs.lemmas.List.Sorted.{IsPermutation-cons, IsPermutation-middle}
use Rattle.std.proofs.lemmas.List.Sorted.{IsPermutation-append_left}
use Rattle.std.specs.Cmp.{IsTotalOrder}
use Rattle.std.specs.List.Sorted.{IsPermutation, IsSortedBy, IsStableBy, ties}
use Rattle.std.specs.Ordering.{ordering_then, ordering_reverse}
use Rattle.row_types.specs.Ordered.{put, put_all, in_order}
use Rattle.row_sort.proofs.Stable.{cases, kept, left_out, below, weak, in_order_sorted}
use Rattle.row_sort.proofs.Stable.{in_order_stable, stable_is_in_order}

-- ---- what two tests keep

and_swap : (b c : Bool) → (b && c) ≡ (c && b)
and_swap true true = refl
and_swap true false = refl
and_swap false true = refl
and_swap false false = refl

filter_both : {X : Type 0} (p q s : X → Bool) → ((x : X) → s x ≡ (p x && q x)) → (xs : List X) →
    filter s xs ≡ filter q (filter p xs)
filter_both p q s h [] = refl
filter_both p q s h (x ∷ xs) = cases (p x)
    (λ t. cases (q x)
    (λ u. kept s x xs (h x ∙ and_from (p x) (q x) t u) ∙
    ap (λ zs. x ∷ zs) (filter_both p q s h xs) ∙
    sym (ap (filter q) (kept p x xs t) ∙ kept q x (filter p xs) u))
    (λ g. left_out s x xs (h x ∙ ap (λ b. b && q x) t ∙ g) ∙ filter_both p q s h xs ∙
    sym (ap (filter q) (kept p x xs t) ∙ left_out q x (filter p xs) g)))
    (λ f. left_out s x xs (h x ∙ ap (λ b. b && q x) f) ∙ filter_both p q s h xs ∙
    sym (ap (filter q) (left_out p x xs f)))

-- ---- one comparison and then another

not_less : (o p : Ordering) → is_lt o ≡ false → (o ≡ Equal → is_lt p ≡ false) →
    is_lt (ordering_then o p) ≡ false
not_less Less p h f = cc
not_less Equal p h f = f refl
not_less Greater p h f = refl

tie_of_both : (o p : Ordering) →
    (not (is_lt (ordering_then o p)) && not (is_lt
    (ordering_then (ordering_reverse o) (ordering_reverse p)))) ≡
    ((not (is_lt o) && not (is_lt (ordering_reverse o))) &&
    (not (is_lt p) && not (is_lt (ordering_reverse p))))
tie_of_both Less Less = refl
tie_of_both Less Equal = refl
tie_of_both Less Greater = refl
tie_of_both Equal Less = refl
tie_of_both Equal Equal = refl
tie_of_both Equal Greater = refl
tie_of_both Greater Less = refl
tie_of_both Greater Equal = refl
tie_of_both Greater Greater = refl

module _ {X : Type 0} (A B : X → X → Ordering) (a : IsTotalOrder A) (b : IsTotalOrder B) where
  abbrev both : X → X → Ordering
  both x y = ordering_then (A x y) (B x y)

  both_total : IsTotalOrder both
  both_total = then_total a b

  ties_by_both : (x y : X) → ties (below both both_total) x y ≡
      (ties (below A a) x y && ties (below B b) x y)
  ties_by_both x y =
      ap (λ o. not (is_lt (both x y)) && not (is_lt (ordering_then o (B y x)))) (a.antisymm y x)
      ∙ ap (λ p. not (is_lt (both x y)) && not (is_lt (ordering_then (ordering_reverse (A x y)) p)))
      (b.antisymm y x)
      ∙ tie_of_both (A x y) (B x y)
      ∙ ap (λ o. (not (is_lt (A x y)) && not (is_lt o)) &&
      (not (is_lt (B x y)) && not (is_lt (ordering_reverse (B x y))))) (sym (a.antisymm y x))
      ∙ ap (λ p. (not (is_lt (A x y)) && not (is_lt (A y x))) &&
      (not (is_lt (B x y)) && not (is_lt p))) (sym (b.antisymm y x))

  tied_when : (x y : X) → A y x ≡ Equal → ties (below A a) x y ≡ true
  tied_when x y e =
      ap (λ o. not (is_lt o) && not (is_lt (A y x))) (a.antisymm x y ∙ ap ordering_reverse e) ∙
      ap (λ o. not (is_lt o)) e

  passes_sorted : (xs : List X) → IsSortedBy (below both both_total) (in_order A (in_order B xs))
  passes_sorted xs k d l m =
      let zs = in_order B xs in
      let ys = in_order A zs in
      let x = get_or ys k d in
      let y = get_or ys (k + 1) d in
      not_less (A y x) (B y x) (in_order_sorted A a zs k d l m)
      (λ e. ties_stay_sorted (below B b) (below A a) (weak B b) (weak A a) zs ys
      (in_order_sorted B b xs) (in_order_stable A a zs) k d m (tied_when x y e))

  passes_stable : (xs : List X) → IsStableBy (below both both_total) xs (in_order A (in_order B xs))
  passes_stable xs x =
      let p = ties (below A a) x in
      let q = ties (below B b) x in
      let s = ties (below both both_total) x in
      let zs = in_order B xs in
      let swapped : (y : X) → s y ≡ (q y && p y) = λ y. ties_by_both x y ∙ and_swap (p y) (q y) in
      filter_both p q s (ties_by_both x) (in_order A zs)
      ∙ ap (filter q) (in_order_stable A a zs x)
      ∙ sym (filter_both p q s (ties_by_both x) zs)
      ∙ filter_both q p s swapped zs
      ∙ ap (filter p) (in_order_stable B b xs x)
      ∙ sym (filter_both q p s swapped xs)

  pub in_order-passes : (xs : List X) → in_order A (in_order B xs) ≡ in_order
      (λ x y. ordering_then (A x y) (B x y)) xs
  in_order-passes xs = stable_is_in_order both both_total xs (in_order A (in_order B xs))
      (passes_sorted xs) (passes_stable xs)

-- ---- insertion only moves elements

module _ {X : Type 0} (R : X → X → Ordering) where
  permutation-put : (x : X) (xs : List X) → IsPermutation (x ∷ xs) (put R x xs)
  permutation-put x [] = IsPermutation-refl (x ∷ [])
  permutation-put x (y ∷ ys) = cases (is_lt (R x y))
      (λ t. subst (λ (zs : List X). IsPermutation (x ∷ y ∷ ys) zs)
      (sym (ap (λ b. cond b (x ∷ y ∷ ys) (y ∷ put R x ys)) t))
      (IsPermutation-refl (x ∷ y ∷ ys)))
      (λ f. subst (λ (zs : List X). IsPermutation (x ∷ y ∷ ys) zs)
      (sym (ap (λ b. cond b (x ∷ y ∷ ys) (y ∷ put R x ys)) f))
      (IsPermutation-trans (x ∷ y ∷ ys) (y ∷ x ∷ ys) (y ∷ put R x ys)
      (IsPermutation-middle (x ∷ []) y ys)
      (IsPermutation-cons y (x ∷ ys) (put R x ys) (permutation-put x ys))))

  permutation-put_all : (xs ys : List X) → IsPermutation (xs ++ ys) (put_all R xs ys)
  permutation-put_all xs [] = subst (λ (zs : List X). IsPermutation zs xs) (sym (append-nil xs))
      (IsPermutation-refl xs)
  permutation-put_all xs (y ∷ ys) =
      IsPermutation-trans (xs ++ y ∷ ys) (y ∷ (xs ++ ys)) (put_all R (put R y xs) ys)
      (IsPermutation-middle xs y ys)
      (IsPermutation-trans (y ∷ (xs ++ ys)) (put R y xs ++ ys) (put_all R (put R y xs) ys)
      (IsPermutation-append_left ys (y ∷ xs) (put R y xs) (permutation-put y xs))
      (permutation-put_all (put R y xs) ys))

  pub in_order-moves : (xs : List X) → IsPermutation xs (in_order R xs)
  in_order-moves xs = permutation-put_all [] xs

-- where all tie, nothing moves
pub in_order-tied : {X : Type 0} (xs : List X) → in_order (λ x y. Equal) xs ≡ xs
in_order-tied {X} xs = sym (stable_is_in_order (λ x y. Equal)
    (record { antisymm = λ x y. refl; trans = λ x y z h k. h; congr = λ x y z h. refl }) xs xs
    (λ k d l m. refl) (λ x. refl))
