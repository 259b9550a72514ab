-- The steps of a search by halving.
use Rattle.std.proofs.Common.{ℕ, ◌≡◌, ◌<◌, ◌≤◌, ◌+◌, true, List, sym, ap, ◌∙◌, arith, get_or}
use Rattle.std.proofs.Common.{length, Ordering, Less, Equal, Greater, ⊎_elim}
use Rattle.std.proofs.lemmas.List.{get_or_default}
use Rattle.std.proofs.lemmas.Bool.{cases_eq}
use Rattle.std.specs.Cmp.{IsTotalOrder}
use Rattle.std.specs.Ordering.{ordering_reverse}
use Rattle.std.proofs.lemmas.Cmp.{alike_right, on_total}
use Rattle.row_types.specs.Ordered.{rises}
use Rattle.row_types.proofs.Laws.{rises_before}

module _ {X K : Type 0} (C : K → K → Ordering) (o : IsTotalOrder C) (f : X → K) where
  total : IsTotalOrder (λ (a b : X). C (f a) (f b))
  total = on_total f o

  pub all_less : (xs : List X) (x : K) (y : X) (m : ℕ) →
      rises (λ (a b : X). C (f a) (f b)) xs ≡ true → m < length xs → y ≡ get_or xs m y →
      C (f y) x ≡ Less → (k : ℕ) (d : X) → k < m + 1 → C (f (get_or xs k d)) x ≡ Less
  all_less xs x y m r l e h k d n = ⊎_elim
      (λ same. ap (λ i. C (f (get_or xs i d)) x) same ∙
      ap (λ z. C (f z) x) (get_or_default xs m d y l ∙ sym e) ∙ h)
      (λ other.
      let b : k < m = omega arith in
      let w : k < length xs = omega arith in
      o.trans (f (get_or xs k d)) (f y) x
      (ap (λ z. C (f z) (f y)) (get_or_default xs k d y w) ∙
      ap (λ z. C (f (get_or xs k y)) (f z)) e ∙
      rises_before (λ (a b : X). C (f a) (f b)) total xs k m y r b l) h)
      (cases_eq k m)

  pub all_greater : (xs : List X) (x : K) (y : X) (m : ℕ) → rises (λ (a b : X). C (f a) (f b)) xs ≡
      true → m < length xs → y ≡ get_or xs m y → C (f y) x ≡ Greater
      → (k : ℕ) (d : X) → m ≤ k → k < length xs → C (f (get_or xs k d)) x ≡ Greater
  all_greater xs x y m r l e h k d n w = ⊎_elim
      (λ same. ap (λ i. C (f (get_or xs i d)) x) same ∙
      ap (λ z. C (f z) x) (get_or_default xs m d y l ∙ sym e) ∙ h)
      (λ other.
      let b : m < k = omega arith in
      let under : C x (f y) ≡ Less = o.antisymm x (f y) ∙ ap ordering_reverse h in
      let over : C (f y) (f (get_or xs k d)) ≡ Less =
      ap (λ z. C (f y) (f z)) (get_or_default xs k d y w) ∙
      ap (λ z. C (f z) (f (get_or xs k y))) e ∙
      rises_before (λ (a b : X). C (f a) (f b)) total xs m k y r b w in
      o.antisymm (f (get_or xs k d)) x ∙ ap ordering_reverse
      (o.trans x (f y) (f (get_or xs k d)) under over))
      (cases_eq k m)

  -- an element that ties with what is sought is its place
  pub all_less_tied : (xs : List X) (x : K) (y : X) (m : ℕ) →
      rises (λ (a b : X). C (f a) (f b)) xs ≡ true → m < length xs → y ≡ get_or xs m y →
      C (f y) x ≡ Equal → (k : ℕ) (d : X) → k < m → C (f (get_or xs k d)) x ≡ Less
  all_less_tied xs x y m r l e h k d n =
      let w : k < length xs = omega arith in
      sym (alike_right o (f y) x (f (get_or xs k d)) h)
      ∙ ap (λ z. C (f z) (f y)) (get_or_default xs k d y w) ∙
      ap (λ z. C (f (get_or xs k y)) (f z)) e ∙
      rises_before (λ (a b : X). C (f a) (f b)) total xs k m y r n l
