-- Places in lists that grow, and tests of all of a list.
use Rattle.std.proofs.Common.{◌≡◌, refl, ap, ap₂, ◌∙◌, arith, ◌⊎◌, inl, inr, ℕ, ◌+◌, zero, suc}
use Rattle.std.proofs.Common.{Bool, true, false, not, ◌&&◌, List, [], ◌∷◌, ◌++◌, map, length}
use Rattle.std.proofs.Common.{Option, Some, None}
use Rattle.std.specs.Prelude.{nat_eq, slice_get, is_some}
use Rattle.std.specs.List.{list_all}
use Rattle.std.proofs.lemmas.Bool.Decides.{nat_tests}

-- ---- tests

pub both-true : (a b : Bool) → a ≡ true → b ≡ true → (a && b) ≡ true
both-true a b p q = ap₂ (λ (x y : Bool). x && y) p q

pub left-true : (a b : Bool) → (a && b) ≡ true → a ≡ true
left-true true b p = refl
left-true false b p = absurd cc

pub right-true : (a b : Bool) → (a && b) ≡ true → b ≡ true
right-true true b p = p
right-true false b p = absurd cc

pub not-false : (b : Bool) → not b ≡ false → b ≡ true
not-false true p = refl
not-false false p = absurd cc

pub equals-itself : (n m : ℕ) → n ≡ m → nat_eq n m ≡ true
equals-itself n m p = grind (arith, nat_tests)

pub all-after : {A : Type 0} (f : A → Bool) (xs : List A) (x : A) → list_all f xs ≡ true →
    f x ≡ true → list_all f (xs ++ x ∷ []) ≡ true
all-after f [] x p q = both-true (f x) true q refl
all-after f (y ∷ xs) x p q = both-true (f y) (list_all f (xs ++ x ∷ []))
    (left-true (f y) (list_all f xs) p) (all-after f xs x (right-true (f y) (list_all f xs) p) q)

pub map-after : {A B : Type 0} (f : A → B) (xs : List A) (x : A) →
    map f (xs ++ x ∷ []) ≡ map f xs ++ f x ∷ []
map-after f [] x = refl
map-after f (y ∷ xs) x = ap (λ z. f y ∷ z) (map-after f xs x)

pub append-nil : {A : Type 0} (xs : List A) → xs ++ [] ≡ xs
append-nil [] = refl
append-nil (x ∷ xs) = ap (λ z. x ∷ z) (append-nil xs)

-- ---- what is there

pub there : {A : Type 0} (o : Option A) → is_some o ≡ true → (x : A) × (o ≡ Some x)
there None p = absurd cc
there (Some x) p = (x, refl)

pub same-some : {A : Type 0} (x y : A) → Some x ≡ Some y → x ≡ y
same-some x y p = cc

pub is-there : {A : Type 0} (o : Option A) (x : A) → o ≡ Some x → is_some o ≡ true
is-there o x p = ap is_some p

-- ---- places

pub slice-front : {A : Type 0} (xs ys : List A) (k : ℕ) (x : A) → slice_get xs k ≡ Some x →
    slice_get (xs ++ ys) k ≡ Some x
slice-front [] ys k x p = absurd cc
slice-front (y ∷ xs) ys zero x p = p
slice-front (y ∷ xs) ys (suc k) x p = slice-front xs ys k x p

pub slice-back : {A : Type 0} (xs ys : List A) (k : ℕ) →
    slice_get (xs ++ ys) (length xs + k) ≡ slice_get ys k
slice-back [] ys k = let same : 0 + k ≡ k = omega arith in ap (slice_get ys) same
slice-back (x ∷ xs) ys k = let same : suc (length xs) + k ≡ suc (length xs + k) = omega arith in
    ap (slice_get (x ∷ xs ++ ys)) same ∙ slice-back xs ys k

pub slice-last : {A : Type 0} (xs : List A) (y : A) → slice_get (xs ++ y ∷ []) (length xs) ≡ Some y
slice-last [] y = refl
slice-last (x ∷ xs) y = slice-last xs y

pub slice-either : {A : Type 0} (xs : List A) (y : A) (k : ℕ) (x : A) →
    slice_get (xs ++ y ∷ []) k ≡ Some x → (slice_get xs k ≡ Some x) ⊎ ((k ≡ length xs) × (x ≡ y))
slice-either [] y zero x p = inr (refl, cc)
slice-either [] y (suc k) x p = absurd cc
slice-either (z ∷ xs) y zero x p = inl p
slice-either (z ∷ xs) y (suc k) x p = elim (slice-either xs y k x p) [
  | inl q ↦ inl q
  | inr q ↦ inr (ap suc q.0, q.1)
]

pub length-after : {A : Type 0} (xs : List A) (y : A) → length (xs ++ y ∷ []) ≡ suc (length xs)
length-after [] y = refl
length-after (x ∷ xs) y = ap suc (length-after xs y)

pub none-of : {A : Type 0} (k : ℕ) (x : A) → slice_get {X = A} [] k ≡ Some x → ⊥
none-of k x p = cc

pub no-more : (n : ℕ) → n ≡ n + 0
no-more n = omega arith
