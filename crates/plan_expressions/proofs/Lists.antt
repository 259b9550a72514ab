-- Lists of scalars, and lists as loops go over them.
use Rattle.std.proofs.Common.{ℕ, zero, suc, ◌≡◌, ◌<◌, ◌+◌, ◌∷◌, [], ◌++◌, List, map, length}
use Rattle.std.proofs.Common.{reverse, drop, get_or, refl, sym, ap, ◌∙◌, arith}
use Rattle.std.proofs.lemmas.List.{drop_more, reverse-append}
use Rattle.rel_algebra.specs.declared.scalar.Scalar.{Scalar as ScalarCode}
use Rattle.rel_algebra.specs.Plan.{Scalars, none, more}
use Rattle.rel_algebra.specs.PlanView.{scalar_of, scalars_of}
use Rattle.rel_algebra.specs.Emit.{scalar_count}
use Rattle.plan_expressions.specs.Emission.{put}

-- the rest of a list begins with what stands there
pub rest : {A : Type 0} (xs : List A) (i : ℕ) (x : A) → i < length xs → x ≡ get_or xs i x →
    drop i xs ≡ x ∷ drop (i + 1) xs
rest xs i x h is = drop_more xs i x h ∙ ap (λ y. y ∷ drop (i + 1) xs) (sym is)

pub drop-next : {A : Type 0} (i : ℕ) (xs : List A) → drop 1 (drop i xs) ≡ drop (i + 1) xs
drop-next i xs = by i xs ∙ (let next : suc i ≡ i + 1 = omega arith in ap (λ n. drop n xs) next)
  where
    by : {A : Type 0} (i : ℕ) (xs : List A) → drop 1 (drop i xs) ≡ drop (suc i) xs
    by zero xs = refl
    by (suc i) [] = refl
    by (suc i) (x ∷ xs) = by i xs

pub put-none : (ss : List ScalarCode) → put ss none ≡ scalars_of ss
put-none [] = refl
put-none (s ∷ ss) = ap (λ xs. more (scalar_of s) xs) (put-none ss)

pub put-append : (xs ys : List ScalarCode) (r : Scalars) → put (xs ++ ys) r ≡ put xs (put ys r)
put-append [] ys r = refl
put-append (x ∷ xs) ys r = ap (λ zs. more (scalar_of x) zs) (put-append xs ys r)

pub scalars-counted : (ss : List ScalarCode) → scalar_count (scalars_of ss) ≡ length ss
scalars-counted [] = refl
scalars-counted (s ∷ ss) = ap suc (scalars-counted ss)

pub map-last : {A B : Type 0} (f : A → B) (xs : List A) (x : A) →
    map f (xs ++ x ∷ []) ≡ map f xs ++ f x ∷ []
map-last f [] x = refl
map-last f (y ∷ xs) x = ap (λ zs. f y ∷ zs) (map-last f xs x)

pub turned_last : {A : Type 0} (xs : List A) (x : A) → reverse (xs ++ x ∷ []) ≡ x ∷ reverse xs
turned_last xs x = reverse-append xs (x ∷ [])
