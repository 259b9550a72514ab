-- Names and their places, as names come after.
use Rattle.std.proofs.Common.{◌≡◌, refl, sym, ap, ◌∙◌, subst, arith, ℕ, ◌+◌, ◌<◌, zero, suc, nat_lt}
use Rattle.std.proofs.Common.{Bool, true, false, cond, List, [], ◌∷◌, ◌++◌, length, take, get_or}
use Rattle.std.proofs.Common.{Option, Some, None, bytes_eq, if◌then◌else◌, add-one}
use Rattle.std.specs.Prelude.{is_some}
use Rattle.std.specs.Map.{lookup}
use Rattle.std.proofs.Math.Seq.{take-suc}
use Rattle.std.proofs.lemmas.Bool.Decides.{nat_tests}
use Rattle.std.proofs.lemmas.List.{length-take-le}
use Rattle.std.proofs.lemmas.Slice.Eq.{bytes_eq-Decides}
use Rattle.bind_sight.specs.Index.{place_of, one_further, with_name, Indexes}

abbrev first_of : Option ℕ → Option ℕ → Option ℕ
first_of None b = b
first_of (Some a) b = Some a

abbrev here : Bool → ℕ → Option ℕ
here b place = if b then Some place else None

further : (o : Option ℕ) (b : Bool) (n : ℕ) →
    one_further (first_of o (here b n)) ≡ first_of (one_further o) (here b (suc n))
further None true n = refl
further None false n = refl
further (Some a) b n = refl

place-more : (q : List ℕ) (xs : List (List ℕ)) (y : List ℕ) →
    place_of q (xs ++ y ∷ []) ≡ first_of (place_of q xs) (here (bytes_eq q y) (length xs))
place-more q [] y = refl
place-more q (x ∷ xs) y = by (bytes_eq q x) (place-more q xs y)
  where
    by : (b : Bool) → place_of q (xs ++ y ∷ []) ≡ first_of (place_of q xs)
        (here (bytes_eq q y) (length xs)) → (if b then Some 0 else one_further
        (place_of q (xs ++ y ∷ []))) ≡ first_of (if b then Some 0 else one_further (place_of q xs))
        (here (bytes_eq q y) (suc (length xs)))
    by true ih = refl
    by false ih = ap one_further ih ∙ further (place_of q xs) (bytes_eq q y) (length xs)

lookup-more : (t : List ℕ → Bool) (es : List (List ℕ × ℕ)) (e : List ℕ × ℕ) →
    lookup t (es ++ e ∷ []) ≡ first_of (lookup t es) (here (t e.0) e.1)
lookup-more t [] e = refl
lookup-more t (x ∷ es) e = by (t x.0) (lookup-more t es e)
  where
    by : (b : Bool) → lookup t (es ++ e ∷ []) ≡ first_of (lookup t es) (here (t e.0) e.1) →
        cond b (Some x.1) (lookup t (es ++ e ∷ [])) ≡ first_of (cond b (Some x.1) (lookup t es))
        (here (t e.0) e.1)
    by true ih = refl
    by false ih = ih

-- a new name after the others
indexes_new : (es : List (List ℕ × ℕ)) (xs : List (List ℕ)) (y : List ℕ) (n : ℕ) → Indexes es xs →
    n ≡ length xs → Indexes (es ++ (y, n) ∷ []) (xs ++ y ∷ [])
indexes_new es xs y n h e q =
    lookup-more (bytes_eq q) es (y, n) ∙ ap (λ o. first_of o (here (bytes_eq q y) n)) (h q) ∙
    ap (λ k. first_of (place_of q xs) (here (bytes_eq q y) k)) e
    ∙ sym (place-more q xs y)

stays : (o : Option ℕ) (b : Bool) (n : ℕ) → (b ≡ true → is_some o ≡ true) →
    o ≡ first_of o (here b n)
stays (Some a) b n p = refl
stays None false n p = refl
stays None true n p = absurd (apart (p refl))
  where
    apart : false ≡ true → ⊥
    apart q = cc

-- a name that is there already
indexes_known : (es : List (List ℕ × ℕ)) (xs : List (List ℕ)) (y : List ℕ) → Indexes es xs →
    is_some (lookup (bytes_eq y) es) ≡ true → Indexes es (xs ++ y ∷ [])
indexes_known es xs y h there q =
    h q
    ∙ stays (place_of q xs) (bytes_eq q y) (length xs)
    (λ same. subst (λ z. is_some (place_of z xs) ≡ true) (sym ((bytes_eq-Decides q y).0 same))
    (ap is_some (sym (h y)) ∙ there))
    ∙ sym (place-more q xs y)

pub indexes_more : (es : List (List ℕ × ℕ)) (xs : List (List ℕ)) (y : List ℕ) (n : ℕ) →
    Indexes es xs → n ≡ length xs → Indexes (with_name es y n) (xs ++ y ∷ [])
indexes_more es xs y n h e = by (is_some (lookup (bytes_eq y) es)) refl
  where
    by : (b : Bool) → is_some (lookup (bytes_eq y) es) ≡ b →
        Indexes (if b then es else es ++ (y, n) ∷ []) (xs ++ y ∷ [])
    by true p = indexes_known es xs y h p
    by false p = indexes_new es xs y n h e

-- ---- places in a front part

abbrev pub before : ℕ → Option ℕ → Bool
before k None = false
before k (Some place) = nat_lt place k

none-before : (o : Option ℕ) → false ≡ before 0 o
none-before None = refl
none-before (Some i) = grind (arith, nat_tests)

some-further : (o : Option ℕ) → is_some (one_further o) ≡ is_some o
some-further None = refl
some-further (Some i) = refl

before-further : (k : ℕ) (o : Option ℕ) → before (suc k) (one_further o) ≡ before k o
before-further k None = refl
before-further k (Some i) = grind (arith, nat_tests)

zero-before : (k : ℕ) → true ≡ nat_lt 0 (suc k)
zero-before k = grind (arith, nat_tests)

pub place-taken : (q : List ℕ) (xs : List (List ℕ)) (k : ℕ) →
    is_some (place_of q (take k xs)) ≡ before k (place_of q xs)
place-taken q [] zero = refl
place-taken q [] (suc k) = refl
place-taken q (x ∷ xs) zero = none-before (place_of q (x ∷ xs))
place-taken q (x ∷ xs) (suc k) = by (bytes_eq q x) (place-taken q xs k)
  where
    by : (b : Bool) → is_some (place_of q (take k xs)) ≡ before k (place_of q xs) →
        is_some (if b then Some 0 else one_further (place_of q (take k xs))) ≡ before (suc k)
        (if b then Some 0 else one_further (place_of q xs))
    by true ih = zero-before k
    by false ih = some-further (place_of q (take k xs)) ∙ ih ∙
        sym (before-further k (place_of q xs))

pub taken-next : {A : Type 0} (xs : List A) (i : ℕ) (x : A) → i < length xs → x ≡ get_or xs i x →
    take (i + 1) xs ≡ take i xs ++ x ∷ []
taken-next xs i x h e = rw add-one (take-suc xs i x h ∙ ap (λ y. take i xs ++ y ∷ []) (sym e))

pub indexes_next : (es more : List (List ℕ × ℕ)) (xs : List (List ℕ)) (i : ℕ) (x : List ℕ) →
    i < length xs → x ≡ get_or xs i x → more ≡ with_name es x i
    → Indexes es (take i xs) → Indexes more (take (i + 1) xs)
indexes_next es more xs i x h e p q =
    subst (Indexes more) (sym (taken-next xs i x h e))
    (subst (λ z. Indexes z (take i xs ++ x ∷ [])) (sym p)
    (indexes_more es (take i xs) x i q (sym (length-take-le i xs (omega (arith, h))))))
