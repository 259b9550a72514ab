-- Lists of names that have the same names, and lists without faults.
use Rattle.std.proofs.Common.{◌≡◌, refl, sym, ap, ap₂, ◌∙◌, arith, ℕ, Bool, true, false, not, ◌==◌}
use Rattle.std.proofs.Common.{◌||◌, List, [], ◌∷◌, ◌++◌}
use Rattle.std.specs.List.{list_any}
use Rattle.std.specs.Str.{bytes_eq}
use Rattle.std.proofs.lemmas.Bool.Decides.{nat_tests}
use Rattle.syntax_trees.specs.declared.anchor.Anchor.{Anchor}
use Rattle.bind_faults.specs.declared.fault.FaultKind.{FaultKind}
use Rattle.bind_faults.specs.Faults.{fault_if}
use Rattle.catalog_store.specs.Uses.{SameNames}

-- ---- lists without faults

pub front_nil : {A : Type 0} (a b : List A) → a ++ b ≡ [] → a ≡ []
front_nil [] b p = refl
front_nil (x ∷ a) b p = absurd cc

pub back_nil : {A : Type 0} (a b : List A) → a ++ b ≡ [] → b ≡ []
back_nil [] b p = p
back_nil (x ∷ a) b p = absurd cc

pub no_fault : (b : Bool) (kind : FaultKind) (at : Anchor) → fault_if b kind at ≡ [] → b ≡ false
no_fault false kind at p = refl
no_fault true kind at p = absurd cc

pub equal : (a b : ℕ) → not (a == b) ≡ false → a ≡ b
equal a b p = grind (arith, nat_tests)

-- ---- names

abbrev pub Names : Type 0
Names = List (List ℕ)

abbrev pub has : List ℕ → Names → Bool
has name xs = list_any (λ x. bytes_eq x name) xs

or-assoc : (x y z : Bool) → ((x || y) || z) ≡ (x || (y || z))
or-assoc true y z = refl
or-assoc false y z = refl

or-comm : (x y : Bool) → (x || y) ≡ (y || x)
or-comm true true = refl
or-comm true false = refl
or-comm false true = refl
or-comm false false = refl

pub has-append : (name : List ℕ) (xs ys : Names) →
    has name (xs ++ ys) ≡ (has name xs || has name ys)
has-append name [] ys = refl
has-append name (x ∷ xs) ys = ap (λ b. bytes_eq x name || b) (has-append name xs ys) ∙
    sym (or-assoc (bytes_eq x name) (has name xs) (has name ys))

pub same-names : (xs ys : Names) → xs ≡ ys → SameNames xs ys
same-names xs ys p name = ap (has name) p

pub same-then : (xs ys zs : Names) → SameNames xs ys → SameNames ys zs → SameNames xs zs
same-then xs ys zs p q name = p name ∙ q name

pub same-append : (a b c d : Names) → SameNames a b → SameNames c d → SameNames (a ++ c) (b ++ d)
same-append a b c d p q name = has-append name a c ∙
    ap₂ (λ (x y : Bool). x || y) (p name) (q name) ∙ sym (has-append name b d)

pub same-swap : (a b : Names) → SameNames (a ++ b) (b ++ a)
same-swap a b name = has-append name a b ∙ or-comm (has name a) (has name b) ∙
    sym (has-append name b a)

pub same-between : (a b c d : Names) → SameNames ((a ++ b) ++ (c ++ d)) ((a ++ c) ++ (b ++ d))
same-between a b c d name =
    has-append name (a ++ b) (c ++ d) ∙ ap₂ (λ (x y : Bool). x || y) (has-append name a b)
    (has-append name c d)
    ∙ between (has name a) (has name b) (has name c) (has name d)
    ∙ sym (has-append name (a ++ c) (b ++ d) ∙
    ap₂ (λ (x y : Bool). x || y) (has-append name a c) (has-append name b d))
  where
    between : (x y z w : Bool) → ((x || y) || (z || w)) ≡ ((x || z) || (y || w))
    between true y z w = refl
    between false y true w = or-comm y true
    between false y false w = refl
