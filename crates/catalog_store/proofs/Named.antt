-- What names stand for in a catalog that grows at its end, or from which one entry is taken.
use Rattle.std.proofs.Common.{◌≡◌, ℕ, Bool, true, false, cond, List, [], ◌∷◌, ◌++◌, Option, None}
use Rattle.std.proofs.Common.{Some, refl, sym, ap, ◌∙◌, subst}
use Rattle.std.proofs.lemmas.Slice.Eq.{bytes_eq-Decides}
use Rattle.std.proofs.lemmas.Bool.{false_from_ne_true}
use Rattle.std.specs.Str.{bytes_eq}
use Rattle.catalog_store.specs.Catalog.{Object, Entry, Catalog, object_named}
use Rattle.catalog_store.specs.Users.{without}

pub same_bytes : (m n : List ℕ) → bytes_eq m n ≡ true → m ≡ n
same_bytes m n e = (bytes_eq-Decides m n).0 e

pub bytes_self : (n : List ℕ) → bytes_eq n n ≡ true
bytes_self n = (bytes_eq-Decides n n).1 refl

pub other_bytes : (m n : List ℕ) → ¬ (m ≡ n) → bytes_eq m n ≡ false
other_bytes m n f = false_from_ne_true (bytes_eq m n) (λ t. f (same_bytes m n t))

pub bytes_swap : (m n : List ℕ) → bytes_eq m n ≡ bytes_eq n m
bytes_swap m n = by (bytes_eq m n) refl
  where
    by : (b : Bool) → bytes_eq m n ≡ b → bytes_eq m n ≡ bytes_eq n m
    by true e = e ∙ sym (subst (λ (x : List ℕ). bytes_eq n x ≡ true) (sym (same_bytes m n e))
        (bytes_self n))
    by false e = e ∙
        sym (other_bytes n m
        (λ q. absurd (apart (sym e ∙ subst (λ (x : List ℕ). bytes_eq m x ≡ true) (sym q)
        (bytes_self m)))))
      where
        apart : false ≡ true → ⊥
        apart h = cc

-- what is found stays found as more come after
pub named_kept : (name : List ℕ) (xs ys : Catalog) (o : Object) → object_named name xs ≡ Some o →
    object_named name (xs ++ ys) ≡ Some o
named_kept name [] ys o h = cc
named_kept name (x ∷ xs) ys o h = by (bytes_eq x.name name) (object_named name xs)
    (object_named name (xs ++ ys)) x.object (Some o) h (named_kept name xs ys o)
  where
    by : {A : Type 0} (b : Bool) (x o : Option A) (y : A) (p : Option A) → cond b (Some y) x ≡ p →
        (x ≡ p → o ≡ p) → cond b (Some y) o ≡ p
    by true x o y p h k = h
    by false x o y p h k = k h

-- what isn't found is sought after
pub named_after : (name : List ℕ) (xs ys : Catalog) → object_named name xs ≡ None →
    object_named name (xs ++ ys) ≡ object_named name ys
named_after name [] ys h = refl
named_after name (x ∷ xs) ys h = by (bytes_eq x.name name) (object_named name xs)
    (object_named name (xs ++ ys)) x.object (object_named name ys) h (named_after name xs ys)
  where
    by : {A : Type 0} (b : Bool) (x o : Option A) (y : A) (p : Option A) →
        cond b (Some y) x ≡ None → (x ≡ None → o ≡ p) → cond b (Some y) o ≡ p
    by true x o y p h k = cc
    by false x o y p h k = k h

-- one more entry leaves what every other name stands for
pub named_more : (name : List ℕ) (xs : Catalog) (x : Entry) → bytes_eq x.name name ≡ false →
    object_named name (xs ++ x ∷ []) ≡ object_named name xs
named_more name xs x f = by (object_named name xs) refl
  where
    by : (o : Option Object) → object_named name xs ≡ o →
        object_named name (xs ++ x ∷ []) ≡ object_named name xs
    by None e = named_after name xs (x ∷ []) e ∙ ap (λ b. cond b (Some x.object) None) f ∙ sym e
    by (Some o) e = named_kept name xs (x ∷ []) o e ∙ sym e

-- an entry less leaves what every other name stands for
pub named_less : (name other : List ℕ) (xs : Catalog) → ¬ (other ≡ name) →
    object_named other (without name xs) ≡ object_named other xs
named_less name other [] f = refl
named_less name other (x ∷ xs) f = by (bytes_eq x.name name) refl (named_less name other xs f)
  where
    by : (b : Bool) → bytes_eq x.name name ≡ b →
        object_named other (without name xs) ≡ object_named other xs →
        object_named other (cond b xs (x ∷ without name xs)) ≡ object_named other (x ∷ xs)
    by true e rest = sym (ap (λ c. cond c (Some x.object) (object_named other xs))
        (other_bytes x.name other (λ q. f (sym q ∙ same_bytes x.name name e))))
    by false e rest = ap (λ (o : Option Object). cond (bytes_eq x.name other) (Some x.object) o)
        rest

-- a catalog without a name is the catalog where the name isn't there
pub without_none : (name : List ℕ) (xs : Catalog) → object_named name xs ≡ None →
    without name xs ≡ xs
without_none name [] h = refl
without_none name (x ∷ xs) h = by (bytes_eq x.name name) h (without_none name xs)
  where
    by : (b : Bool) → cond b (Some x.object) (object_named name xs) ≡ None →
        (object_named name xs ≡ None → without name xs ≡ xs) →
        cond b xs (x ∷ without name xs) ≡ x ∷ xs
    by true h k = cc
    by false h k = ap (λ (ys : Catalog). x ∷ ys) (k h)

-- the name is taken out where it stands, and else after
pub without_front : (name : List ℕ) (xs ys : Catalog) (o : Object) → object_named name xs ≡ Some o →
    without name (xs ++ ys) ≡ without name xs ++ ys
without_front name [] ys o h = cc
without_front name (x ∷ xs) ys o h = by (bytes_eq x.name name) h (without_front name xs ys o)
  where
    by : (b : Bool) → cond b (Some x.object) (object_named name xs) ≡ Some o →
        (object_named name xs ≡ Some o → without name (xs ++ ys) ≡ without name xs ++ ys) →
        cond b (xs ++ ys) (x ∷ without name (xs ++ ys)) ≡ cond b xs (x ∷ without name xs) ++ ys
    by true h k = refl
    by false h k = ap (λ (zs : Catalog). x ∷ zs) (k h)

pub without_last : (name : List ℕ) (xs : Catalog) (y : Entry) → object_named name xs ≡ None →
    bytes_eq y.name name ≡ true → without name (xs ++ y ∷ []) ≡ xs
without_last name [] y h e = ap (λ (b : Bool). cond b [] (y ∷ [])) e
without_last name (x ∷ xs) y h e = by (bytes_eq x.name name) h (λ k. without_last name xs y k e)
  where
    by : (b : Bool) → cond b (Some x.object) (object_named name xs) ≡ None →
        (object_named name xs ≡ None → without name (xs ++ y ∷ []) ≡ xs) →
        cond b (xs ++ y ∷ []) (x ∷ without name (xs ++ y ∷ [])) ≡ x ∷ xs
    by true h k = cc
    by false h k = ap (λ (ys : Catalog). x ∷ ys) (k h)
