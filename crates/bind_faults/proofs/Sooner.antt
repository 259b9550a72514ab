-- What is noted last is the least.
use Rattle.std.proofs.Common.{◌≡◌, refl, sym, ap, ◌∙◌, List, [], ◌∷◌, Some, None, Bool, true, false}
use Rattle.std.proofs.Common.{◌⊎◌, inl, inr, if◌then◌else◌}
use Rattle.bind_faults.specs.declared.fault.Fault.{Fault}
use Rattle.bind_faults.specs.Faults.{noted, least, lesser, sooner, rank}
use Rattle.bind_faults.specs.Least.{Among, NoneSooner, IsLeast}
use Rattle.bind_faults.proofs.Order.{before-trans, before-not, before-self}

abbrev Least : Fault → Fault → List Fault → Type 0
Least f h fs = ((f ≡ h) ⊎ Among f fs) × (sooner h f ≡ false) × NoneSooner f fs

not-sooner : (f : Fault) → sooner f f ≡ false
not-sooner f = before-self f.at.token (rank f.kind)

absurd-true : (b : Bool) → b ≡ true → b ≡ false → ⊥
absurd-true b p q = cc

some-stays : (fs : List Fault) (h : Fault) → noted (Some h) fs ≡ None → ⊥
some-stays [] h p = cc
some-stays (g ∷ gs) h p = some-stays gs _ p

-- g is sooner than h
keeps : (f g h : Fault) (hf : Bool) → sooner g h ≡ true → sooner g f ≡ false → sooner h f ≡ hf →
    sooner h f ≡ false
keeps f g h true p q r =
    absurd (absurd-true _ (before-trans g.at.token (rank g.kind) h.at.token (rank h.kind) f.at.token
    (rank f.kind) p r) q)
keeps f g h false p q r = r

noted-step : (g h f : Fault) (gs : List Fault) (gh : Bool) → sooner g h ≡ gh
    → ((m : Fault) → noted (Some m) gs ≡ Some f → Least f m gs) →
    noted (lesser (Some h) g) gs ≡ Some f → Least f h (g ∷ gs)
noted-step g h f gs true e ih p =
    let found : Least f g gs = ih g (ap (λ b. noted (Some (if b then g else h)) gs) (sym e) ∙ p) in
    (inr found.0, keeps f g h (sooner h f) e found.1 refl, (found.1, found.2))
noted-step g h f gs false e ih p =
    let found : Least f h gs = ih h (ap (λ b. noted (Some (if b then g else h)) gs) (sym e) ∙ p) in (
      elim found.0 [ inl q ↦ inl q | inr q ↦ inr (inr q) ],
      found.1,
      (
        before-not g.at.token (rank g.kind) h.at.token (rank h.kind) f.at.token
            (rank f.kind) e found.1,
        found.2,
      ),
    )

noted-least : (fs : List Fault) (h f : Fault) → noted (Some h) fs ≡ Some f → Least f h fs
noted-least [] h f p = let same : f ≡ h = cc in
    (inl same, ap (λ x. sooner h x) same ∙ not-sooner h, tt)
noted-least (g ∷ gs) h f p = noted-step g h f gs (sooner g h) refl (λ m. noted-least gs m f) p

pub is_least : (fs : List Fault) (f : Fault) → least fs ≡ Some f → IsLeast f fs
is_least [] f p = absurd cc
is_least (g ∷ gs) f p = let found = noted-least gs g f p in (found.0, (found.1, found.2))

pub is_free : (fs : List Fault) → least fs ≡ None → fs ≡ []
is_free [] p = refl
is_free (g ∷ gs) p = absurd (some-stays gs g p)
