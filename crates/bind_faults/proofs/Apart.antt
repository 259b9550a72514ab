-- Noting faults apart from those before.
use Rattle.std.proofs.Common.{◌≡◌, refl, sym, ap, ◌∙◌, List, [], ◌∷◌, Option, Some, None, Bool}
use Rattle.std.proofs.Common.{true, false, not, if◌then◌else◌}
use Rattle.std.specs.Prelude.{is_some}
use Rattle.bind_faults.specs.declared.fault.Fault.{Fault}
use Rattle.bind_faults.specs.Faults.{noted, lesser, sooner, rank, merged, is_faultless}
use Rattle.bind_faults.proofs.Order.{before-trans, before-not}

noted-some : (fs : List Fault) (f : Fault) → not (is_some (noted (Some f) fs)) ≡ false
noted-some [] f = refl
noted-some (g ∷ fs) f = noted-some fs _

-- there is no least fault exactly where there is no fault
pub none_noted : (fs : List Fault) → not (is_some (noted None fs)) ≡ is_faultless fs
none_noted [] = refl
none_noted (f ∷ fs) = noted-some fs f

choice : (f g h : Fault) (fg gh fh : Bool) → sooner f g ≡ fg → sooner g h ≡ gh → sooner f h ≡ fh
    → lesser (Some h) (if fg then f else g) ≡ lesser (Some (if gh then g else h)) f
choice f g h true true fh p q r =
    ap (λ b. Some (if b then f else h)) (before-trans f.at.token (rank f.kind) g.at.token
    (rank g.kind) h.at.token (rank h.kind) p q) ∙ sym (ap (λ b. Some (if b then f else g)) p)
choice f g h true false fh p q r = refl
choice f g h false true fh p q r = ap (λ b. Some (if b then g else h)) q ∙
    sym (ap (λ b. Some (if b then f else g)) p)
choice f g h false false fh p q r =
    ap (λ b. Some (if b then g else h)) q ∙ sym
    (ap (λ b. Some (if b then f else h)) (before-not f.at.token (rank f.kind) g.at.token
    (rank g.kind) h.at.token (rank h.kind) p q))

merged-lesser : (n m : Option Fault) (f : Fault) → merged n (lesser m f) ≡ lesser (merged n m) f
merged-lesser n None f = refl
merged-lesser None (Some g) f = refl
merged-lesser (Some h) (Some g) f = choice f g h (sooner f g) (sooner g h) (sooner f h) refl refl
    refl

merged-noted : (n m : Option Fault) (fs : List Fault) →
    merged n (noted m fs) ≡ noted (merged n m) fs
merged-noted n m [] = refl
merged-noted n m (f ∷ fs) = merged-noted n (lesser m f) fs ∙
    ap (λ k. noted k fs) (merged-lesser n m f)

-- faults that are noted apart are noted
pub merged_least : (n : Option Fault) (fs : List Fault) → merged n (noted None fs) ≡ noted n fs
merged_least n fs = merged-noted n None fs
