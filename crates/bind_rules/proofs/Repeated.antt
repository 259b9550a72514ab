-- One step of the loops that note faults in turn, over plain variables.
use Rattle.std.proofs.Common.{◌≡◌, sym, ap, ◌∙◌, refl, List, [], ◌∷◌, ◌++◌, Option, ℕ, ◌+◌, ◌<◌}
use Rattle.std.proofs.Common.{suc, zero, Bool, map, take, drop, length, get_or, add-one}
use Rattle.std.specs.Prelude.{is_some}
use Rattle.std.proofs.Math.Seq.{take-suc}
use Rattle.std.proofs.lemmas.List.{map-append}
use Rattle.syntax_trees.specs.declared.anchor.Ident.{Ident}
use Rattle.bind_faults.specs.declared.fault.Fault.{Fault}
use Rattle.bind_faults.specs.declared.fault.FaultKind.TheVariants.{DuplicateName}
use Rattle.bind_faults.specs.Faults.{noted, fault_if}
use Rattle.bind_faults.proofs.Laws.{noted_append}
use Rattle.bind_sight.specs.Index.{place_of}
use Rattle.bind_rules.proofs.Unrolled.{unrolled}
use Rattle.bind_rules.specs.Names.{again, repeated, names_of}

-- names that earlier ones have
taken-more : {X Y : Type 0} (g : X → Y) (xs : List X) (i : ℕ) (x : X) → i < length xs →
    x ≡ get_or xs i x → map g (take (i + 1) xs) ≡ map g (take i xs) ++ g x ∷ []
taken-more g xs i x h e = rw add-one (ap (map g) (take-suc xs i x h) ∙ map-append g (take i xs) _ ∙
    ap (λ y. map g (take i xs) ++ g y ∷ []) (sym e))

take-map : {X Y : Type 0} (g : X → Y) (i : ℕ) (xs : List X) → take i (map g xs) ≡ map g (take i xs)
take-map g zero xs = refl
take-map g (suc i) [] = refl
take-map g (suc i) (x ∷ xs) = ap (λ z. g x ∷ z) (take-map g i xs)

pub repeated-more : (xs : List Ident) (names : List (List ℕ)) (i : ℕ) (x : Ident)
    (n m : Option Fault) (b : Bool) → i < length xs → x ≡ get_or xs i x
    → names ≡ names_of xs → b ≡ is_some (place_of x.name (take i names)) →
    m ≡ noted n (fault_if b DuplicateName x.anchor)
    → noted m (repeated (names_of (take (i + 1) xs)) (drop (i + 1) xs)) ≡ noted n
    (repeated (names_of (take i xs)) (drop i xs))
repeated-more xs names i x n m b h e all q p =
    let earlier = names_of (take i xs) in
    let left = repeated (earlier ++ x.name ∷ []) (drop (i + 1) xs) in
    let here : b ≡ is_some (place_of x.name earlier) = q ∙
    ap (λ z. is_some (place_of x.name z)) (ap (take i) all ∙ take-map (λ y. y.name) i xs) in
    ap (λ z. noted m (repeated z (drop (i + 1) xs))) (taken-more (λ y. y.name) xs i x h e)
    ∙ ap (λ k. noted k left) (p ∙ ap (λ c. noted n (fault_if c DuplicateName x.anchor)) here)
    ∙ sym (noted_append n (again earlier x) left)
    ∙ ap (λ d. noted n (repeated earlier d)) (sym (unrolled xs i x h e))
