-- Parts that are judged in turn, as a loop does.
use Rattle.std.proofs.Common.{◌≡◌, refl, sym, ap, ◌∙◌, List, [], ◌∷◌, ℕ, ◌+◌, ◌<◌, map, drop}
use Rattle.std.proofs.Common.{length, get_or}
use Rattle.bind_faults.specs.declared.notes.Notes.{Notes}
use Rattle.bind_faults.specs.Faults.{Noted, taken, after, ◌>>=◌}
use Rattle.bind_parts.specs.Turns.{each_noted}
use Rattle.bind_parts.proofs.Steps.{next, unrolled}

module _ {A X : Type 0} (f : A → X → Noted A) where
  pub each-value : (xs : List X) (i : ℕ) (x : X) (so more : A) → i < length xs → x ≡ get_or xs i x →
      more ≡ (f so x).value
      → (each_noted f more (drop (i + 1) xs)).value ≡ (each_noted f so (drop i xs)).value
  each-value xs i x so more h is p =
      ap (λ z. (each_noted f z (drop (i + 1) xs)).value) p ∙
      ap (λ d. (each_noted f so d).value) (sym (unrolled xs i x h is))

  pub each-notes : (xs : List X) (i : ℕ) (x : X) (so more : A) (n m : Notes) → i < length xs →
      x ≡ get_or xs i x → more ≡ (f so x).value → m ≡ taken n (f so x)
      → taken m (each_noted f more (drop (i + 1) xs)) ≡ taken n (each_noted f so (drop i xs))
  each-notes xs i x so more n m h is p q =
      ap (λ z. taken m (each_noted f z (drop (i + 1) xs))) p
      ∙ next n m _ (f so x) (each_noted f (f so x).value (drop (i + 1) xs)) q refl
      ∙ ap (λ d. taken n (each_noted f so d)) (sym (unrolled xs i x h is))

pub each-map : {A X Y : Type 0} (f : A → Y → Noted A) (g : X → Y) (so : A) (xs : List X) →
    each_noted f so (map g xs) ≡ each_noted (λ a x. f a (g x)) so xs
each-map f g so [] = refl
each-map f g so (x ∷ xs) = ap (λ z. after (f so (g x)) z) (each-map f g (f so (g x)).value xs)

-- one judgement after another, over what the first found
pub then-notes : {A B : Type 0} (n n1 n2 : Notes) (x : Noted A) (go : A → Noted B) (v : A) →
    n1 ≡ taken n x → v ≡ x.value → n2 ≡ taken n1 (go v) → n2 ≡ taken n (x >>= go)
then-notes n n1 n2 x go v p e q = next n n1 n2 x (go x.value) p (q ∙ ap (λ z. taken n1 (go z)) e)
