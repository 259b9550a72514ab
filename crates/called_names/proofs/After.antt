-- A function comes after what it uses.
use Rattle.std.proofs.Common.{◌≡◌, ◌≤◌, ◌-◌, ℕ, zero, suc, Bool, false, List, [], ◌∷◌, ◌++◌, drop}
use Rattle.std.proofs.Common.{length, Option, Some, refl, sym, ap, ◌∙◌, arith, if◌then◌else◌}
use Rattle.std.specs.Borrow.{Bor}
use Rattle.std.proofs.lemmas.List.{map-append}
use Rattle.catalog_store.specs.Catalog.{Catalog, Interpreted, InterpretedObject, Object, object_named}
use Rattle.called_names.specs.Called.{held}
use Rattle.called_names.specs.Reached.{Names, after_uses, in_turn, is_among, reach}

-- no name is left
ended : (step : List ℕ → Names → Names) (i : ℕ) (names done : Names) → length names ≤ i →
    in_turn step (drop i names) done ≡ done
ended step i [] done h = by i
  where
    by : (i : ℕ) → in_turn step (drop i []) done ≡ done
    by zero = refl
    by (suc i) = refl
ended step zero (n ∷ ns) done h = absurd (omega arith)
ended step (suc i) (n ∷ ns) done h = ended step i ns done (omega arith)

fewer : (m steps : ℕ) → steps ≡ suc m → steps - 1 ≡ m
fewer m steps h = omega arith

-- so reach the names that a function uses, and then itself
by_uses : (steps : ℕ) (known : Catalog) (name : List ℕ) (f : Interpreted) (done : Names) →
    (steps ≡ 0 → ⊥) → is_among name done ≡ false →
    object_named name known ≡ Some (InterpretedObject f) →
    reach steps known name done ≡ in_turn (reach (steps - 1) known) f.uses done ++ name ∷ []
by_uses zero known name f done more new is = absurd (more refl)
by_uses (suc m) known name f done more new is =
    ap (λ (b : Bool). if b then done
    else after_uses (reach m known) name (object_named name known) done) new
    ∙ ap (λ (o : Option Object). after_uses (reach m known) name o done) is
    ∙ ap (λ (n : ℕ). in_turn (reach n known) f.uses done ++ name ∷ [])
    (sym (fewer m (suc m) refl))

-- it is put after them
pub comes_after : (steps : ℕ) (known : Catalog) (name : Bor (List ℕ)) (f : Interpreted)
    (first last all : List (Bor (List ℕ))) (uses : Names) (i : ℕ) →
    (steps ≡ 0 → ⊥) → is_among name.now (held first) ≡ false →
    object_named name.now known ≡ Some (InterpretedObject f) → uses ≡ f.uses →
    length uses ≤ i → in_turn (reach (steps - 1) known) (drop i uses) (held last)
    ≡ in_turn (reach (steps - 1) known) uses (held first) → all ≡ last ++ name ∷ [] →
    held all ≡ reach steps known name.now (held first)
comes_after steps known name f first last all uses i more new is same h done put =
    ap held put
    ∙ map-append (λ (n : Bor (List ℕ)). n.now) last (name ∷ [])
    ∙ ap (λ (ns : Names). ns ++ name.now ∷ [])
    (sym (ended (reach (steps - 1) known) i uses (held last) h) ∙ done
    ∙ ap (λ (us : Names). in_turn (reach (steps - 1) known) us (held first)) same)
    ∙ sym (by_uses steps known name.now f (held first) more new is)
