-- The names of items, as one more comes.
use Rattle.std.proofs.Common.{◌≡◌, ℕ, ◌||◌, Bool, true, false, cond, List, [], ◌∷◌, ◌++◌, refl, sym}
use Rattle.std.proofs.Common.{ap, ◌∙◌, Option, None, Some, MatchOption}
use Rattle.std.proofs.lemmas.List.{same_from_push}
use Rattle.std.proofs.lemmas.List.Folds.{list_any-append}
use Rattle.std.specs.List.{list_any}
use Rattle.std.specs.Str.{bytes_eq}
use Rattle.bind_sight.specs.declared.item.Item.{Item}
use Rattle.bind_sight.specs.ItemNames.{AreNames}
use Rattle.bind_sight.specs.Sight.{is_named}

one_more : (a b : Bool) → cond b true a ≡ (a || (b || false))
one_more true true = refl
one_more true false = refl
one_more false true = refl
one_more false false = refl

pub names_more : (names new : List (List ℕ)) (items made : List Item) (item : Item)
    (name : List ℕ) → made ≡ items ++ item ∷ [] → name ≡ item.name → AreNames names items →
    ((other : List ℕ) → list_any (bytes_eq other) new ≡ cond (bytes_eq name other) true
    (list_any (bytes_eq other) names)) → AreNames new made
names_more names new items made item name e n are more other =
    more other
    ∙ (ap (λ b. cond (bytes_eq name other) true b) (are other)
    ∙ (ap (λ own. cond (bytes_eq own other) true (list_any (is_named other) items)) n
    ∙ (one_more (list_any (is_named other) items) (bytes_eq item.name other)
    ∙ (sym (list_any-append (is_named other) items (item ∷ []))
    ∙ ap (λ xs. list_any (is_named other) xs) (sym e)))))

-- where an item went again
some_there : (items : List Item) (item : Item) → items ++ item ∷ [] ≡ [] → ⊥
some_there [] item h = cc
some_there (one ∷ items) item h = cc

pub popped : (o : Option Item) (items made new : List Item) (item : Item) →
    made ≡ items ++ item ∷ [] →
    MatchOption o ((made ≡ []) × (new ≡ [])) (λ last. made ≡ new ++ last ∷ []) → new ≡ items
popped None items made new item e h = absurd (some_there items item (sym e ∙ h.0))
popped (Some last) items made new item e h =
    (same_from_push new items last item (sym h ∙ e)).0

pub names_stay : (names new : List (List ℕ)) (items made : List Item) → new ≡ names →
    made ≡ items → AreNames names items → AreNames new made
names_stay names new items made n e are other =
    ap (λ ns. list_any (bytes_eq other) ns) n
    ∙ (are other ∙ sym (ap (λ xs. list_any (is_named other) xs) e))
