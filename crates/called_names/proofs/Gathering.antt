-- Names that are noted part after part.
use Rattle.std.proofs.Common.{◌≡◌, ℕ, List, ◌++◌, sym, ap, ◌∙◌}
use Rattle.std.proofs.lemmas.Grind.{flat_map-append}
use Rattle.std.proofs.lemmas.List.{append_assoc}
use Rattle.catalog_store.specs.Uses.{Uses}
use Rattle.called_names.specs.Called.{called, called_by}

one_more : (xs : List (List ℕ)) (us vs : Uses) →
    (xs ++ called us) ++ called vs ≡ xs ++ called (us ++ vs)
one_more xs us vs =
    append_assoc xs (called us) (called vs)
    ∙ ap (λ (ys : List (List ℕ)). xs ++ ys) (sym (flat_map-append called_by us vs))

-- those of a query over FROM: FROM, WHERE, groups, and its list
pub gathered : (first second third fourth last : List (List ℕ)) (us vs ws xs : Uses) →
    second ≡ first ++ called us → third ≡ second ++ called vs → fourth ≡ third ++ called ws →
    last ≡ fourth ++ called xs → last ≡ first ++ called (us ++ (vs ++ (ws ++ xs)))
gathered first second third fourth last us vs ws xs a b c d =
    d
    ∙ ap (λ ys. ys ++ called xs) c
    ∙ ap (λ ys. (ys ++ called ws) ++ called xs) b
    ∙ ap (λ ys. ((ys ++ called vs) ++ called ws) ++ called xs) a
    ∙ ap (λ ys. (ys ++ called ws) ++ called xs) (one_more first us vs)
    ∙ ap (λ ys. ys ++ called xs) (one_more first (us ++ vs) ws)
    ∙ one_more first ((us ++ vs) ++ ws) xs
    ∙ ap (λ ys. first ++ called ys) (append_assoc (us ++ vs) ws xs ∙ append_assoc us vs (ws ++ xs))
