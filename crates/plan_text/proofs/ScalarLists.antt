-- A list of scalars, one after another.
use Rattle.std.proofs.Common.{ℕ, ◌≡◌, ◌+◌, ◌<◌, ◌≤◌, Bool, true, false, List, [], ◌∷◌, ◌++◌, drop}
use Rattle.std.proofs.Common.{length, get_or, refl, sym, ap, ◌∙◌, append_assoc, codes, arith}
use Rattle.std.proofs.lemmas.List.{append-nil, drop_more, drop_all}
use Rattle.std.specs.List.{flat_map}
use Rattle.rel_algebra.specs.declared.scalar.Scalar.{Scalar}
use Rattle.rel_algebra.specs.PlanText.{Text}
use Rattle.rel_algebra.specs.PlanView.{scalar_of, scalars_of}
use Rattle.plan_text.specs.ScalarText.{after, comma, scalar_text, scalar_texts, separated, spaced}
use Rattle.plan_text.specs.Parts.{mark_text, rest_text}

-- a mark, a text, and what is left after it
text_put : (first : Bool) (t : Text) (ts : List Text) (old : Text) →
    ((old ++ mark_text first) ++ t) ++ rest_text false ts ≡ old ++ rest_text first (t ∷ ts)
text_put true t ts old =
    ap (λ (u : Text). (u ++ t) ++ flat_map (after comma) ts) (append-nil old) ∙
    append_assoc old t (flat_map (after comma) ts)
text_put false t ts old =
    ap (λ (u : Text). u ++ flat_map (after comma) ts) (append_assoc old comma t) ∙
    append_assoc old (comma ++ t) (flat_map (after comma) ts)

-- one scalar more is written
pub scalar_put : (first : Bool) (ss : List Scalar) (i : ℕ) (s : Scalar) (old mid new all : Text) →
    i < length ss → s ≡ get_or ss i s → mid ≡ old ++ mark_text first →
    new ≡ mid ++ scalar_text (scalar_of s) →
    old ++ rest_text first (scalar_texts (scalars_of (drop i ss))) ≡ all →
    new ++ rest_text false (scalar_texts (scalars_of (drop (i + 1) ss))) ≡ all
scalar_put first ss i s old mid new all l is marked wrote before =
    let ts : List Text = scalar_texts (scalars_of (drop (i + 1) ss)) in
    let t : Text = scalar_text (scalar_of s) in
    let more : drop i ss ≡ s ∷ drop (i + 1) ss =
    drop_more ss i s l ∙ ap (λ (x : Scalar). x ∷ drop (i + 1) ss) (sym is) in
    ap (λ (u : Text). u ++ rest_text false ts) (wrote ∙ ap (λ (u : Text). u ++ t) marked) ∙
    (text_put first t ts old ∙
    (ap (λ (xs : List Scalar). old ++ rest_text first (scalar_texts (scalars_of xs))) (sym more) ∙
    before))

none_left : (first : Bool) → rest_text first [] ≡ []
none_left true = refl
none_left false = refl

-- all scalars are written
pub all_put : (first : Bool) (ss : List Scalar) (i : ℕ) (old all : Text) → length ss ≤ i →
    old ++ rest_text first (scalar_texts (scalars_of (drop i ss))) ≡ all → old ≡ all
all_put first ss i old all l before =
    sym (append-nil old) ∙
    (ap (λ (u : Text). old ++ u) (sym (none_left first)) ∙
    (ap (λ (xs : List Scalar). old ++ rest_text first (scalar_texts (scalars_of xs)))
    (sym (drop_all i ss l)) ∙ before))

-- a list that is not empty, after its space
pub spaced_put : (ss : List Scalar) (old mid new : Text) → 1 ≤ length ss → mid ≡ old ++ codes " " →
    new ≡ mid ++ separated comma (scalar_texts (scalars_of ss)) →
    new ≡ old ++ spaced comma (scalar_texts (scalars_of ss))
spaced_put [] old mid new some marked put = absurd (omega (arith, some))
spaced_put (s ∷ ss) old mid new some marked put =
    let all : Text = separated comma (scalar_texts (scalars_of (s ∷ ss))) in
    put ∙ (ap (λ (u : Text). u ++ all) marked ∙ append_assoc old (codes " ") all)
