-- The first so many columns, one after another.
use Rattle.std.proofs.Common.{ℕ, zero, suc, ◌≡◌, ◌≢◌, ◌+◌, ◌-◌, ◌<◌, ◌≤◌, ◌++◌, map, codes}
use Rattle.std.proofs.Common.{refl, sym, ap, ◌∙◌, append_assoc, arith}
use Rattle.std.proofs.lemmas.List.{append-nil}
use Rattle.std.specs.List.{flat_map}
use Rattle.rel_algebra.specs.Joins.{places}
use Rattle.rel_algebra.specs.PlanText.{Text}
use Rattle.plan_text.specs.ScalarText.{after, comma, place_text, spaced}

abbrev rest : ℕ → ℕ → Text
rest from many = flat_map (after comma) (map place_text (places from many))

-- one column more
pub front_put : (i n : ℕ) (old mid new all : Text) → i < n → mid ≡ old ++ codes ", " →
    new ≡ mid ++ place_text i → old ++ rest i (n - i) ≡ all → new ++ rest (i + 1) (n - (i + 1)) ≡ all
front_put i n old mid new all l marked put before =
    let up : i + 1 ≡ suc i = omega arith in
    let less : n - i ≡ suc (n - (i + 1)) = omega (arith, l) in
    let ts : Text = rest (i + 1) (n - (i + 1)) in
    let opened : rest i (n - i) ≡ (comma ++ place_text i) ++ ts = ap (rest i) less ∙
    ap (λ s. (comma ++ place_text i) ++ rest s (n - (i + 1))) (sym up) in
    ap (λ (u : Text). u ++ ts) (put ∙ (ap (λ (u : Text). u ++ place_text i) marked ∙
    append_assoc old comma (place_text i))) ∙
    (append_assoc old (comma ++ place_text i) ts ∙
    (ap (λ (u : Text). old ++ u) (sym opened) ∙ before))

-- all columns are written
pub front_done : (i n : ℕ) (old all : Text) → n ≤ i → old ++ rest i (n - i) ≡ all → old ≡ all
front_done i n old all l before =
    let none : n - i ≡ 0 = omega (arith, l) in
    sym (append-nil old) ∙ (ap (λ m. old ++ rest i m) (sym none) ∙ before)

-- the first column after its space, and the others
pub spaced_front : (n : ℕ) (old a b new : Text) → n ≢ 0 → a ≡ old ++ codes " " →
    b ≡ a ++ place_text 0 → new ≡ b ++ rest 1 (n - 1) →
    new ≡ old ++ spaced comma (map place_text (places 0 n))
spaced_front zero old a b new some marked first put = absurd (some refl)
spaced_front (suc n) old a b new some marked first put =
    let ts : Text = rest 1 n in
    let less : suc n - 1 ≡ n = omega arith in
    put ∙ (ap (λ m. b ++ rest 1 m) less ∙
    (ap (λ (u : Text). u ++ ts) (first ∙ ap (λ (u : Text). u ++ place_text 0) marked) ∙
    (append_assoc (old ++ codes " ") (place_text 0) ts ∙
    append_assoc old (codes " ") (place_text 0 ++ ts))))
