-- The next number, and the row after the first n.
use Rattle.std.proofs.Common.{◌≡◌, ◌∙◌, ℕ, suc, ◌+◌, ◌*◌, ◌/◌, ◌%◌, ◌++◌, ap, sym, arith}
use Rattle.std.proofs.Common.{List, append_assoc}
use Rattle.std.specs.Prelude.{OnOk, Result, Ok, Err}
use Rattle.std.proofs.Math.Nat.{add-mul-mod_self_left, mod-add-div}
use Rattle.demo_script.specs.Demo.{next_number, number, separator, triple, triples}

-- a rest may be taken before a sum, as well as after it
pub sum_mod : (a c n : ℕ) → (a % n + c) % n ≡ (a + c) % n
sum_mod a c n =
    let whole : a % n + c + n * (a / n) ≡ a + c = omega (arith, mod-add-div a n) in
    sym (add-mul-mod_self_left (a % n + c) n (a / n)) ∙ ap (λ k. k % n) whole

pub number_more : (seed i : ℕ) → number seed (i + 1) ≡ next_number (number seed i)
unfolding number
number_more seed i =
    let next : i + 1 ≡ suc i = omega arith in
    ap (number seed) next

pub triples_more : (seed i : ℕ) → triples seed (i + 1) ≡
    triples seed i ++ separator i ++ triple (i + 1) (number seed (i + 1))
unfolding triples
triples_more seed i =
    let next : i + 1 ≡ suc i = omega arith in
    ap (triples seed) next
    ∙ ap (λ k. triples seed i ++ separator i ++ triple k (number seed k)) (sym next)

-- three pieces, written one after the other
pub in_turn : (old first second third a b c : List ℕ) → first ≡ old ++ a → second ≡ first ++ b →
    third ≡ second ++ c → third ≡ old ++ (a ++ b ++ c)
in_turn old first second third a b c is_first is_second is_third =
    is_third ∙ ap (λ t. t ++ c) (is_second ∙ ap (λ t. t ++ b) is_first)
    ∙ ap (λ t. t ++ c) (append_assoc old a b) ∙ append_assoc old (a ++ b) c

-- and of which the last may find no memory
pub in_turn_on_ok : {T E : Type 0} (r : Result T E) (old first second third a b c : List ℕ) →
    first ≡ old ++ a → second ≡ first ++ b → OnOk r (third ≡ second ++ c)
    → OnOk r (third ≡ old ++ (a ++ b ++ c))
in_turn_on_ok (Ok x) old first second third a b c is_first is_second is_third =
    in_turn old first second third a b c is_first is_second is_third
in_turn_on_ok (Err e) old first second third a b c is_first is_second is_third = tt

-- one row more
pub row_more : (seed i x : ℕ) (old rows with_separator with_row : List ℕ) →
    x ≡ number seed (i + 1) → rows ≡ old ++ triples seed i
    → with_separator ≡ rows ++ separator i → with_row ≡ with_separator ++ triple (i + 1) x
    → with_row ≡ old ++ triples seed (i + 1)
row_more seed i x old rows with_separator with_row is are separated written =
    in_turn old rows with_separator with_row (triples seed i) (separator i) (triple (i + 1) x)
    are separated written
    ∙ ap (λ y. old ++ (triples seed i ++ separator i ++ triple (i + 1) y)) is
    ∙ ap (λ t. old ++ t) (sym (triples_more seed i))
