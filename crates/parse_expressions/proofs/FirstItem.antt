-- What a list that is read item by item comes to after its first one.
use Rattle.std.proofs.Common.{◌≡◌, ℕ, List, [], ◌∷◌, ◌++◌, Ok, Err, refl, ap, sym, ◌∙◌}
use Rattle.sql_lex.specs.declared.token.Token.{Token}
use Rattle.grammar_algebra.specs.Grammar.{both, map_to}
use Rattle.grammar_algebra.specs.Reading.{Outcome, reading, with_front, ◌>>=◌}
use Rattle.grammar_sql.specs.Trees.{G}
use Rattle.grammar_sql.specs.Sql.{rules}

-- what is read after the first part, with it
abbrev pub with_part : {A B : Type 0} → A → Outcome B → Outcome (A × B)
with_part first o = o >>= λ q. Ok ((first, q.0), q.1)

abbrev in_front : {A : Type 0} → Outcome (A × List A) → Outcome (List A)
in_front o = o >>= λ p. Ok (p.0.0 ∷ p.0.1, p.1)

abbrev all_in_front : {A : Type 0} → Outcome (List A × List A) → Outcome (List A)
all_in_front o = o >>= λ p. Ok (p.0.0 ++ p.0.1, p.1)

one_more : {A : Type 0} (first : A) (o : Outcome (List A)) →
    with_front (first ∷ []) o ≡ in_front (with_part first o)
one_more first (Ok p) = refl
one_more first (Err f) = refl

some_more : {A : Type 0} (first : List A) (o : Outcome (List A)) →
    with_front first o ≡ all_in_front (with_part first o)
some_more first (Ok p) = refl
some_more first (Err f) = refl

-- after a first item
pub after_first : {A : Type 0} (n : ℕ) (g : G A) (more : G (List A)) (ts next : List Token)
    (first : A) (found : List A)
    → reading rules n g ts ≡ Ok (first, next) → found ≡ first ∷ []
    → with_front found (reading rules n more next) ≡ reading rules n
    (map_to (λ p. p.0 ∷ p.1) (both g more)) ts
after_first n g more ts next first found r e =
    ap (λ z. with_front z (reading rules n more next)) e
    ∙ one_more first (reading rules n more next)
    ∙ sym (ap (λ z. in_front (z >>= λ p. with_part p.0 (reading rules n more p.1))) r)

-- after a first list, to which the others are put
pub after_first_list : {A : Type 0} (n : ℕ) (g more : G (List A)) (ts next : List Token)
    (first : List A)
    → reading rules n g ts ≡ Ok (first, next)
    → with_front first (reading rules n more next) ≡ reading rules n
    (map_to (λ p. p.0 ++ p.1) (both g more)) ts
after_first_list n g more ts next first r =
    some_more first (reading rules n more next)
    ∙ sym (ap (λ z. all_in_front (z >>= λ p. with_part p.0 (reading rules n more p.1))) r)
