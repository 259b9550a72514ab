-- The constructs that a grammar has open at a place are those that are open there by the tokens
-- alone, and these count how many may be open.
use Rattle.std.proofs.Common.{◌≡◌, ℕ, suc, ◌+◌, ◌-◌, ◌<◌, ◌≤◌, Bool, true, false, ◌||◌}
use Rattle.std.proofs.Common.{if◌then◌else◌, List, [], ◌∷◌, length, drop, refl, ap, sym, ◌∙◌, subst}
use Rattle.std.proofs.Common.{inl, inr, ◌⊎◌, arith, length-drop, add-zero, Result, Ok, Err}
use Rattle.std.proofs.lemmas.Bool.{cases_lt}
use Rattle.std.proofs.lemmas.List.{append-nil}
use Rattle.sql_lex.specs.Openings.{kind_at, opens_at}
use Rattle.sql_lex.specs.declared.token.TokenKind.{TokenKind}
use Rattle.sql_lex.specs.declared.token.Token.{Token}
use Rattle.grammar_algebra.specs.declared.fault.ParseFault.{ParseFault}
use Rattle.grammar_algebra.specs.declared.fault.ParseFault.TheVariants as fault
use Rattle.grammar_algebra.specs.Grammar.{Grammar, Cut, inside, begun}
use Rattle.grammar_algebra.specs.Statement.{BeginsWithin, Front, Answers, PartAnswers}
use Rattle.grammar_sql.specs.Constructs.{before_at, closing, loops_at, open_after, has, stands}
use Rattle.grammar_sql.specs.Constructs.{HasOpenAt, open_past, TellOpenFrom, GoByStepsFrom}
use Rattle.grammar_sql.specs.Constructs.{CountOpenFrom, OpensOneMore, DeepExactly}
use Rattle.grammar_sql.specs.Summary.{in_round, is_sound, rule_sound}
use Rattle.grammar_sql.proofs.Steps.{At, Few}
use Rattle.grammar_sql.proofs.Keeping.{inside_kept}
use Rattle.grammar_sql.proofs.Holding.{added, holds_added}
use Rattle.grammar_sql.proofs.Begun.{has_some, is_begun, no_more}
use Rattle.grammar_sql.specs.Summaries.{all_told, all_stand, part_told}

shorter : (opened : List ℕ) → length (drop 1 opened) ≤ length opened
shorter [] = omega arith
shorter (x ∷ xs) = let e : length (x ∷ xs) ≡ suc (length xs) = refl in omega arith

-- a step past n, from at most n, opens one more
past : (opens closes : Bool) (at : ℕ) (opened : List ℕ) (n : ℕ) → length opened ≤ n →
    n + 1 ≤ length (if opens then at ∷ opened else if closes then drop 1 opened else opened)
    → (length opened ≡ n) ×
    ((if opens then at ∷ opened else if closes then drop 1 opened else opened) ≡ at ∷ opened)
past true closes at opened n l k = let e : length (at ∷ opened) ≡ suc (length opened) = refl in
    (omega arith, refl)
past false true at opened n l k = let s = shorter opened in absurd (omega arith)
past false false at opened n l k = absurd (omega arith)

module _ {R : Type 0} {Tree : R → Type 0} (shut : R → TokenKind)
    (rules : (r : R) → Grammar R Tree (Tree r)) (sound : (r : R) → rule_sound shut rules r ≡ true)
    {A : Type 0} (g : Grammar R Tree A) (part : is_sound shut false g ≡ true) where
  module _ (n : ℕ) (tokens : List Token) (i k : ℕ)
      (before : has (before_at tokens i) (stands false g) ≡ true) where
    start : i ≤ length tokens → At tokens i (drop i tokens) 0 [] (before_at tokens i)
    start l = (
      (omega arith, ap (λ z. drop z tokens) (sym (add-zero i))),
      refl,
      ap
          (before_at tokens) (add-zero i),
    )

    abbrev Reached : List ℕ → Type 0
    Reached opened = (open_after tokens i (k - i) ≡ opened) × Few tokens i 0 (k - i) n ×
        ((m : ℕ) → Few tokens i 0 (k - i) m → Cut (inside rules m) (begun rules m) g (drop i tokens)
        (drop k tokens))

    reached : (opened : List ℕ) → HasOpenAt rules n g tokens i k opened → Reached opened
    reached opened (lk, ll, d) =
        let r = added tokens i rules (in_round shut) n
        (inside_kept tokens i rules (in_round shut) (all_told shut rules sound)
        (all_stand shut rules sound) n)
        (holds_added tokens i rules (in_round shut) (all_told shut rules sound)
        (all_stand shut rules sound) n) false g (part_told shut rules sound g part)
        (drop i tokens) (drop k tokens) opened d 0 [] (before_at tokens i) (start (omega arith))
        refl before in
        let a : length tokens - k ≡ length (drop (i + r.0) tokens) = sym (length-drop k tokens) ∙
        ap length r.2.1 in
        let b : length (drop (i + r.0) tokens) ≡ length tokens - (i + r.0) =
        length-drop (i + r.0) tokens in
        let le : i + r.0 ≤ length tokens = r.2.0 in
        let c : r.0 ≡ k - i = omega arith in (
          ap (λ z. open_after tokens i z) (sym c) ∙ r.3 ∙ append-nil opened,
          λ j x y. (let s : length (open_after tokens i j) ≤ 0 + n = r.4 j x (omega arith) in
              omega arith),
          λ m few. r.5 m
              (λ j x y. let s : length (open_after tokens i j) ≤ m = few j x (omega arith) in
              omega arith),
        )

  pub tell_open_from : (tokens : List Token) (i : ℕ) →
      has (before_at tokens i) (stands false g) ≡ true → TellOpenFrom rules g tokens i
  tell_open_from tokens i before n k = (
    λ b. let w = has_some rules n g tokens i k b in subst (λ z. HasOpenAt rules n g tokens i k z)
        (sym (reached n tokens i k before w.0 w.1).0) w.1,
    λ opened h. (
      is_begun rules n g tokens i k opened h,
      sym
          (reached n tokens i k before opened h).0,
      no_more rules n g tokens i k opened h,
    ),
  )

  -- one step, from both sides by the tokens alone
  pub go_by_steps_from : (tokens : List Token) (i : ℕ) →
      has (before_at tokens i) (stands false g) ≡ true → GoByStepsFrom rules g tokens i
  go_by_steps_from tokens i before n k opened next here there =
      let a = ((tell_open_from tokens i before n k).1 opened here).1 in
      let b = ((tell_open_from tokens i before n (k + 1)).1 next there).1 in
      let lk : i ≤ k = here.0 in
      let one : k + 1 - i ≡ suc (k - i) = omega arith in
      let place : i + (k - i) ≡ k = omega arith in
      b ∙ ap (open_after tokens i) one ∙ ap (λ z. open_past tokens z (open_after tokens i (k - i)))
      place ∙ ap (open_past tokens k) (sym a)

  pub count_open_from : (tokens : List Token) (i : ℕ) →
      has (before_at tokens i) (stands false g) ≡ true → CountOpenFrom rules g tokens i
  count_open_from tokens i before n k = (
    λ b. let w = has_some rules n g tokens i k b in
        ((n, b), λ m l. (reached n tokens i k before w.0 w.1).1 m (omega arith) l),
    λ p. let front = p.0 in let few = p.1 in let w = has_some rules front.0 g tokens i k front.1 in
        (front.1.0, front.1.1, (reached front.0 tokens i k before w.0 w.1).2 n (λ j x y. few j y)),
  )

  -- ---- where there is no room

  module _ (n : ℕ) (tokens : List Token) (i k : ℕ)
      (before : has (before_at tokens i) (stands false g) ≡ true) where
    opens_more : BeginsWithin rules n g tokens i k → (BeginsWithin rules n g tokens i (k + 1) → ⊥) →
        Front rules g tokens i (k + 1) → OpensOneMore n tokens i k
    opens_more here never front =
        let few = ((count_open_from tokens i before n k).0 here).1 in
        let lk : i ≤ k = here.0 in
        let next : k + 1 - i ≡ suc (k - i) = omega arith in
        let place : i + (k - i) ≡ k = omega arith in
        let step = past (opens_at tokens (i + (k - i)) || loops_at tokens (i + (k - i))
        (open_after tokens i (k - i))) (closing (kind_at tokens (i + (k - i)))) (i + (k - i))
        (open_after tokens i (k - i)) n
        (few (k - i) (omega arith))
        (go few (cases_lt n (length (open_after tokens i (suc (k - i)))))) in (
          step.0,
          ap (open_after tokens i) next ∙ step.1 ∙
              ap (λ z. z ∷ open_after tokens i (k - i)) place,
        )
      where
        all : ((m : ℕ) → m ≤ k - i → length (open_after tokens i m) ≤ n) →
            length (open_after tokens i (suc (k - i))) ≤ n → (m : ℕ) → (k - i < m) ⊎ (m ≤ k - i) →
            m ≤ k + 1 - i → length (open_after tokens i m) ≤ n
        all few l m (inr x) y = few m x
        all few l m (inl x) y =
            let lk : i ≤ k = here.0 in let e : m ≡ suc (k - i) = omega arith in
            let s : length (open_after tokens i m) ≡ length (open_after tokens i (suc (k - i))) =
            ap (λ z. length (open_after tokens i z)) e in omega arith

        go : ((m : ℕ) → m ≤ k - i → length (open_after tokens i m) ≤ n) →
            (n < length (open_after tokens i (suc (k - i)))) ⊎
            (length (open_after tokens i (suc (k - i))) ≤ n) →
            n + 1 ≤ length (open_after tokens i (suc (k - i)))
        go few (inr l) =
            absurd (never ((count_open_from tokens i before n (k + 1)).1
            (front, λ m y. all few l m (cases_lt (k - i) m) y)))
        go few (inl l) = omega arith

    no_further : ((k' : ℕ) → BeginsWithin rules n g tokens i k' → k' ≤ k) →
        BeginsWithin rules n g tokens i (k + 1) → ⊥
    no_further h b = let l : k + 1 ≤ k = h (k + 1) b in omega arith

  pub deep_exactly : (n : ℕ) (tokens : List Token) (i : ℕ) →
      has (before_at tokens i) (stands false g) ≡ true → (r : Result (A × ℕ) ParseFault) →
      Answers rules n g tokens i r → DeepExactly rules n g tokens i r
  deep_exactly n tokens i before (Ok p) a = tt
  deep_exactly n tokens i before (Err fault.NoMemory) a = tt
  deep_exactly n tokens i before (Err (fault.NoStatement k)) a = a.0.1
  deep_exactly n tokens i before (Err (fault.TooDeep k)) a = (
    (suc n, a.0.1),
    opens_more n tokens i k before a.0.0.0
        (no_further n tokens i k before a.0.0.1) (suc n, a.0.1),
  )

  pub part_deep_exactly : (n : ℕ) (tokens : List Token) (i : ℕ) →
      has (before_at tokens i) (stands false g) ≡ true → (r : Result (A × ℕ) ParseFault) →
      PartAnswers rules n g tokens i r → DeepExactly rules n g tokens i r
  part_deep_exactly n tokens i before (Ok p) a = tt
  part_deep_exactly n tokens i before (Err fault.NoMemory) a = tt
  part_deep_exactly n tokens i before (Err (fault.NoStatement k)) a = a.0.1
  part_deep_exactly n tokens i before (Err (fault.TooDeep k)) a = (
    (suc n, a.1),
    opens_more n tokens i k before a.0.0 (no_further n tokens i k before a.0.1)
        (suc n, a.1),
  )
