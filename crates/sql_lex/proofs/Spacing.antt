-- The spans of tokens are in order.
use Rattle.std.proofs.Common.{ℕ, ◌≡◌, ◌+◌, List, [], ◌∷◌, length, sym, ap, ◌∙◌, subst, arith, inl}
use Rattle.std.proofs.Common.{inr}
use Rattle.sql_lex.specs.declared.token.Lexeme.{Lexeme}
use Rattle.sql_lex.specs.declared.token.Lexeme.TheVariants as lexeme
use Rattle.sql_lex.specs.declared.token.Token.{Token}
use Rattle.sql_lex.specs.declared.position.Position.{Position}
use Rattle.sql_lex.specs.Places.{past, moved}
use Rattle.sql_lex.specs.Tokens.{IsLexeme, AreTokens, AreSpans}
use Rattle.sql_lex.proofs.Lists.{token_long, Others}

moved-at : (b : ℕ) (p : Position) → (moved b p).at ≡ p.at + 1
moved-at b p = grind (arith)

past-at : (bytes : List ℕ) (p : Position) → (past bytes p).at ≡ p.at + length bytes
past-at [] p = omega arith
past-at (b ∷ bs) p = omega (arith, past-at bs (moved b p), moved-at b p)

only_last : (t : Token) (ts : List Token) (number : ℕ) (p : Position) (head rest : List ℕ) →
    Others t ts number p head rest → t.lexeme ≡ lexeme.Bad → ts ≡ []
only_last t ts number p head rest (inl h) e =
    let Is : Lexeme → Type 0 = λ l. IsLexeme l head rest in absurd (subst Is e h.0).0
only_last t ts number p head rest (inr h) e = h.1

pub spans : (ts : List Token) (number : ℕ) (p : Position) (bytes : List ℕ) →
    AreTokens ts number p bytes → AreSpans number p.at ts
spans [] number p bytes h = tt
spans (t ∷ ts) number p bytes (gap, head, rest, is, (parts, joined, are), token, others) =
    let q : Position = past gap p in
    let long = token_long t ts number q head rest others in
    let from : t.start ≡ p.at + length gap = ap (λ (x : Token). x.start) token ∙ past-at gap p in
    let upto : t.end ≡ q.at + length head = ap (λ (x : Token). x.end) token in
    let start : t.start ≡ q.at = ap (λ (x : Token). x.start) token in (
      ap (λ (x : Token). x.number) token,
      omega arith,
      omega arith,
      only_last t ts number q head rest others,
      elim others as (λ _. AreSpans (number + 1) t.end ts) [
        | inl h ↦ subst (λ n. AreSpans (number + 1) n ts) (past-at head q ∙ sym upto)
            (spans ts (number + 1) (past head q) rest h.1)
        | inr h ↦ subst (AreSpans (number + 1) t.end) (sym h.1) tt
      ],
    )
