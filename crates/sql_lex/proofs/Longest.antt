-- A token is the longest that begins at its place.
use Rattle.std.proofs.Common.{ℕ, ◌≡◌, ◌<◌, ◌≤◌, Bool, false, List, [], ◌∷◌, ◌++◌, length, take}
use Rattle.std.proofs.Common.{drop, refl, sym, ap, ◌∙◌, arith, append-nil, length-drop, inl, inr}
use Rattle.std.proofs.lemmas.List.{take_at, drop_at, take-append-drop, take-append-le}
use Rattle.std.proofs.lemmas.List.{drop-append-le}
use Rattle.std.proofs.lemmas.Bool.{cases_lt}
use Rattle.sql_texts.specs.Names.{begins_by}
use Rattle.sql_lex.specs.declared.token.Lexeme.{Lexeme}
use Rattle.sql_lex.specs.declared.step.Step.TheVariants as step
use Rattle.sql_lex.specs.Tokens.{IsLexeme, Spells, goes_on}
use Rattle.sql_lex.specs.Scan.{step_of}
use Rattle.sql_lex.proofs.Complete.{lexeme_is_read}

-- what stands first decides
begins_alike : (p : ℕ → Bool) (part more : List ℕ) → 0 < length part →
    begins_by p (part ++ more) ≡ begins_by p part
begins_alike p [] more h = absurd (omega arith)
begins_alike p (b ∷ bs) more h = refl

longer : (l other : Lexeme) (bytes rest front more : List ℕ) → IsLexeme l bytes rest →
    bytes ++ rest ≡ front ++ more → Spells other front → length bytes < length front → ⊥
longer l other bytes rest front more token same spells long =
    let n : ℕ = length bytes in
    let part : List ℕ = drop n front in
    let within : n ≤ length front = omega arith in
    let first : bytes ≡ take n front = sym (take_at bytes rest n refl) ∙ ap (take n) same ∙
    take-append-le n front more within in
    let later : rest ≡ part ++ more = sym (drop_at bytes rest n refl) ∙ ap (drop n) same ∙
    drop-append-le n front more within in
    let some : 0 < length part = omega (arith, length-drop n front) in
    let ends : begins_by (goes_on l) part ≡ false = sym (begins_alike (goes_on l) part more some) ∙
    ap (begins_by (goes_on l)) (sym later) ∙ token.1 in
    let whole : bytes ++ part ≡ front ++ [] = ap (λ (x : List ℕ). x ++ part) first ∙
    take-append-drop n front ∙ sym (append-nil front) in
    let read : step.Token l (length bytes) ≡ step.Token other (length front) =
    sym (lexeme_is_read l bytes part (token.0, ends)) ∙ ap step_of whole ∙
    lexeme_is_read other front [] (spells, refl) in
    let width : length bytes ≡ length front = cc in
    omega arith

pub longest : (l other : Lexeme) (bytes rest front more : List ℕ) → IsLexeme l bytes rest →
    bytes ++ rest ≡ front ++ more → Spells other front → length front ≤ length bytes
longest l other bytes rest front more token same spells =
    elim (cases_lt (length bytes) (length front)) [
      | inl long ↦ absurd (longer l other bytes rest front more token same spells long)
      | inr short ↦ short
    ]
