-- A statement ends in its `;`, and so none begins right after END.
use Rattle.std.proofs.Common.{◌≡◌, ℕ, zero, suc, ◌+◌, ◌-◌, ◌<◌, ◌≤◌, false, List, ◌∷◌, length, drop}
use Rattle.std.proofs.Common.{refl, ap, sym, ◌∙◌, get_or, arith, length-drop}
use Rattle.std.proofs.lemmas.List.{get_or-drop}
use Rattle.sql_lex.specs.declared.sign.Sign.TheVariants as s
use Rattle.sql_lex.specs.declared.token.Lexeme.TheVariants as lexeme
use Rattle.sql_lex.specs.declared.token.Token.{Token}
use Rattle.sql_lex.specs.declared.token.TokenKind.TheVariants as kind
use Rattle.sql_lex.specs.Openings.{kind_at, is_end, follows_end}
use Rattle.sql_lex.specs.Places.{origin}
use Rattle.sql_lex.specs.Tokens.{kind_of, token_at}
use Rattle.statement_trees.specs.declared.statement.Stmt.{Stmt}
use Rattle.grammar_algebra.specs.Grammar.{Spells, inside}
use Rattle.grammar_algebra.specs.Statement.{SpellsWithin}
use Rattle.grammar_algebra.proofs.Laws.{After, after_next, spells_after, inside_after}
use Rattle.grammar_sql.specs.Sql.{rules, unended, statement}
use Rattle.grammar_ends.specs.Begins.{Begins, next}

-- the last token of what is spelled is a `;`
record IsEnded (ts rest : List Token) : Type 0 where
  middle : List Token
  sign : Token
  after : After ts middle
  is_sign : kind_of sign.lexeme ≡ kind.Sign s.Semicolon
  at_end : middle ≡ sign ∷ rest

is_ended : (n : ℕ) (tree : Stmt) (ts rest : List Token) →
    Spells (inside rules n) statement tree ts rest → IsEnded ts rest
unfolding statement
is_ended n tree ts rest (q, e, (middle, p, (is, at))) = record {
  middle = middle;
  sign = q.1;
  after = spells_after (inside rules n) (inside_after rules n) unended q.0 ts middle p;
  is_sign = is;
  at_end = at;
}

-- where the tokens from a place on are one and those from another on, it stands before them
stands_before : (tokens : List Token) (k to : ℕ) (t : Token) → k ≤ length tokens →
    to ≤ length tokens → drop k tokens ≡ t ∷ drop to tokens →
    kind_at tokens (to - 1) ≡ kind_of t.lexeme
stands_before tokens k to t lk lt e =
    let a : length tokens - k ≡ suc (length (drop to tokens)) = sym (length-drop k tokens) ∙
    ap length e in
    let b : length (drop to tokens) ≡ length tokens - to = length-drop to tokens in
    let c : to - 1 ≡ k + 0 = omega arith in
    ap (kind_at tokens) c ∙
    ap (λ (z : Token). kind_of z.lexeme)
    (sym (get_or-drop k tokens 0 (token_at lexeme.Bad 0 origin 0)) ∙
    ap (λ z. get_or z 0 (token_at lexeme.Bad 0 origin 0)) e)

pub goes_on_from : (n : ℕ) (tokens : List Token) (at : ℕ) (tree : Stmt) (to : ℕ) →
    SpellsWithin rules n statement tokens at tree to → at < to
goes_on_from n tokens at tree to p =
    let z = is_ended n tree (drop at tokens) (drop to tokens) p.2 in
    let first : ℕ = z.after.0 in
    let a : length z.middle ≡ length (drop at tokens) - first = ap length z.after.2 ∙
    length-drop first (drop at tokens) in
    let b : length z.middle ≡ suc (length (drop to tokens)) = ap length z.at_end in
    let c : length (drop at tokens) ≡ length tokens - at = length-drop at tokens in
    let d : length (drop to tokens) ≡ length tokens - to = length-drop to tokens in
    let r : to ≤ length tokens = p.1 in
    omega arith

pub ends_in_semicolon : (n : ℕ) (tokens : List Token) (at : ℕ) (tree : Stmt) (to : ℕ) →
    SpellsWithin rules n statement tokens at tree to →
    kind_at tokens (to - 1) ≡ kind.Sign s.Semicolon
ends_in_semicolon n tokens at tree to p =
    let z = is_ended n tree (drop at tokens) (drop to tokens) p.2 in
    let l : at ≤ to = p.0 in
    let r : to ≤ length tokens = p.1 in
    let a : After tokens z.middle = after_next tokens (drop at tokens) z.middle
    (at, omega arith, refl) z.after in
    stands_before tokens a.0 to z.sign a.1 r (sym a.2 ∙ z.at_end) ∙ z.is_sign

-- after a token that is no END
after_other : (tokens : List Token) (to : ℕ) → 0 < to →
    kind_at tokens (to - 1) ≡ kind.Sign s.Semicolon → follows_end tokens to ≡ false
after_other tokens zero l e = refl
after_other tokens (suc before) l e = let same : before ≡ suc before - 1 = omega arith in
    ap (λ z. is_end (kind_at tokens z)) same ∙ ap is_end e

pub not_after_end : (n : ℕ) (tokens : List Token) (at : ℕ) (tree : Stmt) (to : ℕ) →
    SpellsWithin rules n statement tokens at tree to → follows_end tokens to ≡ false
not_after_end n tokens at tree to p =
    let l : at < to = goes_on_from n tokens at tree to p in
    after_other tokens to (omega arith) (ends_in_semicolon n tokens at tree to p)

pub begins_elsewhere : (tokens : List Token) (at : ℕ) → Begins tokens at →
    follows_end tokens at ≡ false
begins_elsewhere tokens zero b = refl
begins_elsewhere tokens at (next before b n tree to p) = not_after_end n tokens before tree to p
