-- The loop of `tokens`: what holds of the tokens so far, and what each step keeps of it.
use Rattle.std.proofs.Common.{ℕ, ◌≡◌, ◌+◌, ◌-◌, ◌<◌, ◌≤◌, List, [], ◌∷◌, ◌++◌, length, take, drop}
use Rattle.std.proofs.Common.{refl, sym, ap, ◌∙◌, subst, arith, append_assoc, append-nil}
use Rattle.std.proofs.Common.{length-append, length-drop}
use Rattle.std.proofs.lemmas.List.{take_at, drop_at, take-append-drop, drop-drop, drop_all}
use Rattle.std.proofs.lemmas.List.{length-take-le}
use Rattle.sql_lex.specs.declared.token.Lexeme.{Lexeme}
use Rattle.sql_lex.specs.declared.token.Lexeme.TheVariants as lexeme
use Rattle.sql_lex.specs.declared.token.Token.{Token}
use Rattle.sql_lex.specs.declared.step.Step.{Step}
use Rattle.sql_lex.specs.declared.step.Step.TheVariants as step
use Rattle.sql_lex.specs.declared.position.Position.{Position}
use Rattle.sql_lex.specs.Places.{origin, past}
use Rattle.sql_lex.specs.Tokens.{token_at, AreTokens}
use Rattle.sql_lex.specs.Scan.{step_of}
use Rattle.sql_lex.proofs.Scanning.{rest_of}
use Rattle.sql_lex.proofs.Sound.{HasPiece, HasLexeme, Stands, step_stands}
use Rattle.sql_lex.proofs.Lists.{past-append, piece_long, lexeme_long, after_piece, after_lexeme}
use Rattle.sql_lex.proofs.Lists.{at_bad, no_tokens}

-- a step over some bytes, which are at the head
pub record Moves (s : List ℕ) (width : ℕ) : Type 0 where
  pub long : 0 < width
  pub within : width ≤ length s

parts_move : (s bytes rest : List ℕ) (width : ℕ) → s ≡ bytes ++ rest → width ≡ length bytes →
    0 < length bytes → Moves s width
parts_move s bytes rest width parts is long =
    record { long = omega arith; within = omega (arith, ap length parts, length-append bytes rest) }

pub gap_moves : (s : List ℕ) (w : ℕ) → step_of s ≡ step.Gap w → Moves s w
gap_moves s w e =
    let q : HasPiece s w = subst (λ x. Stands x s) e (step_stands s) in
    parts_move s q.bytes q.rest w q.parts q.width_is (piece_long q.bytes q.rest q.piece)

pub token_moves : (s : List ℕ) (l : Lexeme) (w : ℕ) → step_of s ≡ step.Token l w → Moves s w
token_moves s l w e =
    let q : HasLexeme l s w = subst (λ x. Stands x s) e (step_stands s) in
    parts_move s q.bytes q.rest w q.parts q.width_is (lexeme_long l q.bytes q.rest q.lexeme)

-- these tokens, and whatever tokens the bytes from here on have, are the tokens of all the bytes
pub record SoFar (bytes : List ℕ) (list : List Token) (p : Position) : Type 0 where
  pub within : p.at ≤ length bytes
  pub line : p.line ≤ p.at + 1
  pub column : p.column ≤ p.at + 1
  pub leads : past (drop p.at bytes) p ≡ past bytes origin
  pub tokens : (others : List Token) → AreTokens others (length list) p (drop p.at bytes) →
      AreTokens (list ++ others) 0 origin bytes

pub so_far_nothing : (bytes : List ℕ) → SoFar bytes [] origin
so_far_nothing bytes = record {
  within = omega arith;
  line = omega arith;
  column = omega arith;
  leads = refl;
  tokens = λ others h. h;
}

-- the bytes from the next place on
module _ (bytes : List ℕ) (list : List Token) (p q : Position) (w : ℕ) (so_far : SoFar bytes list p)
    (q_is : q ≡ past (take w (drop p.at bytes)) p) (q_at : q.at ≡ p.at + w)
    (q_line : q.line ≤ q.at + 1) (q_column : q.column ≤ q.at + 1) where
  rest_is : drop w (drop p.at bytes) ≡ drop q.at bytes
  rest_is = drop-drop w p.at bytes ∙ ap (λ (n : ℕ). drop n bytes) (sym q_at)

  leads_on : past (drop q.at bytes) q ≡ past bytes origin
  leads_on =
      let s : List ℕ = drop p.at bytes in
      (λ i. past (sym rest_is i) (q_is i)) ∙ sym (past-append (take w s) (drop w s) p) ∙
      ap (λ (l : List ℕ). past l p) (take-append-drop w s) ∙ so_far.leads

  still_within : w ≤ length (drop p.at bytes) → q.at ≤ length bytes
  still_within h = omega (arith, length-drop p.at bytes, so_far.within)

  pub so_far_gap : step_of (drop p.at bytes) ≡ step.Gap w → SoFar bytes list q
  so_far_gap e =
      let s : List ℕ = drop p.at bytes in
      let m = gap_moves s w e in
      let h : HasPiece s w = subst (λ x. Stands x s) e (step_stands s) in
      let front : take w s ≡ h.bytes = ap (take w) h.parts ∙
      take_at h.bytes h.rest w (sym h.width_is) in
      let back : drop w s ≡ h.rest = ap (drop w) h.parts ∙
      drop_at h.bytes h.rest w (sym h.width_is) in
      record {
        within = still_within m.within;
        line = q_line;
        column = q_column;
        leads = leads_on;
        tokens = λ others k.
            let At : Position → List ℕ → Type 0 =
            λ place rest. AreTokens others (length list) place rest in
            let moved : At (past h.bytes p) h.rest =
            subst (λ rest. At (past h.bytes p) rest) (sym rest_is ∙ back)
            (subst (λ place. At place (drop q.at bytes))
            (q_is ∙ ap (λ (l : List ℕ). past l p) front) k) in
            so_far.tokens others (subst (At p) (sym h.parts)
            (after_piece others (length list) p h.bytes h.rest h.piece moved));
      }

  pub so_far_token : (l : Lexeme) → step_of (drop p.at bytes) ≡ step.Token l w →
      SoFar bytes (list ++ token_at l (length list) p w ∷ []) q
  so_far_token l e =
      let s : List ℕ = drop p.at bytes in
      let m = token_moves s l w e in
      let h : HasLexeme l s w = subst (λ x. Stands x s) e (step_stands s) in
      let front : take w s ≡ h.bytes = ap (take w) h.parts ∙
      take_at h.bytes h.rest w (sym h.width_is) in
      let back : drop w s ≡ h.rest = ap (drop w) h.parts ∙
      drop_at h.bytes h.rest w (sym h.width_is) in
      let t : Token = token_at l (length list) p w in
      record {
        within = still_within m.within;
        line = q_line;
        column = q_column;
        leads = leads_on;
        tokens = λ others k.
            let At : ℕ → Position → List ℕ → Type 0 =
            λ number place rest. AreTokens others number place rest in
            let count : length (list ++ t ∷ []) ≡ length list + 1 = length-append list (t ∷ []) in
            let moved : At (length list + 1) (past h.bytes p) h.rest =
            subst (λ rest. At (length list + 1) (past h.bytes p) rest) (sym rest_is ∙ back)
            (subst (λ place. At (length list + 1) place (drop q.at bytes))
            (q_is ∙ ap (λ (l : List ℕ). past l p) front)
            (subst (λ number. At number q (drop q.at bytes)) count k)) in
            let joined = after_lexeme l others (length list) p h.bytes h.rest h.lexeme moved in
            let here : AreTokens (t ∷ others) (length list) p s =
            subst (λ width. AreTokens (token_at l (length list) p width ∷ others)
            (length list) p s) (sym h.width_is)
            (subst (AreTokens (token_at l (length list) p (length h.bytes) ∷ others)
            (length list) p) (sym h.parts) joined) in
            let Whole : List Token → Type 0 = λ ts. AreTokens ts 0 origin bytes in
            subst Whole (sym (append_assoc list (t ∷ []) others)) (so_far.tokens (t ∷ others) here);
      }

pub so_far_bad : (bytes : List ℕ) (list : List Token) (p q : Position) → SoFar bytes list p →
    p.at < length bytes → q ≡ past (drop p.at bytes) p → q.at ≡ p.at + length (drop p.at bytes) →
    q.line ≤ q.at + 1 → q.column ≤ q.at + 1 → step_of (drop p.at bytes) ≡ step.Bad →
    SoFar bytes (list ++ token_at lexeme.Bad (length list) p 1 ∷ []) q
so_far_bad bytes list p q so_far inside q_is q_at q_line q_column e =
    let s : List ℕ = drop p.at bytes in
    let end : q.at ≡ length bytes = omega (arith, length-drop p.at bytes, so_far.within) in
    let none : drop q.at bytes ≡ [] = drop_all q.at bytes (omega arith) in
    let t : Token = token_at lexeme.Bad (length list) p 1 in
    record {
      within = omega arith;
      line = q_line;
      column = q_column;
      leads = ap (λ (l : List ℕ). past l q) none ∙ q_is ∙ so_far.leads;
      tokens = λ others k.
          let nothing : others ≡ [] = no_tokens others (length (list ++ t ∷ [])) q
          (subst (AreTokens others (length (list ++ t ∷ [])) q) none k) in
          let Whole : List Token → Type 0 = λ ts. AreTokens ts 0 origin bytes in
          let here = so_far.tokens (t ∷ []) (at_bad (length list) p s
          (omega (arith, length-drop p.at bytes)) e) in
          subst Whole (sym (append-nil (list ++ t ∷ [])) ∙
          ap (λ (l : List Token). (list ++ t ∷ []) ++ l) (sym nothing)) here;
    }

pub so_far_all : (bytes : List ℕ) (list : List Token) (p : Position) → SoFar bytes list p →
    length bytes ≤ p.at → (p ≡ past bytes origin) × AreTokens list 0 origin bytes
so_far_all bytes list p so_far end =
    let none : drop p.at bytes ≡ [] = drop_all p.at bytes end in
    let Whole : List Token → Type 0 = λ ts. AreTokens ts 0 origin bytes in (
      sym (ap (λ (l : List ℕ). past l p) none) ∙ so_far.leads,
      subst Whole (append-nil list) (so_far.tokens [] ([], none, tt)),
    )

-- the same for the slices of the code: what is left from a place on, and the bytes of a step
abbrev pub rest_at : List ℕ → ℕ → List ℕ
rest_at bytes at = take (length bytes - at) (drop at bytes)

pub cut_is : (bytes : List ℕ) (at w : ℕ) → Moves (drop at bytes) w →
    w ≡ length (take w (rest_at bytes at))
cut_is bytes at w m = sym (ap (λ (l : List ℕ). length (take w l)) (rest_of bytes at) ∙
    length-take-le w (drop at bytes) m.within)

pub gap_ahead : (bytes : List ℕ) (at w : ℕ) (s : Step) → s ≡ step_of (rest_at bytes at) →
    s ≡ step.Gap w → step_of (drop at bytes) ≡ step.Gap w
gap_ahead bytes at w s e is = ap step_of (sym (rest_of bytes at)) ∙ sym e ∙ is

pub token_ahead : (bytes : List ℕ) (at w : ℕ) (l : Lexeme) (s : Step) →
    s ≡ step_of (rest_at bytes at) → s ≡ step.Token l w → step_of (drop at bytes) ≡ step.Token l w
token_ahead bytes at w l s e is = ap step_of (sym (rest_of bytes at)) ∙ sym e ∙ is

pub bad_ahead : (bytes : List ℕ) (at : ℕ) (s : Step) → s ≡ step_of (rest_at bytes at) →
    s ≡ step.Bad → step_of (drop at bytes) ≡ step.Bad
bad_ahead bytes at s e is = ap step_of (sym (rest_of bytes at)) ∙ sym e ∙ is

pub gap_passed : (bytes : List ℕ) (list : List Token) (p q : Position) (w : ℕ) →
    SoFar bytes list p → step_of (drop p.at bytes) ≡ step.Gap w →
    q ≡ past (take w (rest_at bytes p.at)) p → q.at ≡ p.at + length (take w (rest_at bytes p.at)) →
    q.line ≤ q.at + 1 → q.column ≤ q.at + 1 → SoFar bytes list q
gap_passed bytes list p q w so_far e q_is q_at q_line q_column =
    let width = cut_is bytes p.at w (gap_moves (drop p.at bytes) w e) in
    so_far_gap bytes list p q w so_far (q_is ∙ ap (λ (l : List ℕ). past (take w l) p)
    (rest_of bytes p.at)) (q_at ∙ ap (λ n. p.at + n) (sym width)) q_line q_column e

pub token_passed : (bytes : List ℕ) (list more : List Token) (p q : Position) (l : Lexeme) (w : ℕ) →
    SoFar bytes list p → step_of (drop p.at bytes) ≡ step.Token l w →
    more ≡ list ++ token_at l (length list) p w ∷ [] → q ≡ past (take w (rest_at bytes p.at)) p →
    q.at ≡ p.at + length (take w (rest_at bytes p.at)) → q.line ≤ q.at + 1 → q.column ≤ q.at + 1 →
    SoFar bytes more q
token_passed bytes list more p q l w so_far e is q_is q_at q_line q_column =
    let width = cut_is bytes p.at w (token_moves (drop p.at bytes) l w e) in
    subst (λ ts. SoFar bytes ts q) (sym is)
    (so_far_token bytes list p q w so_far (q_is ∙ ap (λ (l : List ℕ). past (take w l) p)
    (rest_of bytes p.at)) (q_at ∙ ap (λ n. p.at + n) (sym width)) q_line q_column l e)

pub bad_passed : (bytes : List ℕ) (list more : List Token) (p q : Position) → SoFar bytes list p →
    p.at < length bytes → step_of (drop p.at bytes) ≡ step.Bad →
    more ≡ list ++ token_at lexeme.Bad (length list) p 1 ∷ [] → q ≡ past (rest_at bytes p.at) p →
    q.at ≡ p.at + length (rest_at bytes p.at) → q.line ≤ q.at + 1 → q.column ≤ q.at + 1 →
    SoFar bytes more q
bad_passed bytes list more p q so_far inside e is q_is q_at q_line q_column =
    subst (λ ts. SoFar bytes ts q) (sym is)
    (so_far_bad bytes list p q so_far inside (q_is ∙
    ap (λ (l : List ℕ). past l p) (rest_of bytes p.at))
    (q_at ∙ ap (λ (l : List ℕ). p.at + length l) (rest_of bytes p.at)) q_line q_column e)
