-- Lists of tokens: what one step adds, that each script has one list, and no other.
use Rattle.std.proofs.Common.{ℕ, zero, suc, ◌≡◌, ◌+◌, ◌<◌, ◌≤◌, List, [], ◌∷◌, ◌++◌, length, take}
use Rattle.std.proofs.Common.{drop, refl, sym, ap, ◌∙◌, subst, arith, append_assoc, append-nil}
use Rattle.std.proofs.Common.{length-append, inl, inr}
use Rattle.std.specs.Prelude.{◌⊎◌}
use Rattle.std.specs.List.{concat}
use Rattle.std.proofs.lemmas.List.{take_at, drop_at}
use Rattle.sql_lex.specs.declared.token.Lexeme.{Lexeme}
use Rattle.sql_lex.specs.declared.token.Lexeme.TheVariants as lexeme
use Rattle.sql_lex.specs.declared.token.Token.{Token}
use Rattle.sql_lex.specs.declared.step.Step.TheVariants as step
use Rattle.sql_lex.specs.declared.sign.Sign.{Sign}
use Rattle.sql_lex.specs.declared.sign.Sign.TheVariants as sign
use Rattle.sql_lex.specs.declared.position.Position.{Position}
use Rattle.sql_lex.specs.Places.{origin, past, moved}
use Rattle.sql_lex.specs.Signs.{sign_spelling}
use Rattle.sql_lex.specs.Tokens.{IsLexeme, IsPiece, ArePieces, BeginsNothing, token_at, AreTokens}
use Rattle.sql_lex.specs.Tokens.{Lexing, IsTokens}
use Rattle.sql_lex.specs.Scan.{step_of}
use Rattle.sql_lex.proofs.Complete.{piece_is_read, lexeme_is_read}
use Rattle.sql_lex.proofs.Sound.{Stands, step_stands}

pub past-append : (a b : List ℕ) (p : Position) → past (a ++ b) p ≡ past b (past a p)
past-append [] b p = refl
past-append (x ∷ xs) b p = past-append xs b (moved x p)

-- no piece and no token is empty
pub piece_long : (bytes rest : List ℕ) → IsPiece bytes rest → 0 < length bytes
piece_long bytes rest (inl h) = omega (arith, ap length h.2)
piece_long bytes rest (inr (inl h)) = omega (arith, ap length h.3)
piece_long bytes rest (inr (inr h)) = omega (arith, ap length h.2)

sign_long : (g : Sign) → 0 < length (sign_spelling g)
sign_long sign.LeftParen = omega arith
sign_long sign.RightParen = omega arith
sign_long sign.Comma = omega arith
sign_long sign.Semicolon = omega arith
sign_long sign.Colon = omega arith
sign_long sign.Period = omega arith
sign_long sign.QuestionMark = omega arith
sign_long sign.Equals = omega arith
sign_long sign.LessThan = omega arith
sign_long sign.GreaterThan = omega arith
sign_long sign.Plus = omega arith
sign_long sign.Minus = omega arith
sign_long sign.Asterisk = omega arith
sign_long sign.Solidus = omega arith
sign_long sign.NotEquals = omega arith
sign_long sign.LessThanOrEquals = omega arith
sign_long sign.GreaterThanOrEquals = omega arith
sign_long sign.Concatenation = omega arith

pub lexeme_long : (l : Lexeme) (bytes rest : List ℕ) → IsLexeme l bytes rest → 0 < length bytes
lexeme_long (lexeme.Name name) [] rest h = let like = h.0.0 in cc
lexeme_long (lexeme.Name name) (b ∷ bs) rest h = omega arith
lexeme_long (lexeme.Word word) [] rest h = let like = h.0.0 in cc
lexeme_long (lexeme.Word word) (b ∷ bs) rest h = omega arith
lexeme_long (lexeme.Number n) bytes rest h = h.0.0
lexeme_long (lexeme.Text text) bytes rest h = omega (arith, ap length h.0.2)
lexeme_long (lexeme.Sign sign) bytes rest h = omega (arith, ap length h.0, sign_long sign)
lexeme_long lexeme.Bad bytes rest h = absurd h.0

-- where a step reads nothing, nothing begins, and the other way round
pub nothing_begins : (s : List ℕ) → step_of s ≡ step.Bad → BeginsNothing s
nothing_begins s bad head rest parts = (
  λ piece. let read = piece_is_read head rest piece in
      let same : step.Gap (length head) ≡ step.Bad = sym read ∙ ap step_of (sym parts) ∙ bad in cc,
  λ l token. let read = lexeme_is_read l head rest token in
      let same : step.Token l (length head) ≡ step.Bad = sym read ∙ ap step_of (sym parts) ∙ bad in
      cc,
)

bad_is_read : (s : List ℕ) → BeginsNothing s → step_of s ≡ step.Bad
bad_is_read s none =
    elim (step_of s) as (λ x. Stands x s → x ≡ step.Bad) [
      | step.Gap w ↦ λ q. absurd ((none q.bytes q.rest q.parts).0 q.piece)
      | step.Token l w ↦ λ q. absurd ((none q.bytes q.rest q.parts).1 l q.lexeme)
      | step.Bad ↦ λ _. refl
    ] (step_stands s)

-- a piece in front joins the gap
pub after_piece : (ts : List Token) (number : ℕ) (p : Position) (bytes rest : List ℕ) →
    IsPiece bytes rest → AreTokens ts number (past bytes p) rest →
    AreTokens ts number p (bytes ++ rest)
after_piece [] number p bytes rest piece (parts, is, are) =
    let whole : rest ≡ concat parts ++ [] = is ∙ sym (append-nil (concat parts)) in
    (bytes ∷ parts, ap (λ (l : List ℕ). bytes ++ l) is, (subst (IsPiece bytes) whole piece, are))
after_piece (t ∷ ts) number p bytes rest piece
    (gap, head, more, is, (parts, joined, are), token, others) =
    let place = sym (past-append bytes gap p) in
    let before : rest ≡ concat parts ++ (head ++ more) = is ∙
    ap (λ (l : List ℕ). l ++ (head ++ more)) joined in
    let Others : Position → Type 0 = λ q. (IsLexeme t.lexeme head more ×
    AreTokens ts (number + 1) (past head q) more) ⊎
    ((t.lexeme ≡ lexeme.Bad) × (ts ≡ []) × (length head ≡ 1) × BeginsNothing (head ++ more)) in (
      bytes ++ gap,
      head,
      more,
      ap (λ (l : List ℕ). bytes ++ l) is ∙ sym (append_assoc bytes gap (head ++ more)),
      (
        bytes ∷ parts,
        ap (λ (l : List ℕ). bytes ++ l) joined,
        (subst (IsPiece bytes) before piece, are),
      ),
      token ∙ ap (λ q. token_at t.lexeme number q (length head)) place,
      subst Others place others,
    )

-- a token in front joins the list
pub after_lexeme : (l : Lexeme) (ts : List Token) (number : ℕ) (p : Position)
    (bytes rest : List ℕ) → IsLexeme l bytes rest → AreTokens ts (number + 1) (past bytes p) rest →
    AreTokens (token_at l number p (length bytes) ∷ ts) number p (bytes ++ rest)
after_lexeme l ts number p bytes rest token others =
    ([], bytes, rest, refl, ([], refl, tt), refl, inl (token, others))

-- a Bad token ends the list
pub at_bad : (number : ℕ) (p : Position) (s : List ℕ) → 0 < length s → step_of s ≡ step.Bad →
    AreTokens (token_at lexeme.Bad number p 1 ∷ []) number p s
at_bad number p [] long bad = absurd (omega arith)
at_bad number p (b ∷ bs) long bad = (
  [],
  b ∷ [],
  bs,
  refl,
  ([], refl, tt),
  refl,
  inr
      (refl, refl, refl, nothing_begins (b ∷ bs) bad),
)

-- existence
pub tokens_of : (fuel : ℕ) (s : List ℕ) (number : ℕ) (p : Position) → length s ≤ fuel →
    (ts : List Token) × AreTokens ts number p s
tokens_of fuel [] number p h = ([], ([], refl, tt))
tokens_of zero (b ∷ bs) number p h = absurd (omega arith)
tokens_of (suc fuel) (b ∷ bs) number p h =
    let s : List ℕ = b ∷ bs in
    elim (step_of s) as (λ x. step_of s ≡ x → Stands x s → (ts : List Token) ×
    AreTokens ts number p s) [
      | step.Gap w ↦ λ _ q.
          let shorter : length q.rest ≤ fuel =
          omega (
            arith,
            ap length q.parts,
            length-append q.bytes q.rest,
            piece_long q.bytes
                q.rest q.piece,
          ) in
          let others = tokens_of fuel q.rest number (past q.bytes p) shorter in (
            others.0,
            subst (AreTokens others.0 number p) (sym q.parts)
                (after_piece others.0 number p q.bytes q.rest q.piece others.1),
          )
      | step.Token l w ↦ λ _ q.
          let shorter : length q.rest ≤ fuel =
          omega (
            arith,
            ap length q.parts,
            length-append q.bytes q.rest,
            lexeme_long l q.bytes
                q.rest q.lexeme,
          ) in
          let others = tokens_of fuel q.rest (number + 1) (past q.bytes p) shorter in
          let ts : List Token = token_at l number p (length q.bytes) ∷ others.0 in (
            ts,
            subst (AreTokens ts number p) (sym q.parts)
                (after_lexeme l others.0 number p q.bytes q.rest q.lexeme others.1),
          )
      | step.Bad ↦ λ bad _. (
        token_at lexeme.Bad number p 1 ∷ [],
        at_bad number p s
            (omega arith) bad,
      )
    ] refl (step_stands s)

pub one_lexing : (bytes : List ℕ) → (t : Lexing) × IsTokens bytes t
one_lexing bytes =
    let read = tokens_of (length bytes) bytes 0 origin (omega arith) in (
      record {
        tokens = read.0;
        end_line = (past bytes origin).line;
        end_column =
            (past bytes origin).column;
      },
      (read.1, refl, refl),
    )

-- two lists that begin alike, at equal lengths
fronts : (a b c d : List ℕ) → a ++ b ≡ c ++ d → length a ≡ length c → (a ≡ c) × (b ≡ d)
fronts a b c d e n = (
  sym (take_at a b (length c) n) ∙ ap (take (length c)) e ∙ take_at c d (length c) refl,
  sym (drop_at a b (length c) n) ∙ ap (drop (length c)) e ∙ drop_at c d (length c) refl,
)

-- no piece is read at the head
abbrev NoPiece : List ℕ → Type 0
NoPiece s = (w : ℕ) → step_of s ≡ step.Gap w → ⊥

no_piece-nil : NoPiece []
no_piece-nil w e = let same : step.Bad ≡ step.Gap w = e in cc

no_piece-lexeme : (l : Lexeme) (head rest : List ℕ) → IsLexeme l head rest → NoPiece (head ++ rest)
no_piece-lexeme l head rest token w e =
    let read = lexeme_is_read l head rest token in
    let same : step.Token l (length head) ≡ step.Gap w = sym read ∙ e in cc

no_piece-bad : (s : List ℕ) → BeginsNothing s → NoPiece s
no_piece-bad s none w e = let read = bad_is_read s none in
    let same : step.Bad ≡ step.Gap w = sym read ∙ e in cc

-- a gap reaches as far as another
gaps : (parts others : List (List ℕ)) (s t : List ℕ) → ArePieces parts s → ArePieces others t →
    concat parts ++ s ≡ concat others ++ t → NoPiece s → NoPiece t →
    (concat parts ≡ concat others) × (s ≡ t)
gaps [] [] s t _ _ e _ _ = (refl, e)
gaps [] (q ∷ qs) s t _ is e none _ =
    absurd (none (length q) (ap step_of (e ∙ append_assoc q (concat qs) t) ∙
    piece_is_read q (concat qs ++ t) is.0))
gaps (p ∷ ps) [] s t is _ e _ none =
    absurd (none (length p) (ap step_of (sym e ∙ append_assoc p (concat ps) s) ∙
    piece_is_read p (concat ps ++ s) is.0))
gaps (p ∷ ps) (q ∷ qs) s t is are e none nothing =
    let whole : p ++ (concat ps ++ s) ≡ q ++ (concat qs ++ t) = sym (append_assoc p (concat ps) s) ∙
    e ∙ append_assoc q (concat qs) t in
    let same : step.Gap (length p) ≡ step.Gap (length q) =
    sym (piece_is_read p (concat ps ++ s) is.0) ∙ ap step_of whole ∙
    piece_is_read q (concat qs ++ t) are.0 in
    let long : length p ≡ length q = cc in
    let first = fronts p (concat ps ++ s) q (concat qs ++ t) whole long in
    let others = gaps ps qs s t is.1 are.1 first.1 none nothing in
    (λ i. first.0 i ++ others.0 i, others.1)

-- what a token says of its bytes
abbrev pub Others : Token → List Token → ℕ → Position → List ℕ → List ℕ → Type 0
Others t ts number p head rest =
    (IsLexeme t.lexeme head rest × AreTokens ts (number + 1) (past head p) rest) ⊎
    ((t.lexeme ≡ lexeme.Bad) × (ts ≡ []) × (length head ≡ 1) × BeginsNothing (head ++ rest))

no_piece-token : (t : Token) (ts : List Token) (number : ℕ) (p : Position) (head rest : List ℕ) →
    Others t ts number p head rest → NoPiece (head ++ rest)
no_piece-token t ts number p head rest (inl h) = no_piece-lexeme t.lexeme head rest h.0
no_piece-token t ts number p head rest (inr h) = no_piece-bad (head ++ rest) h.3

pub token_long : (t : Token) (ts : List Token) (number : ℕ) (p : Position) (head rest : List ℕ) →
    Others t ts number p head rest → 0 < length head
token_long t ts number p head rest (inl h) = lexeme_long t.lexeme head rest h.0
token_long t ts number p head rest (inr h) = omega (arith, h.2)

-- nothing is left of no bytes
pub no_tokens : (ts : List Token) (number : ℕ) (p : Position) → AreTokens ts number p [] → ts ≡ []
no_tokens [] number p h = refl
no_tokens (t ∷ ts) number p (gap, head, rest, is, (parts, joined, are), token, others) =
    let long = token_long t ts number (past gap p) head rest others in
    absurd (omega (arith, ap length is, length-append gap (head ++ rest), length-append head rest))

mutual_heads : (t u : Token) (ts us : List Token) (number : ℕ) (p : Position)
    (head rest other more : List ℕ) → head ++ rest ≡ other ++ more →
    Others t ts number p head rest → Others u us number p other more → (t.lexeme ≡ u.lexeme) ×
    (length head ≡ length other)
mutual_heads t u ts us number p head rest other more e (inl h) (inl k) =
    let same : step.Token t.lexeme (length head) ≡ step.Token u.lexeme (length other) =
    sym (lexeme_is_read t.lexeme head rest h.0) ∙ ap step_of e ∙
    lexeme_is_read u.lexeme other more k.0 in
    (cc, cc)
mutual_heads t u ts us number p head rest other more e (inl h) (inr k) =
    let same : step.Token t.lexeme (length head) ≡ step.Bad =
    sym (lexeme_is_read t.lexeme head rest h.0) ∙ ap step_of e ∙
    bad_is_read (other ++ more) k.3 in cc
mutual_heads t u ts us number p head rest other more e (inr h) (inl k) =
    let same : step.Bad ≡ step.Token u.lexeme (length other) =
    sym (bad_is_read (head ++ rest) h.3) ∙ ap step_of e ∙
    lexeme_is_read u.lexeme other more k.0 in cc
mutual_heads t u ts us number p head rest other more e (inr h) (inr k) =
    (h.0 ∙ sym k.0, h.2 ∙ sym k.2)

tails : (t u : Token) (ts us : List Token) (number : ℕ) (p : Position) (head rest : List ℕ) →
    (AreTokens ts (number + 1) (past head p) rest → AreTokens us (number + 1) (past head p) rest →
    ts ≡ us) → t.lexeme ≡ u.lexeme → Others t ts number p head rest →
    Others u us number p head rest → ts ≡ us
tails t u ts us number p head rest same e (inl h) (inl k) = same h.1 k.1
tails t u ts us number p head rest same e (inl h) (inr k) =
    let Is : Lexeme → Type 0 = λ l. IsLexeme l head rest in absurd (subst Is (e ∙ k.0) h.0).0
tails t u ts us number p head rest same e (inr h) (inl k) =
    let Is : Lexeme → Type 0 = λ l. IsLexeme l head rest in absurd (subst Is (sym e ∙ h.0) k.0).0
tails t u ts us number p head rest same e (inr h) (inr k) = h.1 ∙ sym k.1

-- uniqueness
pub one_list : (ts us : List Token) (number : ℕ) (p : Position) (s : List ℕ) →
    AreTokens ts number p s → AreTokens us number p s → ts ≡ us
one_list [] [] number p s h k = refl
one_list [] (u ∷ us) number p s (gap, joined, are)
    (gap2, head2, rest2, is2, (parts2, joined2, are2), token2, others2) =
    let long = token_long u us number (past gap2 p) head2 rest2 others2 in
    let whole : concat gap ++ [] ≡ concat parts2 ++ (head2 ++ rest2) = append-nil (concat gap) ∙
    sym joined ∙ is2 ∙ ap (λ (l : List ℕ). l ++ (head2 ++ rest2)) joined2 in
    let same = gaps gap parts2 [] (head2 ++ rest2) are are2 whole no_piece-nil
    (no_piece-token u us number (past gap2 p) head2 rest2 others2) in
    absurd (omega (arith, ap length same.1, length-append head2 rest2))
one_list (t ∷ ts) [] number p s (gap1, head1, rest1, is1, (parts1, joined1, are1), token1, others1)
    (gap, joined, are) =
    let long = token_long t ts number (past gap1 p) head1 rest1 others1 in
    let whole : concat gap ++ [] ≡ concat parts1 ++ (head1 ++ rest1) = append-nil (concat gap) ∙
    sym joined ∙ is1 ∙ ap (λ (l : List ℕ). l ++ (head1 ++ rest1)) joined1 in
    let same = gaps gap parts1 [] (head1 ++ rest1) are are1 whole no_piece-nil
    (no_piece-token t ts number (past gap1 p) head1 rest1 others1) in
    absurd (omega (arith, ap length same.1, length-append head1 rest1))
one_list (t ∷ ts) (u ∷ us) number p s (
  gap1,
  head1,
  rest1,
  is1,
  (parts1, joined1, are1),
  token1,
  others1,
) (gap2, head2, rest2, is2, (parts2, joined2, are2), token2, others2) =
    let whole : concat parts1 ++ (head1 ++ rest1) ≡ concat parts2 ++ (head2 ++ rest2) =
    sym (ap (λ (l : List ℕ). l ++ (head1 ++ rest1)) joined1) ∙ sym is1 ∙ is2 ∙
    ap (λ (l : List ℕ). l ++ (head2 ++ rest2)) joined2 in
    let same = gaps parts1 parts2 (head1 ++ rest1) (head2 ++ rest2) are1 are2 whole
    (no_piece-token t ts number (past gap1 p) head1 rest1 others1)
    (no_piece-token u us number (past gap2 p) head2 rest2 others2) in
    let gap_is : gap2 ≡ gap1 = joined2 ∙ sym same.0 ∙ sym joined1 in
    let Moved : List ℕ → Type 0 = λ g. Others u us number (past g p) head2 rest2 in
    let others = subst Moved gap_is others2 in
    let heads = mutual_heads t u ts us number (past gap1 p) head1 rest1 head2 rest2 same.1 others1
    others in
    let both = fronts head1 rest1 head2 rest2 same.1 heads.1 in
    let Token_of : Lexeme → ℕ → List ℕ → Token = λ l width g. token_at l number (past g p) width in
    let first : t ≡ u = token1 ∙ (λ i. Token_of (heads.0 i) (heads.1 i) (sym gap_is i)) ∙
    sym token2 in
    let At : List ℕ → List ℕ → Type 0 = λ head rest. Others u us number (past gap1 p) head rest in
    let alike = subst (λ rest. At head1 rest) (sym both.1)
    (subst (λ head. At head rest2) (sym both.0) others) in
    let later = tails t u ts us number (past gap1 p) head1 rest1
    (λ h k. one_list ts us (number + 1) (past head1 (past gap1 p)) rest1 h k) heads.0 others1
    alike in
    (λ i. first i ∷ later i)

pub no_other_lexing : (bytes : List ℕ) (t u : Lexing) → IsTokens bytes t → IsTokens bytes u → t ≡ u
no_other_lexing bytes t u h k =
    let tokens = one_list t.tokens u.tokens 0 origin bytes h.0 k.0 in
    let line = h.1 ∙ sym k.1 in
    let column = h.2 ∙ sym k.2 in
    (λ i. record { tokens = tokens i; end_line = line i; end_column = column i })
