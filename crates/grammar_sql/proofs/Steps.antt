-- What one token does to the constructs that are open by the tokens alone.
use Rattle.std.proofs.Common.{◌≡◌, ℕ, zero, suc, ◌+◌, ◌-◌, ◌<◌, ◌≤◌, Bool, true, false, ◌&&◌, ◌||◌}
use Rattle.std.proofs.Common.{if◌then◌else◌, List, ◌∷◌, length, drop, refl, ap, sym, ◌∙◌, get_or}
use Rattle.std.proofs.Common.{arith, length-drop, add-zero}
use Rattle.std.proofs.lemmas.Bool.{and_parts, not-true, or_left, or_right, or_cases, cases_lt}
use Rattle.std.proofs.lemmas.List.{get_or-drop, drop-drop}
use Rattle.std.specs.Prelude.{◌⊎◌}
use Rattle.std.proofs.Common.{inl, inr}
use Rattle.sql_lex.specs.Openings.{kind_at, opening, is_end, follows_end, opens_at}
use Rattle.sql_lex.specs.Places.{origin}
use Rattle.sql_lex.specs.Tokens.{kind_of, token_at}
use Rattle.sql_lex.specs.declared.token.TokenKind.{TokenKind}
use Rattle.sql_lex.specs.declared.token.Lexeme.TheVariants as lexeme
use Rattle.sql_lex.specs.declared.token.Token.{Token}
use Rattle.grammar_algebra.specs.Grammar.{Passes}
use Rattle.grammar_algebra.specs.Statement.{place}
use Rattle.grammar_sql.specs.Constructs.{Before, End, Leading, Other, is_leading, before_of}
use Rattle.grammar_sql.specs.Constructs.{before_at, in_brackets, is_loop, loops_at, closing}
use Rattle.grammar_sql.specs.Constructs.{open_after, Befores, has, none, any, but_end, only, meet}
use Rattle.grammar_sql.specs.Constructs.{join, if_so, implies, subset, opens_after, opening_befores}
use Rattle.grammar_sql.specs.Constructs.{other_befores, same_truth, is_other, always_closes}

-- ---- what may stand before

pub has_meet : (c : Before) (s t : Befores) → has c (meet s t) ≡ true → (has c s ≡ true) ×
    (has c t ≡ true)
has_meet End s t e = and_parts s.at_end t.at_end e
has_meet Leading s t e = and_parts s.at_leading t.at_leading e
has_meet Other s t e = and_parts s.at_other t.at_other e

pub has_left : (c : Before) (s t : Befores) → has c s ≡ true → has c (join s t) ≡ true
has_left End s t e = or_left s.at_end t.at_end e
has_left Leading s t e = or_left s.at_leading t.at_leading e
has_left Other s t e = or_left s.at_other t.at_other e

pub has_right : (c : Before) (s t : Befores) → has c t ≡ true → has c (join s t) ≡ true
has_right End s t e = or_right s.at_end t.at_end e
has_right Leading s t e = or_right s.at_leading t.at_leading e
has_right Other s t e = or_right s.at_other t.at_other e

pub has_some : (c : Before) (s t : Befores) → has c (join s t) ≡ true → (has c s ≡ true) ⊎
    (has c t ≡ true)
has_some End s t e = or_cases s.at_end t.at_end e
has_some Leading s t e = or_cases s.at_leading t.at_leading e
has_some Other s t e = or_cases s.at_other t.at_other e

implied : (a b : Bool) → implies a b ≡ true → a ≡ true → b ≡ true
implied true b e f = e
implied false b e f = cc

pub has_subset : (c : Before) (s t : Befores) → subset s t ≡ true → has c s ≡ true → has c t ≡ true
has_subset End s t e h =
    implied s.at_end t.at_end (and_parts (implies s.at_end t.at_end)
    (implies s.at_leading t.at_leading && implies s.at_other t.at_other) e).0 h
has_subset Leading s t e h =
    let p = and_parts (implies s.at_end t.at_end)
    (implies s.at_leading t.at_leading && implies s.at_other t.at_other) e in
    implied s.at_leading t.at_leading (and_parts (implies s.at_leading t.at_leading)
    (implies s.at_other t.at_other) p.1).0 h
has_subset Other s t e h =
    let p = and_parts (implies s.at_end t.at_end)
    (implies s.at_leading t.at_leading && implies s.at_other t.at_other) e in
    implied s.at_other t.at_other (and_parts (implies s.at_leading t.at_leading)
    (implies s.at_other t.at_other) p.1).1 h

pub has_any : (c : Before) → has c any ≡ true
has_any End = refl
has_any Leading = refl
has_any Other = refl

pub has_but_end : (tokens : List Token) (i : ℕ) → follows_end tokens i ≡ false →
    has (before_at tokens i) but_end ≡ true
has_but_end tokens zero p = refl
has_but_end tokens (suc at) p = go (is_end (kind_at tokens at)) (is_leading (kind_at tokens at)) p
  where
    go : (ending leading : Bool) → ending ≡ false →
        has (if ending then End else if leading then Leading else Other) but_end ≡ true
    go true leading q = absurd cc
    go false true q = refl
    go false false q = refl

pub has_only : (c : Before) → has c (only c) ≡ true
has_only End = refl
has_only Leading = refl
has_only Other = refl

-- a part that may be empty lets the next one follow what stands before it
pub has_if_so : (b : Bool) (c : Before) (s : Befores) → b ≡ true → has c (if_so b s any) ≡ true →
    has c s ≡ true
has_if_so true c s e h = h
has_if_so false c s e h = cc

pub if_so_has : (b : Bool) (c : Before) (s : Befores) → b ≡ true → has c s ≡ true →
    has c (if_so b s none) ≡ true
if_so_has true c s e h = h
if_so_has false c s e h = cc

pub has_opening : (c : Before) (b : Bool) (k : TokenKind) → has c (opening_befores b k) ≡ true →
    opens_after k c b ≡ true
has_opening End b k e = e
has_opening Leading b k e = e
has_opening Other b k e = e

pub has_other : (c : Before) (b : Bool) (k : TokenKind) → has c (other_befores b k) ≡ true →
    opens_after k c b ≡ false
has_other End b k e = not-true (opens_after k End b) e
has_other Leading b k e = not-true (opens_after k Leading b) e
has_other Other b k e = not-true (opens_after k Other b) e

pub closes_everywhere : (k : TokenKind) → always_closes k ≡ true → (c : Before) (b : Bool) →
    opens_after k c b ≡ false
closes_everywhere k e c b = go b (and_parts (closing k)
    (subset any (other_befores true k) && subset any (other_befores false k)) e)
  where
    go : (b : Bool) → (closing k ≡ true) ×
        ((subset any (other_befores true k) && subset any (other_befores false k)) ≡ true) →
        opens_after k c b ≡ false
    go true p = has_other c true k (has_subset c any (other_befores true k)
        (and_parts (subset any (other_befores true k)) (subset any (other_befores false k)) p.1).0
        (has_any c))
    go false p = has_other c false k (has_subset c any (other_befores false k)
        (and_parts (subset any (other_befores true k)) (subset any (other_befores false k)) p.1).1
        (has_any c))

pub closes_one : (k : TokenKind) → always_closes k ≡ true → closing k ≡ true
closes_one k e =
    (and_parts (closing k) (subset any (other_befores true k) && subset any (other_befores false k))
    e).0

pub is_other_so : (c : Before) → is_other c ≡ true → c ≡ Other
is_other_so End e = cc
is_other_so Leading e = cc
is_other_so Other e = refl

pub same_truth_so : (a b : Bool) → same_truth a b ≡ true → a ≡ b
same_truth_so true true e = refl
same_truth_so true false e = cc
same_truth_so false true e = cc
same_truth_so false false e = refl

-- ---- a token opens by what stands before it

abbrev is_end_before : Before → Bool
is_end_before End = true
is_end_before Leading = false
is_end_before Other = false

end_told : (a b : Bool) → is_end_before (if a then End else if b then Leading else Other) ≡ a
end_told true b = refl
end_told false true = refl
end_told false false = refl

follows_told : (tokens : List Token) (at : ℕ) →
    follows_end tokens at ≡ is_end_before (before_at tokens at)
follows_told tokens zero = refl
follows_told tokens (suc at) = sym (end_told (is_end (kind_at tokens at))
    (is_leading (kind_at tokens at)))

opens_told : (k : TokenKind) (c : Before) (b : Bool) →
    (opening k (is_end_before c) || is_loop k c b) ≡ opens_after k c b
opens_told k End b = refl
opens_told k Leading b = refl
opens_told k Other b = refl

pub opens_is : (tokens : List Token) (at : ℕ) (opened : List ℕ) (k : TokenKind) (c : Before)
    (b : Bool) → kind_at tokens at ≡ k → before_at tokens at ≡ c → in_brackets tokens opened ≡ b
    → (opens_at tokens at || loops_at tokens at opened) ≡ opens_after k c b
opens_is tokens at opened k c b ek ec eb =
    ap (λ z. opening (kind_at tokens at) z || loops_at tokens at opened) (follows_told tokens at)
    ∙ ap (λ z. opening z (is_end_before (before_at tokens at)) || is_loop z (before_at tokens at)
    (in_brackets tokens opened)) ek
    ∙ ap (λ z. opening k (is_end_before z) || is_loop k z (in_brackets tokens opened)) ec
    ∙ ap (λ z. opening k (is_end_before c) || is_loop k c z) eb
    ∙ opens_told k c b

module _ (tokens : List Token) (i : ℕ) where
  -- these tokens are left, m after place i
  abbrev pub Left : List Token → ℕ → Type 0
  Left ts m = (i + m ≤ length tokens) × (ts ≡ drop (i + m) tokens)

  -- they are left there, these constructs are open, and this stands before them
  abbrev pub At : List Token → ℕ → List ℕ → Before → Type 0
  At ts m opened c = Left ts m × (open_after tokens i m ≡ opened) × (before_at tokens (i + m) ≡ c)

  head_is : (k : ℕ) (t d : Token) (rest : List Token) → drop k tokens ≡ t ∷ rest →
      get_or tokens k d ≡ t
  head_is k t d rest e = sym (get_or-drop k tokens 0 d ∙ ap (λ j. get_or tokens j d) (add-zero k)) ∙
      ap (λ l. get_or l 0 d) e

  kind_is : (k : ℕ) (t : Token) (rest : List Token) → drop k tokens ≡ t ∷ rest →
      kind_at tokens k ≡ kind_of t.lexeme
  kind_is k t rest e = ap (λ z. kind_of z.lexeme)
      (head_is k t (token_at lexeme.Bad 0 origin 0) rest e)

  pub passed : (k : TokenKind) (ts rest : List Token) (m : ℕ) → Left ts m → Passes k ts rest →
      Left rest (suc m) × (kind_at tokens (i + m) ≡ k) ×
      (before_at tokens (i + suc m) ≡ before_of k)
  passed k ts rest m (l, e) (t, (ek, et)) =
      let here : drop (i + m) tokens ≡ t ∷ rest = sym e ∙ et in
      let size : length tokens - (i + m) ≡ suc (length rest) = sym (length-drop (i + m) tokens) ∙
      ap length here in
      let at : i + m + 1 ≡ i + suc m = omega arith in
      let next : i + suc m ≡ suc (i + m) = omega arith in
      let kind = kind_is (i + m) t rest here ∙ ek in (
        (
          omega arith,
          ap (drop 1) (sym here) ∙ drop-drop 1 (i + m) tokens ∙
              ap (λ z. drop z tokens) at,
        ),
        kind,
        ap (before_at tokens) next ∙ ap before_of kind,
      )

  pub place_is : (ts : List Token) (m : ℕ) → Left ts m → place tokens ts ≡ i + m
  place_is ts m (l, e) =
      let size : length ts ≡ length tokens - (i + m) = ap length e ∙ length-drop (i + m) tokens in
      omega arith

  -- ---- after a token of a kind

  step_is : (m : ℕ) (b : Bool) → (opens_at tokens (i + m) || loops_at tokens (i + m)
      (open_after tokens i m)) ≡ b
      → open_after tokens i (suc m) ≡ (if b then (i + m) ∷ open_after tokens i m else if closing
      (kind_at tokens (i + m)) then drop 1 (open_after tokens i m) else open_after tokens i m)
  step_is m b e = ap (λ b. if b then (i + m) ∷ open_after tokens i m else if closing
      (kind_at tokens (i + m)) then drop 1 (open_after tokens i m) else open_after tokens i m) e

  -- whether the token opens
  told_at : (ts : List Token) (m : ℕ) (opened : List ℕ) (c : Before) (k : TokenKind) (b : Bool) →
      At ts m opened c → kind_at tokens (i + m) ≡ k → in_brackets tokens opened ≡ b
      → (opens_at tokens (i + m) || loops_at tokens (i + m) (open_after tokens i m)) ≡
      opens_after k c b
  told_at ts m opened c k b at ek eb = opens_is tokens (i + m) (open_after tokens i m) k c b ek at.2
      (ap (in_brackets tokens) at.1 ∙ eb)

  pub after_opening : (ts : List Token) (m : ℕ) (opened : List ℕ) (c : Before) (k : TokenKind)
      (b : Bool) → At ts m opened c → kind_at tokens (i + m) ≡ k → in_brackets tokens opened ≡ b
      → opens_after k c b ≡ true → open_after tokens i (suc m) ≡ (i + m) ∷ opened
  after_opening ts m opened c k b at ek eb o =
      step_is m true (told_at ts m opened c k b at ek eb ∙ o) ∙ ap (λ z. (i + m) ∷ z) at.1

  after_other : (ts : List Token) (m : ℕ) (opened : List ℕ) (c : Before) (k : TokenKind)
      (b : Bool) → At ts m opened c → kind_at tokens (i + m) ≡ k → in_brackets tokens opened ≡ b
      → opens_after k c b ≡ false → open_after tokens i (suc m) ≡
      (if closing k then drop 1 opened else opened)
  after_other ts m opened c k b at ek eb o = step_is m false (told_at ts m opened c k b at ek eb ∙
      o)
      ∙ ap (λ z. if closing z then drop 1 (open_after tokens i m) else open_after tokens i m) ek ∙
      ap (λ z. if closing k then drop 1 z else z) at.1

  pub after_plain : (ts : List Token) (m : ℕ) (opened : List ℕ) (c : Before) (k : TokenKind)
      (b : Bool) → At ts m opened c → kind_at tokens (i + m) ≡ k → in_brackets tokens opened ≡ b
      → opens_after k c b ≡ false → closing k ≡ false → open_after tokens i (suc m) ≡ opened
  after_plain ts m opened c k b at ek eb o e = after_other ts m opened c k b at ek eb o ∙
      ap (λ z. if z then drop 1 opened else opened) e

  pub after_closing : (ts : List Token) (m place : ℕ) (opened : List ℕ) (c : Before) (k : TokenKind)
      (b : Bool) → At ts m (place ∷ opened) c → kind_at tokens (i + m) ≡ k →
      in_brackets tokens (place ∷ opened) ≡ b
      → opens_after k c b ≡ false → closing k ≡ true → open_after tokens i (suc m) ≡ opened
  after_closing ts m place opened c k b at ek eb o e =
      after_other ts m (place ∷ opened) c k b at ek eb o ∙
      ap (λ z. if z then drop 1 (place ∷ opened) else place ∷ opened) e

  -- ---- at most so many are open from one place to another

  abbrev pub Few : ℕ → ℕ → ℕ → Type 0
  Few a b n = (j : ℕ) → a ≤ j → j ≤ b → length (open_after tokens i j) ≤ n

  pub few_one : (m : ℕ) (opened : List ℕ) (n : ℕ) → open_after tokens i m ≡ opened →
      length opened ≤ n → Few m m n
  few_one m opened n e l j a b =
      let s : length (open_after tokens i j) ≡ length opened =
      ap (λ z. length (open_after tokens i z)) (let q : j ≡ m = omega arith in q) ∙
      ap length e in omega arith

  pub few_join : (a b c n : ℕ) → Few a b n → Few b c n → Few a c n
  few_join a b c n f g j x y = go (cases_lt b j)
    where
      go : (b < j) ⊎ (j ≤ b) → length (open_after tokens i j) ≤ n
      go (inl l) = g j (omega arith) y
      go (inr l) = f j x l

  pub few_next : (a b c n : ℕ) → Few a b n → Few (suc b) c n → Few a c n
  few_next a b c n f g j x y = go (cases_lt b j)
    where
      go : (b < j) ⊎ (j ≤ b) → length (open_after tokens i j) ≤ n
      go (inl l) = g j (omega arith) y
      go (inr l) = f j x l

  pub few_part : (a b c d n : ℕ) → a ≤ b → c ≤ d → Few a d n → Few b c n
  few_part a b c d n l k f j x y = f j (omega arith) (omega arith)
