-- Laws of reading that a loop of the parser needs.
use Rattle.std.proofs.Common.{◌≡◌, ℕ, zero, suc, ◌+◌, ◌<◌, ◌≤◌, Bool, true, false, cond, List, []}
use Rattle.std.proofs.Common.{◌∷◌, ◌++◌, length, drop, Ok, Err, refl, ap, sym, ◌∙◌, subst, arith}
use Rattle.std.proofs.Common.{append_assoc, append-nil}
use Rattle.sql_lex.specs.declared.token.TokenKind.{TokenKind}
use Rattle.grammar_algebra.specs.declared.stage.Stage.{Stage}
use Rattle.sql_lex.specs.declared.token.Token.{Token}
use Rattle.grammar_algebra.specs.Grammar.{Grammar, many, both, token, staged, map_to, inside}
use Rattle.grammar_algebra.specs.Reading.{Outcome, Fault, NoSpelling, TooDeep, first, nullable}
use Rattle.grammar_algebra.specs.Reading.{begins, next_token, repeat, repeat_from, reading}
use Rattle.grammar_algebra.specs.Reading.{with_front, mapped, ◌>>=◌}
use Rattle.grammar_algebra.specs.Notation.{joined}
use Rattle.grammar_algebra.specs.Exact.{IsSound}
use Rattle.grammar_algebra.specs.Reads.{Reads}
use Rattle.grammar_algebra.specs.declared.fault.ParseError.{ParseError}
use Rattle.grammar_algebra.specs.declared.fault.ParseError.TheVariants as error
use Rattle.grammar_algebra.proofs.Shapes.{least, spells_shorter, inside_shorter}
use Rattle.grammar_algebra.proofs.Sound.{sound}
use Rattle.grammar_algebra.proofs.Complete.{begins_some}

again : {A : Type 0} (o o' : Outcome A) (f g : A × List Token → Outcome (List A)) → o ≡ o' →
    ((p : A × List Token) → o' ≡ Ok p → f p ≡ g p) → (o >>= f) ≡ (o' >>= g)
again o (Ok p) f g e h = ap (λ z. z >>= f) e ∙ h p refl
again o (Err x) f g e h = ap (λ z. z >>= f) e

cond_same : {X : Type 0} (b : Bool) (p q r : X) → p ≡ q → cond b p r ≡ cond b q r
cond_same b p q r e = ap (λ z. cond b z r) e

repeat_turns : {A : Type 0} (kinds : List TokenKind) (item : List Token → Outcome A)
    → ((ts : List Token) (p : A × List Token) → item ts ≡ Ok p → length p.1 + 1 ≤ length ts)
    → (a b : ℕ) (ts : List Token) → length ts ≤ a → length ts ≤ b →
    repeat kinds item a ts ≡ repeat kinds item b ts
repeat_turns kinds item short zero zero ts la lb = refl
repeat_turns kinds item short zero (suc b) [] la lb = refl
repeat_turns kinds item short zero (suc b) (t ∷ ts) la lb = absurd (omega arith)
repeat_turns kinds item short (suc a) zero [] la lb = refl
repeat_turns kinds item short (suc a) zero (t ∷ ts) la lb = absurd (omega arith)
repeat_turns kinds item short (suc a) (suc b) ts la lb =
    cond_same (begins kinds ts) (item ts >>= λ p. repeat kinds item a p.1 >>= λ ps.
    Ok (p.0 ∷ ps.0, ps.1)) (item ts >>= λ p. repeat kinds item b p.1 >>= λ ps.
    Ok (p.0 ∷ ps.0, ps.1)) (Ok ([], ts))
    (again (item ts) (item ts) (λ p. repeat kinds item a p.1 >>= λ ps. Ok (p.0 ∷ ps.0, ps.1))
    (λ p. repeat kinds item b p.1 >>= λ ps. Ok (p.0 ∷ ps.0, ps.1)) refl
    (λ p e. let l = short ts p e in ap (λ z. z >>= λ ps. Ok (p.0 ∷ ps.0, ps.1))
    (repeat_turns kinds item short a b p.1 (omega arith) (omega arith))))

abbrev pair_up : {A B : Type 0} → A → Outcome B → Outcome (A × B)
pair_up a o = o >>= λ q. Ok ((a, q.0), q.1)

abbrev seconds : {A B : Type 0} → Outcome (A × B) → Outcome B
seconds o = o >>= λ p. Ok (p.0.1, p.1)

seconds_pair : {A B : Type 0} (a : A) (o : Outcome B) → seconds (pair_up a o) ≡ (o >>= λ p. Ok p)
seconds_pair a (Ok p) = refl
seconds_pair a (Err f) = refl

after_read : {A : Type 0} (b : Bool) → b ≡ true → (ts : List Token) (k : List Token → Outcome A)
    → seconds ((cond {A = Outcome Token} b (Ok (next_token ts, drop 1 ts)) (Err (NoSpelling ts)))
    >>= λ p. pair_up p.0 (k p.1)) ≡ (k (drop 1 ts) >>= λ p. Ok p)
after_read true e ts k = seconds_pair (next_token ts) (k (drop 1 ts))
after_read false e ts k = cc

module _ {R : Type 0} {Tree : R → Type 0} (rules : (r : R) → Grammar R Tree (Tree r)) where
  pub reading_shorter : {A : Type 0} (n : ℕ) (g : Grammar R Tree A) (ts : List Token)
      (p : A × List Token) → reading rules n g ts ≡ Ok p →
      length p.1 + least (nullable g) ≤ length ts
  reading_shorter n g ts p e =
      spells_shorter (inside rules n) (inside_shorter rules n) g p.0 ts p.1
      (subst (λ z. IsSound rules n g ts z) e (sound rules n g ts))

  item_shorter : {A : Type 0} (n : ℕ) (g : Grammar R Tree A) → nullable g ≡ false →
      (ts : List Token) (p : A × List Token) → reading rules n g ts ≡ Ok p →
      length p.1 + 1 ≤ length ts
  item_shorter n g nn ts p e = let a = reading_shorter n g ts p e in
      let b : least (nullable g) ≡ 1 = ap least nn in omega arith

  repeat_step : {A : Type 0} (n : ℕ) (g : Grammar R Tree A) → nullable g ≡ false →
      (len : ℕ) (ts : List Token) (x : A) (next : List Token) → length ts ≡ len →
      begins (first g) ts ≡ true → reading rules n g ts ≡ Ok (x, next)
      → repeat (first g) (reading rules n g) len ts ≡
      (reading rules n (many g) next >>= λ ps. Ok (x ∷ ps.0, ps.1))
  repeat_step n g nn zero ts x next l b e = let a = begins_some (first g) ts b in
      absurd (omega arith)
  repeat_step n g nn (suc len) ts x next l b e =
      let short = item_shorter n g nn ts (x, next) e in
      ap (λ (z : Bool). cond z (reading rules n g ts >>= λ p. repeat (first g) (reading rules n g)
      len p.1 >>= λ ps. Ok (p.0 ∷ ps.0, ps.1)) (Ok ([], ts))) b
      ∙ ap (λ z. z >>= λ p. repeat (first g) (reading rules n g) len p.1 >>= λ ps.
      Ok (p.0 ∷ ps.0, ps.1)) e
      ∙ ap (λ z. z >>= λ ps. Ok (x ∷ ps.0, ps.1))
      (repeat_turns (first g) (reading rules n g) (item_shorter n g nn) len (length next) next
      (omega arith) (omega arith))

  repeat_err : {A : Type 0} (n : ℕ) (g : Grammar R Tree A) (len : ℕ) (ts : List Token) (f : Fault) →
      length ts ≡ len → begins (first g) ts ≡ true → reading rules n g ts ≡ Err f
      → repeat (first g) (reading rules n g) len ts ≡ Err f
  repeat_err n g zero ts f l b e = let a = begins_some (first g) ts b in absurd (omega arith)
  repeat_err n g (suc len) ts f l b e =
      ap (λ (z : Bool). cond z (reading rules n g ts >>= λ p. repeat (first g) (reading rules n g)
      len p.1 >>= λ ps. Ok (p.0 ∷ ps.0, ps.1)) (Ok ([], ts))) b
      ∙ ap (λ z. z >>= λ p. repeat (first g) (reading rules n g) len p.1 >>= λ ps.
      Ok (p.0 ∷ ps.0, ps.1)) e

  repeat_stop : {A : Type 0} (n : ℕ) (g : Grammar R Tree A) (len : ℕ) (ts : List Token) →
      begins (first g) ts ≡ false → repeat (first g) (reading rules n g) len ts ≡ Ok ([], ts)
  repeat_stop n g zero ts b = refl
  repeat_stop n g (suc len) ts b =
      ap (λ (z : Bool). cond z (reading rules n g ts >>= λ p. repeat (first g) (reading rules n g)
      len p.1 >>= λ ps. Ok (p.0 ∷ ps.0, ps.1)) (Ok ([], ts))) b

  fronts : {A : Type 0} (found : List A) (x : A) (o : Outcome (List A)) →
      with_front found (o >>= λ ps. Ok (x ∷ ps.0, ps.1)) ≡ with_front (found ++ x ∷ []) o
  fronts found x (Ok p) = ap (λ (z : List _). Ok (z, p.1)) (sym (append_assoc found (x ∷ []) p.0))
  fronts found x (Err f) = refl

  pub many_start : {A : Type 0} (o : Outcome (List A)) → with_front [] o ≡ o
  many_start (Ok p) = refl
  many_start (Err f) = refl

  pub many_step : {A : Type 0} (n : ℕ) (g : Grammar R Tree A) → nullable g ≡ false →
      (found : List A) (ts : List Token) (x : A) (next : List Token) → begins (first g) ts ≡ true →
      reading rules n g ts ≡ Ok (x, next)
      → with_front found (reading rules n (many g) ts) ≡ with_front (found ++ x ∷ [])
      (reading rules n (many g) next)
  many_step n g nn found ts x next b e = ap (with_front found)
      (repeat_step n g nn (length ts) ts x next refl b e) ∙
      fronts found x (reading rules n (many g) next)

  pub many_err : {A : Type 0} (n : ℕ) (g : Grammar R Tree A) (found : List A) (ts : List Token)
      (f : Fault) → begins (first g) ts ≡ true → reading rules n g ts ≡ Err f
      → with_front found (reading rules n (many g) ts) ≡ Err f
  many_err n g found ts f b e = ap (with_front found) (repeat_err n g (length ts) ts f refl b e)

  pub many_stop : {A : Type 0} (n : ℕ) (g : Grammar R Tree A) (found : List A) (ts : List Token) →
      begins (first g) ts ≡ false
      → with_front found (reading rules n (many g) ts) ≡ Ok (found, ts)
  many_stop n g found ts b = ap (with_front found) (repeat_stop n g (length ts) ts b) ∙
      ap (λ (z : List _). Ok (z, ts)) (append-nil found)

  -- ---- the body of a loop

  -- an item at the very place: `while` the item begins
  pub each_step : {A : Type 0} (n : ℕ) (g : Grammar R Tree A) → nullable g ≡ false →
      (found found' : List A) (ts next : List Token) (x : A) (b : Bool) (whole : Outcome (List A))
      → with_front found (reading rules n (many g) ts) ≡ whole → b ≡ begins (first g) ts →
      b ≡ true → reading rules n g ts ≡ Ok (x, next) → found' ≡ found ++ x ∷ []
      → with_front found' (reading rules n (many g) next) ≡ whole
  each_step n g nn found found' ts next x b whole inv eb tb r e =
      ap (λ z. with_front z (reading rules n (many g) next)) e ∙
      sym (many_step n g nn found ts x next (sym eb ∙ tb) r) ∙ inv

  pub each_smaller : {A : Type 0} (n : ℕ) (g : Grammar R Tree A) → nullable g ≡ false →
      (ts next : List Token) (x : A) → reading rules n g ts ≡ Ok (x, next) → length next < length ts
  each_smaller n g nn ts next x r = let a = item_shorter n g nn ts (x, next) r in omega arith

  pub each_err : {A : Type 0} (n : ℕ) (g : Grammar R Tree A) (found : List A) (ts rest : List Token)
      (b : Bool) (whole : Outcome (List A)) (e : ParseError)
      → with_front found (reading rules n (many g) ts) ≡ whole → b ≡ begins (first g) ts →
      b ≡ true → Reads (reading rules n g ts) (Err e) rest → Reads whole (Err e) rest
  each_err n g found ts rest b whole error.NoMemory inv eb tb r = tt
  each_err n g found ts rest b whole error.NoStatement inv eb tb r = sym inv ∙
      many_err n g found ts (NoSpelling rest) (sym eb ∙ tb) r
  each_err n g found ts rest b whole error.TooDeep inv eb tb r = sym inv ∙
      many_err n g found ts (TooDeep rest) (sym eb ∙ tb) r

  -- a list at the very place, put to those before it: `while` the item begins
  joined_fronts : {A : Type 0} (found x : List A) (o : Outcome (List (List A))) →
      with_front found (mapped joined (o >>= λ ps. Ok (x ∷ ps.0, ps.1))) ≡ with_front (found ++ x)
      (mapped joined o)
  joined_fronts found x (Ok p) = ap (λ (z : List _). Ok (z, p.1))
      (sym (append_assoc found x (joined p.0)))
  joined_fronts found x (Err f) = refl

  pub joined_step : {A : Type 0} (n : ℕ) (g : Grammar R Tree (List A)) → nullable g ≡ false →
      (found found' : List A) (ts next : List Token) (x : List A) (b : Bool)
      (whole : Outcome (List A))
      → with_front found (reading rules n (map_to joined (many g)) ts) ≡ whole →
      b ≡ begins (first g) ts → b ≡ true → reading rules n g ts ≡ Ok (x, next) →
      found' ≡ found ++ x
      → with_front found' (reading rules n (map_to joined (many g)) next) ≡ whole
  joined_step n g nn found found' ts next x b whole inv eb tb r e =
      ap (λ z. with_front z (reading rules n (map_to joined (many g)) next)) e
      ∙ sym (ap (λ z. with_front found (mapped joined z))
      (repeat_step n g nn (length ts) ts x next refl (sym eb ∙ tb) r)
      ∙ joined_fronts found x (reading rules n (many g) next)) ∙ inv

  pub joined_err : {A : Type 0} (n : ℕ) (g : Grammar R Tree (List A)) (found : List A)
      (ts rest : List Token) (b : Bool) (whole : Outcome (List A)) (e : ParseError)
      → with_front found (reading rules n (map_to joined (many g)) ts) ≡ whole →
      b ≡ begins (first g) ts → b ≡ true → Reads (reading rules n g ts) (Err e) rest →
      Reads whole (Err e) rest
  joined_err n g found ts rest b whole error.NoMemory inv eb tb r = tt
  joined_err n g found ts rest b whole error.NoStatement inv eb tb r =
      sym inv ∙ ap (λ z. with_front found (mapped joined z))
      (repeat_err n g (length ts) ts (NoSpelling rest) refl (sym eb ∙ tb) r)
  joined_err n g found ts rest b whole error.TooDeep inv eb tb r =
      sym inv ∙ ap (λ z. with_front found (mapped joined z))
      (repeat_err n g (length ts) ts (TooDeep rest) refl (sym eb ∙ tb) r)

  pub joined_stop : {A : Type 0} (n : ℕ) (g : Grammar R Tree (List A)) (found : List A)
      (ts : List Token) → begins (first g) ts ≡ false
      → with_front found (reading rules n (map_to joined (many g)) ts) ≡ Ok (found, ts)
  joined_stop n g found ts b =
      ap (λ z. with_front found (mapped joined z)) (repeat_stop n g (length ts) ts b) ∙
      ap (λ (z : List _). Ok (z, ts)) (append-nil found)

  -- an item after a word: `while` the word is eaten
  after_reading : {A : Type 0} (n : ℕ) (kind : TokenKind) (h : Grammar R Tree A)
      (ts ts1 : List Token) (b : Bool) → b ≡ begins (kind ∷ []) ts → b ≡ true →
      ts1 ≡ cond b (drop 1 ts) ts
      → reading rules n (map_to (λ p. p.1) (both (token kind) h)) ts ≡
      (reading rules n h ts1 >>= λ p. Ok p)
  after_reading n kind h ts ts1 b eb tb e1 =
      after_read (begins (kind ∷ []) ts) (sym eb ∙ tb) ts (reading rules n h) ∙
      ap (λ z. reading rules n h z >>= λ p. Ok p) (sym (e1 ∙ ap (λ z. cond z (drop 1 ts) ts) tb))

  pub after_step : {A : Type 0} (n : ℕ) (kind : TokenKind) (h : Grammar R Tree A)
      (found found' : List A) (ts ts1 next : List Token) (x : A) (b : Bool)
      (whole : Outcome (List A))
      → with_front found (reading rules n (many (map_to (λ p. p.1) (both (token kind) h))) ts) ≡
      whole → b ≡ begins (kind ∷ []) ts → b ≡ true → ts1 ≡ cond b (drop 1 ts) ts
      → reading rules n h ts1 ≡ Ok (x, next) → found' ≡ found ++ x ∷ []
      → with_front found' (reading rules n (many (map_to (λ p. p.1) (both (token kind) h))) next) ≡
      whole
  after_step n kind h found found' ts ts1 next x b whole inv eb tb e1 r e =
      each_step n (map_to (λ p. p.1) (both (token kind) h)) refl found found' ts next x b whole inv
      eb tb
      (after_reading n kind h ts ts1 b eb tb e1 ∙ ap (λ z. z >>= λ p. Ok p) r) e

  pub after_smaller : {A : Type 0} (n : ℕ) (kind : TokenKind) (h : Grammar R Tree A)
      (ts ts1 next : List Token) (x : A) (b : Bool)
      → b ≡ begins (kind ∷ []) ts → b ≡ true → ts1 ≡ cond b (drop 1 ts) ts →
      reading rules n h ts1 ≡ Ok (x, next) → length next < length ts
  after_smaller n kind h ts ts1 next x b eb tb e1 r =
      each_smaller n (map_to (λ p. p.1) (both (token kind) h)) refl ts next x
      (after_reading n kind h ts ts1 b eb tb e1 ∙ ap (λ z. z >>= λ p. Ok p) r)

  pub after_err : {A : Type 0} (n : ℕ) (kind : TokenKind) (h : Grammar R Tree A) (found : List A)
      (ts ts1 rest : List Token) (b : Bool) (whole : Outcome (List A)) (e : ParseError)
      → with_front found (reading rules n (many (map_to (λ p. p.1) (both (token kind) h))) ts) ≡
      whole → b ≡ begins (kind ∷ []) ts → b ≡ true → ts1 ≡ cond b (drop 1 ts) ts
      → Reads (reading rules n h ts1) (Err e) rest → Reads whole (Err e) rest
  after_err n kind h found ts ts1 rest b whole error.NoMemory inv eb tb e1 r = tt
  after_err n kind h found ts ts1 rest b whole error.NoStatement inv eb tb e1 r =
      each_err n (map_to (λ p. p.1) (both (token kind) h)) found ts rest b whole error.NoStatement
      inv eb tb (after_reading n kind h ts ts1 b eb tb e1 ∙ ap (λ z. z >>= λ p. Ok p) r)
  after_err n kind h found ts ts1 rest b whole error.TooDeep inv eb tb e1 r =
      each_err n (map_to (λ p. p.1) (both (token kind) h)) found ts rest b whole error.TooDeep inv
      eb tb (after_reading n kind h ts ts1 b eb tb e1 ∙ ap (λ z. z >>= λ p. Ok p) r)

  -- ---- a repetition by stages

  abbrev ItemsShorten : {A : Type 0} → (Stage → Grammar R Tree A) → Type 0
  ItemsShorten item = (t : Stage) → nullable (item t) ≡ false

  repeat_from_turns : {A : Type 0} (n : ℕ) (item : Stage → Grammar R Tree A)
      (f : Stage → A → Stage) → ItemsShorten item
      → (a b : ℕ) (stage : Stage) (ts : List Token) → length ts ≤ a → length ts ≤ b
      → repeat_from (λ t. first (item t)) (λ t. reading rules n (item t)) f a stage ts ≡ repeat_from
      (λ t. first (item t)) (λ t. reading rules n (item t)) f b stage ts
  repeat_from_turns n item f nn zero zero stage ts la lb = refl
  repeat_from_turns n item f nn zero (suc b) stage [] la lb = refl
  repeat_from_turns n item f nn zero (suc b) stage (t ∷ ts) la lb = absurd (omega arith)
  repeat_from_turns n item f nn (suc a) zero stage [] la lb = refl
  repeat_from_turns n item f nn (suc a) zero stage (t ∷ ts) la lb = absurd (omega arith)
  repeat_from_turns n item f nn (suc a) (suc b) stage ts la lb =
      cond_same (begins (first (item stage)) ts)
      (reading rules n (item stage) ts >>= λ p. repeat_from (λ t. first (item t))
      (λ t. reading rules n (item t)) f a (f stage p.0) p.1 >>= λ ps. Ok (p.0 ∷ ps.0, ps.1))
      (reading rules n (item stage) ts >>= λ p. repeat_from (λ t. first (item t))
      (λ t. reading rules n (item t)) f b (f stage p.0) p.1 >>= λ ps. Ok (p.0 ∷ ps.0, ps.1))
      (Ok ([], ts))
      (again (reading rules n (item stage) ts) (reading rules n (item stage) ts)
      (λ p. repeat_from (λ t. first (item t)) (λ t. reading rules n (item t)) f a (f stage p.0) p.1
      >>= λ ps. Ok (p.0 ∷ ps.0, ps.1))
      (λ p. repeat_from (λ t. first (item t)) (λ t. reading rules n (item t)) f b (f stage p.0) p.1
      >>= λ ps. Ok (p.0 ∷ ps.0, ps.1)) refl
      (λ p e. let l = item_shorter n (item stage) (nn stage) ts p e in
      ap (λ z. z >>= λ ps. Ok (p.0 ∷ ps.0, ps.1))
      (repeat_from_turns n item f nn a b (f stage p.0) p.1 (omega arith) (omega arith))))

  from_step : {A : Type 0} (n : ℕ) (item : Stage → Grammar R Tree A) (f : Stage → A → Stage) →
      ItemsShorten item
      → (len : ℕ) (stage : Stage) (ts : List Token) (x : A) (next : List Token) → length ts ≡ len →
      begins (first (item stage)) ts ≡ true → reading rules n (item stage) ts ≡ Ok (x, next)
      → repeat_from (λ t. first (item t)) (λ t. reading rules n (item t)) f len stage ts ≡
      (reading rules n (staged item f (f stage x)) next >>= λ ps. Ok (x ∷ ps.0, ps.1))
  from_step n item f nn zero stage ts x next l b e =
      let a = begins_some (first (item stage)) ts b in absurd (omega arith)
  from_step n item f nn (suc len) stage ts x next l b e =
      let short = item_shorter n (item stage) (nn stage) ts (x, next) e in
      ap (λ (z : Bool). cond z (reading rules n (item stage) ts >>= λ p. repeat_from
      (λ t. first (item t)) (λ t. reading rules n (item t)) f len (f stage p.0) p.1 >>= λ ps.
      Ok (p.0 ∷ ps.0, ps.1)) (Ok ([], ts))) b
      ∙ ap (λ z. z >>= λ p. repeat_from (λ t. first (item t)) (λ t. reading rules n (item t)) f len
      (f stage p.0) p.1 >>= λ ps. Ok (p.0 ∷ ps.0, ps.1)) e
      ∙ ap (λ z. z >>= λ ps. Ok (x ∷ ps.0, ps.1))
      (repeat_from_turns n item f nn len (length next) (f stage x) next (omega arith)
      (omega arith))

  from_err : {A : Type 0} (n : ℕ) (item : Stage → Grammar R Tree A) (f : Stage → A → Stage)
      (len : ℕ) (stage : Stage) (ts : List Token) (x : Fault)
      → length ts ≡ len → begins (first (item stage)) ts ≡ true →
      reading rules n (item stage) ts ≡ Err x
      → repeat_from (λ t. first (item t)) (λ t. reading rules n (item t)) f len stage ts ≡ Err x
  from_err n item f zero stage ts x l b e = let a = begins_some (first (item stage)) ts b in
      absurd (omega arith)
  from_err n item f (suc len) stage ts x l b e =
      ap (λ (z : Bool). cond z (reading rules n (item stage) ts >>= λ p. repeat_from
      (λ t. first (item t)) (λ t. reading rules n (item t)) f len (f stage p.0) p.1 >>= λ ps.
      Ok (p.0 ∷ ps.0, ps.1)) (Ok ([], ts))) b
      ∙ ap (λ z. z >>= λ p. repeat_from (λ t. first (item t)) (λ t. reading rules n (item t)) f len
      (f stage p.0) p.1 >>= λ ps. Ok (p.0 ∷ ps.0, ps.1)) e

  from_stop : {A : Type 0} (n : ℕ) (item : Stage → Grammar R Tree A) (f : Stage → A → Stage)
      (len : ℕ) (stage : Stage) (ts : List Token) → begins (first (item stage)) ts ≡ false
      → repeat_from (λ t. first (item t)) (λ t. reading rules n (item t)) f len stage ts ≡
      Ok ([], ts)
  from_stop n item f zero stage ts b = refl
  from_stop n item f (suc len) stage ts b =
      ap (λ (z : Bool). cond z (reading rules n (item stage) ts >>= λ p. repeat_from
      (λ t. first (item t)) (λ t. reading rules n (item t)) f len (f stage p.0) p.1 >>= λ ps.
      Ok (p.0 ∷ ps.0, ps.1)) (Ok ([], ts))) b

  -- an item at its stage: `while` an item of the stage begins
  pub staged_step : {A : Type 0} (n : ℕ) (item : Stage → Grammar R Tree A) (f : Stage → A → Stage) →
      ((t : Stage) → nullable (item t) ≡ false)
      → (found found' : List A) (stage stage' : Stage) (ts next : List Token) (x : A) (b : Bool)
      (whole : Outcome (List A))
      → with_front found (reading rules n (staged item f stage) ts) ≡ whole →
      b ≡ begins (first (item stage)) ts → b ≡ true →
      reading rules n (item stage) ts ≡ Ok (x, next) → found' ≡ found ++ x ∷ []
      → stage' ≡ f stage x → with_front found' (reading rules n (staged item f stage') next) ≡ whole
  staged_step n item f nn found found' stage stage' ts next x b whole inv eb tb r e es =
      ap (λ z. with_front z (reading rules n (staged item f stage') next)) e
      ∙ ap (λ z. with_front (found ++ x ∷ []) (reading rules n (staged item f z) next)) es
      ∙ sym (ap (with_front found) (from_step n item f nn (length ts) stage ts x next refl
      (sym eb ∙ tb) r) ∙ fronts found x (reading rules n (staged item f (f stage x)) next)) ∙
      inv

  pub staged_err : {A : Type 0} (n : ℕ) (item : Stage → Grammar R Tree A) (f : Stage → A → Stage)
      (found : List A) (stage : Stage) (ts rest : List Token) (b : Bool) (whole : Outcome (List A))
      (e : ParseError)
      → with_front found (reading rules n (staged item f stage) ts) ≡ whole →
      b ≡ begins (first (item stage)) ts → b ≡ true →
      Reads (reading rules n (item stage) ts) (Err e) rest → Reads whole (Err e) rest
  staged_err n item f found stage ts rest b whole error.NoMemory inv eb tb r = tt
  staged_err n item f found stage ts rest b whole error.NoStatement inv eb tb r = sym inv ∙
      ap (with_front found) (from_err n item f (length ts) stage ts (NoSpelling rest) refl
      (sym eb ∙ tb) r)
  staged_err n item f found stage ts rest b whole error.TooDeep inv eb tb r = sym inv ∙
      ap (with_front found) (from_err n item f (length ts) stage ts (TooDeep rest) refl
      (sym eb ∙ tb) r)

  pub staged_stop : {A : Type 0} (n : ℕ) (item : Stage → Grammar R Tree A) (f : Stage → A → Stage)
      (found : List A) (stage : Stage) (ts : List Token) → begins (first (item stage)) ts ≡ false
      → with_front found (reading rules n (staged item f stage) ts) ≡ Ok (found, ts)
  staged_stop n item f found stage ts b = ap (with_front found)
      (from_stop n item f (length ts) stage ts b) ∙
      ap (λ (z : List _). Ok (z, ts)) (append-nil found)
