-- What is read is spelled, and what is refused was begun.
use Rattle.std.proofs.Common.{◌≡◌, ℕ, zero, suc, Bool, true, false, cond, List, [], ◌∷◌, length}
use Rattle.std.proofs.Common.{Some, None, Ok, Err, refl, subst, inl, inr, ◌⊎◌}
use Rattle.sql_lex.specs.Tokens.{kind_of}
use Rattle.sql_lex.specs.declared.token.TokenKind.{TokenKind}
use Rattle.sql_lex.specs.declared.token.Token.{Token}
use Rattle.grammar_algebra.specs.declared.stage.Stage.{Stage}
use Rattle.grammar_algebra.specs.Grammar.{Grammar, token, nested, both, either, optional, many}
use Rattle.grammar_algebra.specs.Grammar.{staged, map_to, Takes, Passes, Spells, Cut, inside, begun}
use Rattle.grammar_algebra.specs.Reading.{Outcome, NoSpelling, TooDeep, first, begins, expect}
use Rattle.grammar_algebra.specs.Reading.{repeat, repeat_from, read, readers, ◌>>=◌}
use Rattle.grammar_algebra.specs.Exact.{IsSound}
use Rattle.grammar_algebra.proofs.Ahead.{sees_is}
use Rattle.grammar_algebra.proofs.Shapes.{nothing_begins, whole_begins, inside_grows, spells_grows}

module _ {R : Type 0} {Tree : R → Type 0} (rules : (r : R) → Grammar R Tree (Tree r)) where
  abbrev pub ContentSound : ℕ → Type 0
  ContentSound zero = Unit {0}
  ContentSound (suc n) = (r : R) (ts : List Token) →
      IsSound rules n (rules r) ts (read n (readers rules n) (rules r) ts)

  pub sound_token : (n : ℕ) (kind : TokenKind) (ts : List Token) →
      IsSound rules n (token kind) ts (expect kind ts)
  sound_token n kind [] = inl refl
  sound_token n kind (t ∷ rest) = go (begins (kind ∷ []) (t ∷ rest)) refl
    where
      go : (b : Bool) → begins (kind ∷ []) (t ∷ rest) ≡ b → IsSound rules n (token kind) (t ∷ rest)
          (cond b (Ok (t, rest)) (Err (NoSpelling (t ∷ rest))))
      go true e = (sees_is kind t rest e, refl)
      go false e = inl refl

  -- after the opening token
  cut_closing : (n : ℕ) (o : TokenKind) (r : R) (c : TokenKind) (ts opened : List Token) →
      (t : Token) → Takes o t ts opened → (x : Tree r) (last : List Token) →
      Spells (inside rules n) (rules r) x opened last
      → (end : List Token) → (last ≡ end) ⊎ Passes c last end →
      Cut (inside rules (suc n)) (begun rules (suc n)) (nested o r c) ts end
  cut_closing n o r c ts opened t p x last s end (inl e) =
      inr (
        opened,
        (t, p),
        inl (subst (λ (z : List Token). Cut (inside rules n) (begun rules n)
            (rules r) opened z) e (whole_begins (inside rules n) (begun rules n) (rules r) x opened last
            s)),
      )
  cut_closing n o r c ts opened t p x last s end (inr t') =
      inr (opened, (t, p), inr (x, last, s, t'))

  sound_closing : (n : ℕ) (o : TokenKind) (r : R) (c : TokenKind) (ts opened : List Token)
      (t : Token) → Takes o t ts opened → (x : Tree r) (last : List Token) →
      Spells (inside rules n) (rules r) x opened last
      → (q : Outcome Token) → IsSound rules n (token c) last q →
      IsSound rules (suc n) (nested o r c) ts (q >>= λ q. Ok ((t, x), q.1))
  sound_closing n o r c ts opened t p x last s (Ok q) t' = (opened, last, p, s, (q.0, t'))
  sound_closing n o r c ts opened t p x last s (Err (NoSpelling rest)) d =
      cut_closing n o r c ts opened t p x last s rest d
  sound_closing n o r c ts opened t p x last s (Err (TooDeep rest)) d = (
    cut_closing n o r c ts opened t p x last s rest d.0,
    d.1,
    d.2,
    d.3,
    cut_closing
        (suc n) o r c ts opened t p x last (inside_grows rules (suc n) r x opened last s) d.2 d.4,
  )

  sound_content : (n : ℕ) (o : TokenKind) (r : R) (c : TokenKind) (ts opened : List Token)
      (t : Token) → Takes o t ts opened → (p : Outcome (Tree r)) →
      IsSound rules n (rules r) opened p
      → IsSound rules (suc n) (nested o r c) ts
      (p >>= λ x. expect c x.1 >>= λ q. Ok ((t, x.0), q.1))
  sound_content n o r c ts opened t k (Ok p) s =
      sound_closing n o r c ts opened t k p.0 p.1 s (expect c p.1) (sound_token n c p.1)
  sound_content n o r c ts opened t k (Err (NoSpelling rest)) s = inr (opened, (t, k), inl s)
  sound_content n o r c ts opened t k (Err (TooDeep rest)) s =
      (inr (opened, (t, k), inl s.0), s.1, s.2, s.3, inr (opened, (t, k), inl s.4))

  sound_no_room : (o : TokenKind) (r : R) (c : TokenKind) (t : Token) (rest : List Token)
      (b : Bool) → begins (o ∷ []) (t ∷ rest) ≡ b →
      (k : (Token × ℕ) × List Token → Outcome (Token × Tree r))
      → IsSound rules zero (nested o r c) (t ∷ rest)
      (cond b (Err (TooDeep (t ∷ rest))) (Err (NoSpelling (t ∷ rest))) >>= k)
  sound_no_room o r c t rest true e k = (
    inl refl,
    t,
    rest,
    refl,
    inr (
      rest,
      (t, (sees_is o t rest e, refl)),
      inl
          (nothing_begins (inside rules zero) (begun rules zero) (rules r) rest),
    ),
  )
  sound_no_room o r c t rest false e k = inl refl

  sound_room : (n : ℕ) (o : TokenKind) (r : R) (c : TokenKind) (t : Token) (rest : List Token)
      (b : Bool) → begins (o ∷ []) (t ∷ rest) ≡ b →
      (k : (Token × ℕ) × List Token → Outcome (Token × Tree r))
      → (kind_of t.lexeme ≡ o → IsSound rules (suc n) (nested o r c) (t ∷ rest) (k ((t, n), rest)))
      → IsSound rules (suc n) (nested o r c) (t ∷ rest)
      (cond b (Ok ((t, n), rest)) (Err (NoSpelling (t ∷ rest))) >>= k)
  sound_room n o r c t rest true e k s = s (sees_is o t rest e)
  sound_room n o r c t rest false e k s = inl refl

  sound_nested : (n : ℕ) → ContentSound n → (o : TokenKind) (r : R) (c : TokenKind)
      (ts : List Token) → IsSound rules n (nested o r c) ts
      (read n (readers rules n) (nested o r c) ts)
  sound_nested zero h o r c [] = inl refl
  sound_nested (suc n) h o r c [] = inl refl
  sound_nested zero h o r c (t ∷ rest) = sound_no_room o r c t rest (begins (o ∷ []) (t ∷ rest))
      refl (λ p. readers rules zero r p.1 >>= λ x. expect c x.1 >>= λ q. Ok ((p.0.0, x.0), q.1))
  sound_nested (suc n) h o r c (t ∷ rest) = sound_room n o r c t rest (begins (o ∷ []) (t ∷ rest))
      refl (λ p. readers rules (suc n) r p.1 >>= λ x. expect c x.1 >>= λ q. Ok ((p.0.0, x.0), q.1))
      (λ e. sound_content n o r c (t ∷ rest) rest t (e, refl) (readers rules (suc n) r rest)
      (h r rest))

  sound_second : {A B : Type 0} (n : ℕ) (g : Grammar R Tree A) (h : Grammar R Tree B)
      (ts next : List Token) (x : A) → Spells (inside rules n) g x ts next
      → (q : Outcome B) → IsSound rules n h next q →
      IsSound rules n (both g h) ts (q >>= λ y. Ok ((x, y.0), y.1))
  sound_second n g h ts next x s (Ok q) s' = (next, s, s')
  sound_second n g h ts next x s (Err (NoSpelling rest)) c = inr (x, next, s, c)
  sound_second n g h ts next x s (Err (TooDeep rest)) c = (
    inr (x, next, s, c.0),
    c.1,
    c.2,
    c.3,
    inr (
      x,
      next,
      spells_grows (inside rules n) (inside rules (suc n)) (inside_grows rules n) g x ts
          next s,
      c.4,
    ),
  )

  sound_both : {A B : Type 0} (n : ℕ) (g : Grammar R Tree A) (h : Grammar R Tree B)
      (ts : List Token) (p : Outcome A) → IsSound rules n g ts p
      → (k : List Token → Outcome B) → ((next : List Token) → IsSound rules n h next (k next))
      → IsSound rules n (both g h) ts (p >>= λ x. k x.1 >>= λ y. Ok ((x.0, y.0), y.1))
  sound_both n g h ts (Ok p) s k sk = sound_second n g h ts p.1 p.0 s (k p.1) (sk p.1)
  sound_both n g h ts (Err (NoSpelling rest)) c k sk = inl c
  sound_both n g h ts (Err (TooDeep rest)) c k sk = (inl c.0, c.1, c.2, c.3, inl c.4)

  sound_left : {A : Type 0} (n : ℕ) (g h : Grammar R Tree A) (ts : List Token) (p : Outcome A) →
      IsSound rules n g ts p → IsSound rules n (either g h) ts p
  sound_left n g h ts (Ok p) s = inl s
  sound_left n g h ts (Err (NoSpelling rest)) c = inl c
  sound_left n g h ts (Err (TooDeep rest)) c = (inl c.0, c.1, c.2, c.3, inl c.4)

  sound_right : {A : Type 0} (n : ℕ) (g h : Grammar R Tree A) (ts : List Token) (p : Outcome A) →
      IsSound rules n h ts p → IsSound rules n (either g h) ts p
  sound_right n g h ts (Ok p) s = inr s
  sound_right n g h ts (Err (NoSpelling rest)) c = inr c
  sound_right n g h ts (Err (TooDeep rest)) c = (inr c.0, c.1, c.2, c.3, inr c.4)

  sound_some : {A : Type 0} (n : ℕ) (g : Grammar R Tree A) (ts : List Token) (p : Outcome A) →
      IsSound rules n g ts p → IsSound rules n (optional g) ts (p >>= λ x. Ok (Some x.0, x.1))
  sound_some n g ts (Ok p) s = s
  sound_some n g ts (Err (NoSpelling rest)) c = inr c
  sound_some n g ts (Err (TooDeep rest)) c = (inr c.0, c.1, c.2, c.3, inr c.4)

  sound_map : {A B : Type 0} (n : ℕ) (f : A → B) (g : Grammar R Tree A) (ts : List Token)
      (p : Outcome A) → IsSound rules n g ts p →
      IsSound rules n (map_to f g) ts (p >>= λ x. Ok (f x.0, x.1))
  sound_map n f g ts (Ok p) s = (p.0, refl, s)
  sound_map n f g ts (Err (NoSpelling rest)) c = c
  sound_map n f g ts (Err (TooDeep rest)) c = c

  sound_more : {A : Type 0} (n : ℕ) (g : Grammar R Tree A) (ts next : List Token) (x : A) →
      Spells (inside rules n) g x ts next
      → (q : Outcome (List A)) → IsSound rules n (many g) next q →
      IsSound rules n (many g) ts (q >>= λ ps. Ok (x ∷ ps.0, ps.1))
  sound_more n g ts next x s (Ok q) s' = (next, s, s')
  sound_more n g ts next x s (Err (NoSpelling rest)) c = (x ∷ c.0, c.1, (next, s, c.2), c.3)
  sound_more n g ts next x s (Err (TooDeep rest)) c = (
    (x ∷ c.0.0, c.0.1, (next, s, c.0.2), c.0.3),
    c.1,
    c.2,
    c.3,
    (
      x ∷ c.4.0,
      c.4.1,
      (
        next,
        spells_grows (inside rules n) (inside rules (suc n))
            (inside_grows rules n) g x ts next s,
        c.4.2,
      ),
      c.4.3,
    ),
  )

  sound_turn : {A : Type 0} (n : ℕ) (g : Grammar R Tree A) (ts : List Token) (p : Outcome A) →
      IsSound rules n g ts p
      → (k : List Token → Outcome (List A)) →
      ((next : List Token) → IsSound rules n (many g) next (k next))
      → IsSound rules n (many g) ts (p >>= λ x. k x.1 >>= λ ps. Ok (x.0 ∷ ps.0, ps.1))
  sound_turn n g ts (Ok p) s k sk = sound_more n g ts p.1 p.0 s (k p.1) (sk p.1)
  sound_turn n g ts (Err (NoSpelling rest)) c k sk = ([], ts, refl, inr c)
  sound_turn n g ts (Err (TooDeep rest)) c k sk =
      (([], ts, refl, inr c.0), c.1, c.2, c.3, ([], ts, refl, inr c.4))

  sound_cond : {A : Type 0} (n : ℕ) (g : Grammar R Tree A) (ts : List Token) (b : Bool)
      (p q : Outcome A) → IsSound rules n g ts p → IsSound rules n g ts q →
      IsSound rules n g ts (cond b p q)
  sound_cond n g ts true p q sp sq = sp
  sound_cond n g ts false p q sp sq = sq

  pub sound_repeat : {A : Type 0} (n : ℕ) (g : Grammar R Tree A) (item : List Token → Outcome A) →
      ((ts : List Token) → IsSound rules n g ts (item ts))
      → (turns : ℕ) (ts : List Token) → IsSound rules n (many g) ts (repeat (first g) item turns ts)
  sound_repeat n g item s zero ts = refl
  sound_repeat n g item s (suc turns) ts =
      sound_cond n (many g) ts (begins (first g) ts)
      (item ts >>= λ p. repeat (first g) item turns p.1 >>= λ ps. Ok (p.0 ∷ ps.0, ps.1))
      (Ok ([], ts))
      (sound_turn n g ts (item ts) (s ts) (repeat (first g) item turns)
      (sound_repeat n g item s turns)) refl

  sound_more_from : {A : Type 0} (n : ℕ) (item : Stage → Grammar R Tree A) (f : Stage → A → Stage)
      (stage : Stage) (ts next : List Token) (x : A) →
      Spells (inside rules n) (item stage) x ts next
      → (q : Outcome (List A)) → IsSound rules n (staged item f (f stage x)) next q →
      IsSound rules n (staged item f stage) ts (q >>= λ ps. Ok (x ∷ ps.0, ps.1))
  sound_more_from n item f stage ts next x s (Ok q) s' = (next, s, s')
  sound_more_from n item f stage ts next x s (Err (NoSpelling rest)) c =
      (x ∷ c.0, c.1, (next, s, c.2), c.3)
  sound_more_from n item f stage ts next x s (Err (TooDeep rest)) c = (
    (x ∷ c.0.0, c.0.1, (next, s, c.0.2), c.0.3),
    c.1,
    c.2,
    c.3,
    (
      x ∷ c.4.0,
      c.4.1,
      (
        next,
        spells_grows (inside rules n) (inside rules (suc n))
            (inside_grows rules n) (item stage) x ts next s,
        c.4.2,
      ),
      c.4.3,
    ),
  )

  sound_turn_from : {A : Type 0} (n : ℕ) (item : Stage → Grammar R Tree A) (f : Stage → A → Stage)
      (stage : Stage) (ts : List Token) (p : Outcome A) → IsSound rules n (item stage) ts p
      → (k : Stage → List Token → Outcome (List A)) →
      ((stage : Stage) (next : List Token) →
      IsSound rules n (staged item f stage) next (k stage next))
      → IsSound rules n (staged item f stage) ts
      (p >>= λ x. k (f stage x.0) x.1 >>= λ ps. Ok (x.0 ∷ ps.0, ps.1))
  sound_turn_from n item f stage ts (Ok p) s k sk =
      sound_more_from n item f stage ts p.1 p.0 s (k (f stage p.0) p.1) (sk (f stage p.0) p.1)
  sound_turn_from n item f stage ts (Err (NoSpelling rest)) c k sk = ([], ts, refl, inr c)
  sound_turn_from n item f stage ts (Err (TooDeep rest)) c k sk =
      (([], ts, refl, inr c.0), c.1, c.2, c.3, ([], ts, refl, inr c.4))

  pub sound_repeat_from : {A : Type 0} (n : ℕ) (item : Stage → Grammar R Tree A)
      (f : Stage → A → Stage) (one : Stage → List Token → Outcome A)
      → ((stage : Stage) (ts : List Token) → IsSound rules n (item stage) ts (one stage ts))
      → (turns : ℕ) (stage : Stage) (ts : List Token) → IsSound rules n (staged item f stage) ts
      (repeat_from (λ t. first (item t)) one f turns stage ts)
  sound_repeat_from n item f one s zero stage ts = refl
  sound_repeat_from n item f one s (suc turns) stage ts =
      sound_cond n (staged item f stage) ts (begins (first (item stage)) ts)
      (one stage ts >>= λ p. repeat_from (λ t. first (item t)) one f turns (f stage p.0) p.1 >>=
      λ ps. Ok (p.0 ∷ ps.0, ps.1)) (Ok ([], ts))
      (sound_turn_from n item f stage ts (one stage ts) (s stage ts)
      (repeat_from (λ t. first (item t)) one f turns) (sound_repeat_from n item f one s turns))
      refl

  pub sound_in : {A : Type 0} (n : ℕ) → ContentSound n → (g : Grammar R Tree A) (ts : List Token) →
      IsSound rules n g ts (read n (readers rules n) g ts)
  sound_in n c (token kind) ts = sound_token n kind ts
  sound_in n c (nested o r cl) ts = sound_nested n c o r cl ts
  sound_in n c (both g h) ts = sound_both n g h ts (read n (readers rules n) g ts)
      (sound_in n c g ts) (read n (readers rules n) h) (sound_in n c h)
  sound_in n c (either g h) ts = sound_cond n (either g h) ts (begins (first g) ts)
      (read n (readers rules n) g ts) (read n (readers rules n) h ts)
      (sound_left n g h ts (read n (readers rules n) g ts) (sound_in n c g ts))
      (sound_right n g h ts (read n (readers rules n) h ts) (sound_in n c h ts))
  sound_in n c (optional g) ts = sound_cond n (optional g) ts (begins (first g) ts)
      (read n (readers rules n) g ts >>= λ p. Ok (Some p.0, p.1)) (Ok (None, ts))
      (sound_some n g ts (read n (readers rules n) g ts) (sound_in n c g ts)) refl
  sound_in n c (many g) ts = sound_repeat n g (read n (readers rules n) g) (sound_in n c g)
      (length ts) ts
  sound_in n c (staged item f stage) ts = sound_repeat_from n item f
      (λ t. read n (readers rules n) (item t)) (λ t. sound_in n c (item t)) (length ts) stage ts
  sound_in n c (map_to f g) ts = sound_map n f g ts (read n (readers rules n) g ts)
      (sound_in n c g ts)

  pub content_sound : (n : ℕ) → ContentSound n
  content_sound zero = tt
  content_sound (suc n) = λ r ts. sound_in n (content_sound n) (rules r) ts

  pub sound : {A : Type 0} (n : ℕ) (g : Grammar R Tree A) (ts : List Token) →
      IsSound rules n g ts (read n (readers rules n) g ts)
  sound n g ts = sound_in n (content_sound n) g ts
