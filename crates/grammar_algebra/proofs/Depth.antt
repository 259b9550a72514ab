-- Where there is no room, the next token opens a construct.
use Rattle.std.proofs.Common.{◌≡◌, ℕ, zero, suc, Bool, true, false, cond, List, [], ◌∷◌, length}
use Rattle.std.proofs.Common.{Some, None, Ok, Err, refl, inl, inr}
use Rattle.sql_lex.specs.Tokens.{kind_of}
use Rattle.sql_lex.specs.declared.token.TokenKind.{TokenKind}
use Rattle.sql_lex.specs.declared.token.Token.{Token}
use Rattle.grammar_algebra.specs.declared.stage.Stage.{Stage}
use Rattle.grammar_algebra.specs.Grammar.{Grammar, token, nested, both, either, optional, many}
use Rattle.grammar_algebra.specs.Grammar.{staged, map_to, Opens}
use Rattle.grammar_algebra.specs.Reading.{Outcome, NoSpelling, TooDeep, first, begins, expect}
use Rattle.grammar_algebra.specs.Reading.{repeat, repeat_from, read, readers, ◌>>=◌}
use Rattle.grammar_algebra.specs.Exact.{DeepAt}
use Rattle.grammar_algebra.proofs.Ahead.{sees_is}

-- ---- outcomes

deep_weaker : {A : Type 0} (P Q : TokenKind → Type 0) → ((k : TokenKind) → P k → Q k) →
    (o : Outcome A) → DeepAt P o → DeepAt Q o
deep_weaker P Q f (Ok p) d = tt
deep_weaker P Q f (Err (NoSpelling rest)) d = tt
deep_weaker P Q f (Err (TooDeep rest)) d = (d.0, d.1, d.2, f (kind_of d.0.lexeme) d.3)

deep_map : {A B : Type 0} (P : TokenKind → Type 0) (f : A → B) (o : Outcome A) → DeepAt P o →
    DeepAt P (o >>= λ p. Ok (f p.0, p.1))
deep_map P f (Ok p) d = tt
deep_map P f (Err (NoSpelling rest)) d = tt
deep_map P f (Err (TooDeep rest)) d = d

deep_bind : {A B C : Type 0} (P : TokenKind → Type 0) (f : A → B → C) (o : Outcome A) → DeepAt P o →
    (k : A → List Token → Outcome B) → ((x : A) (next : List Token) → DeepAt P (k x next))
    → DeepAt P (o >>= λ u. k u.0 u.1 >>= λ v. Ok (f u.0 v.0, v.1))
deep_bind P f (Ok p) d k dk = deep_map P (f p.0) (k p.0 p.1) (dk p.0 p.1)
deep_bind P f (Err (NoSpelling rest)) d k dk = tt
deep_bind P f (Err (TooDeep rest)) d k dk = d

deep_cond : {A : Type 0} (P : TokenKind → Type 0) (b : Bool) (o o' : Outcome A) → DeepAt P o →
    DeepAt P o' → DeepAt P (cond b o o')
deep_cond P true o o' d d' = d
deep_cond P false o o' d d' = d'

deep_repeat : {A : Type 0} (P : TokenKind → Type 0) (kinds : List TokenKind)
    (item : List Token → Outcome A) → ((ts : List Token) → DeepAt P (item ts))
    → (turns : ℕ) (ts : List Token) → DeepAt P (repeat kinds item turns ts)
deep_repeat P kinds item d zero ts = tt
deep_repeat P kinds item d (suc turns) ts =
    deep_cond P (begins kinds ts) (item ts >>= λ p. repeat kinds item turns p.1 >>= λ ps.
    Ok (p.0 ∷ ps.0, ps.1)) (Ok ([], ts))
    (deep_bind P (λ x xs. x ∷ xs) (item ts) (d ts) (λ x. repeat kinds item turns)
    (λ x. deep_repeat P kinds item d turns)) tt

deep_repeat_from : {A : Type 0} (P : TokenKind → Type 0) (kinds : Stage → List TokenKind)
    (item : Stage → List Token → Outcome A) (f : Stage → A → Stage) →
    ((t : Stage) (ts : List Token) → DeepAt P (item t ts))
    → (turns : ℕ) (stage : Stage) (ts : List Token) →
    DeepAt P (repeat_from kinds item f turns stage ts)
deep_repeat_from P kinds item f d zero stage ts = tt
deep_repeat_from P kinds item f d (suc turns) stage ts =
    deep_cond P (begins (kinds stage) ts) (item stage ts >>= λ p. repeat_from kinds item f turns
    (f stage p.0) p.1 >>= λ ps. Ok (p.0 ∷ ps.0, ps.1)) (Ok ([], ts))
    (deep_bind P (λ x xs. x ∷ xs) (item stage ts) (d stage ts)
    (λ x. repeat_from kinds item f turns (f stage x))
    (λ x. deep_repeat_from P kinds item f d turns (f stage x))) tt

deep_expect : (P : TokenKind → Type 0) (kind : TokenKind) (ts : List Token) →
    DeepAt P (expect kind ts)
deep_expect P kind [] = tt
deep_expect P kind (t ∷ rest) = deep_cond P (begins (kind ∷ []) (t ∷ rest)) (Ok (t, rest))
    (Err (NoSpelling (t ∷ rest))) tt tt

-- ---- grammars

module _ {R : Type 0} {Tree : R → Type 0} (rules : (r : R) → Grammar R Tree (Tree r)) where
  abbrev ContentDeep : ℕ → Type 0
  ContentDeep zero = Unit {0}
  ContentDeep (suc n) = (r : R) (ts : List Token) →
      DeepAt (Opens rules (rules r)) (read n (readers rules n) (rules r) ts)

  -- what opens a construct within one opens one of the whole
  within : (o : TokenKind) (r : R) (c : TokenKind) (k : TokenKind) → Opens rules (rules r) k →
      Opens rules (nested o r c) k
  within o r c k (inl here) = inr (r, here)
  within o r c k (inr there) = inr there

  deep_content : (o : TokenKind) (r : R) (c : TokenKind) (t : Token) (p : Outcome (Tree r)) →
      DeepAt (Opens rules (rules r)) p
      → DeepAt {A = Token × Tree r} (Opens rules (nested o r c))
      (p >>= λ x. expect c x.1 >>= λ q. Ok ((t, x.0), q.1))
  deep_content o r c t p d = deep_bind (Opens rules (nested o r c))
      (λ (x : Tree r) (u : Token). (t, x)) p
      (deep_weaker (Opens rules (rules r)) (Opens rules (nested o r c)) (within o r c) p d)
      (λ x. expect c)
      (λ x. deep_expect (Opens rules (nested o r c)) c)

  deep_no_room : {A : Type 0} (o : TokenKind) (r : R) (c : TokenKind) (t : Token)
      (rest : List Token) (b : Bool) → begins (o ∷ []) (t ∷ rest) ≡ b →
      (k : (Token × ℕ) × List Token → Outcome A)
      → DeepAt (Opens rules (nested o r c)) (cond b (Err (TooDeep (t ∷ rest)))
      (Err (NoSpelling (t ∷ rest))) >>= k)
  deep_no_room o r c t rest true e k = (t, rest, refl, inl (sees_is o t rest e))
  deep_no_room o r c t rest false e k = tt

  deep_room : {A : Type 0} (P : TokenKind → Type 0) (left : Token × ℕ) (ts next : List Token)
      (b : Bool) (k : (Token × ℕ) × List Token → Outcome A) → DeepAt P (k (left, next))
      → DeepAt P (cond b (Ok (left, next)) (Err (NoSpelling ts)) >>= k)
  deep_room P left ts next true k d = d
  deep_room P left ts next false k d = tt

  deep_nested : (n : ℕ) → ContentDeep n → (o : TokenKind) (r : R) (c : TokenKind) (ts : List Token)
      → DeepAt (Opens rules (nested o r c)) (read n (readers rules n) (nested o r c) ts)
  deep_nested zero d o r c [] = tt
  deep_nested (suc n) d o r c [] = tt
  deep_nested zero d o r c (t ∷ rest) = deep_no_room o r c t rest (begins (o ∷ []) (t ∷ rest)) refl
      (λ p. readers rules zero r p.1 >>= λ x. expect c x.1 >>= λ q. Ok ((p.0.0, x.0), q.1))
  deep_nested (suc n) d o r c (t ∷ rest) = deep_room (Opens rules (nested o r c)) (t, n)
      (t ∷ rest) rest (begins (o ∷ []) (t ∷ rest))
      (λ p. readers rules (suc n) r p.1 >>= λ x. expect c x.1 >>= λ q. Ok ((p.0.0, x.0), q.1))
      (deep_content o r c t (readers rules (suc n) r rest) (d r rest))

  -- what opens a construct of a part opens one of the whole
  of_left : {A B : Type 0} (g : Grammar R Tree A) (h : Grammar R Tree B) (k : TokenKind) →
      Opens rules g k → Opens rules (both g h) k
  of_left g h k (inl here) = inl (inl here)
  of_left g h k (inr there) = inr there

  of_right : {A B : Type 0} (g : Grammar R Tree A) (h : Grammar R Tree B) (k : TokenKind) →
      Opens rules h k → Opens rules (both g h) k
  of_right g h k (inl here) = inl (inr here)
  of_right g h k (inr there) = inr there

  of_stage : {A : Type 0} (item : Stage → Grammar R Tree A) (f : Stage → A → Stage)
      (stage t : Stage) (k : TokenKind) → Opens rules (item t) k →
      Opens rules (staged item f stage) k
  of_stage item f stage t k (inl here) = inl (t, here)
  of_stage item f stage t k (inr there) = inr there

  deep_in : {A : Type 0} (n : ℕ) → ContentDeep n → (g : Grammar R Tree A) (ts : List Token) →
      DeepAt (Opens rules g) (read n (readers rules n) g ts)
  deep_in n d (token kind) ts = deep_expect (Opens rules (token kind)) kind ts
  deep_in n d (nested o r c) ts = deep_nested n d o r c ts
  deep_in n d (both g h) ts = deep_bind (Opens rules (both g h)) (λ x y. (x, y))
      (read n (readers rules n) g ts)
      (deep_weaker (Opens rules g) (Opens rules (both g h)) (of_left g h)
      (read n (readers rules n) g ts) (deep_in n d g ts)) (λ x. read n (readers rules n) h)
      (λ x next. deep_weaker (Opens rules h) (Opens rules (both g h)) (of_right g h)
      (read n (readers rules n) h next) (deep_in n d h next))
  deep_in n d (either g h) ts = deep_cond (Opens rules (either g h)) (begins (first g) ts)
      (read n (readers rules n) g ts) (read n (readers rules n) h ts)
      (deep_weaker (Opens rules g) (Opens rules (either g h)) (of_left g h)
      (read n (readers rules n) g ts) (deep_in n d g ts))
      (deep_weaker (Opens rules h) (Opens rules (either g h)) (of_right g h)
      (read n (readers rules n) h ts) (deep_in n d h ts))
  deep_in n d (optional g) ts = deep_cond (Opens rules g) (begins (first g) ts)
      (read n (readers rules n) g ts >>= λ p. Ok (Some p.0, p.1)) (Ok (None, ts))
      (deep_map (Opens rules g) Some (read n (readers rules n) g ts) (deep_in n d g ts)) tt
  deep_in n d (many g) ts = deep_repeat (Opens rules g) (first g) (read n (readers rules n) g)
      (deep_in n d g) (length ts) ts
  deep_in n d (staged item f stage) ts = deep_repeat_from (Opens rules (staged item f stage))
      (λ t. first (item t)) (λ t. read n (readers rules n) (item t)) f
      (λ t ts. deep_weaker (Opens rules (item t)) (Opens rules (staged item f stage))
      (of_stage item f stage t) (read n (readers rules n) (item t) ts)
      (deep_in n d (item t) ts)) (length ts) stage ts
  deep_in n d (map_to f g) ts = deep_map (Opens rules g) f (read n (readers rules n) g ts)
      (deep_in n d g ts)

  content_deep : (n : ℕ) → ContentDeep n
  content_deep zero = tt
  content_deep (suc n) = λ r ts. deep_in n (content_deep n) (rules r) ts

  pub deep : {A : Type 0} (n : ℕ) (g : Grammar R Tree A) (ts : List Token) →
      DeepAt (Opens rules g) (read n (readers rules n) g ts)
  deep n g ts = deep_in n (content_deep n) g ts
