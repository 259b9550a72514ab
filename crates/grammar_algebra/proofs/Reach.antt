-- Reading comes as far as anything that is begun.
use Rattle.std.proofs.Common.{◌≡◌, ℕ, zero, suc, ◌≤◌, Bool, true, false, not, ◌&&◌, cond, List, []}
use Rattle.std.proofs.Common.{◌∷◌, length, Some, None, Ok, Err, ap, sym, ◌∙◌, subst, inl, inr, ◌⊎◌}
use Rattle.std.proofs.Common.{arith}
use Rattle.std.proofs.lemmas.Bool.{and_parts}
use Rattle.sql_lex.specs.Tokens.{kind_of}
use Rattle.sql_lex.specs.declared.token.TokenKind.{TokenKind}
use Rattle.sql_lex.specs.declared.token.Token.{Token}
use Rattle.grammar_algebra.specs.declared.stage.Stage.{Stage}
use Rattle.grammar_algebra.specs.Grammar.{Grammar, token, nested, both, either, optional, many}
use Rattle.grammar_algebra.specs.Grammar.{staged, map_to, Each, EachFrom, stage_after, Spells, Cut}
use Rattle.grammar_algebra.specs.Grammar.{inside, begun}
use Rattle.grammar_algebra.specs.Reading.{Outcome, NoSpelling, TooDeep, first, nullable, goes_on}
use Rattle.grammar_algebra.specs.Reading.{apart, decides, begins, expect, repeat, repeat_from}
use Rattle.grammar_algebra.specs.Reading.{at_stages, read, readers, ◌>>=◌}
use Rattle.grammar_algebra.specs.Exact.{IsSound, Gets, Reaches}
use Rattle.grammar_algebra.proofs.Ahead.{is_sees, apart_stops, some_stage, each_stage}
use Rattle.grammar_algebra.proofs.Shapes.{whole_begins, spells_shorter, inside_shorter, cut_shorter}
use Rattle.grammar_algebra.proofs.Shapes.{begun_shorter, spells_starts, cut_starts, StartsOrNothing}
use Rattle.grammar_algebra.proofs.Sound.{sound, sound_repeat, sound_repeat_from, sound_token}
use Rattle.grammar_algebra.proofs.Complete.{gets_token, nonnull_starts, nonnull_least, begins_some}
use Rattle.grammar_algebra.proofs.Complete.{ContentComplete, gets_nested, complete_in}
use Rattle.grammar_algebra.proofs.Complete.{content_complete, ItemDecides, item_decides}
use Rattle.grammar_algebra.proofs.Complete.{begins_stage}

reach_map : {A B : Type 0} (n m : ℕ) (f : A → B) (q : Outcome A) (end : List Token) →
    Reaches n m q end → Reaches n m (q >>= λ v. Ok (f v.0, v.1)) end
reach_map n m f (Ok q) end g = g
reach_map n m f (Err (NoSpelling r)) end g = g
reach_map n m f (Err (TooDeep r)) end g = g

reach_bind : {A B C : Type 0} (n m : ℕ) (f : A → B → C) (p : Outcome A) (end : List Token) →
    Reaches n m p end
    → (k : List Token → Outcome B) → ((next : List Token) → length next ≤ length end →
    Reaches n m (k next) end)
    → Reaches n m (p >>= λ u. k u.1 >>= λ v. Ok (f u.0 v.0, v.1)) end
reach_bind n m f (Ok p) end g k rk = reach_map n m (f p.0) (k p.1) end (rk p.1 g)
reach_bind n m f (Err (NoSpelling r)) end g k rk = g
reach_bind n m f (Err (TooDeep r)) end g k rk = g

gets_reach : {A B C : Type 0} (n m : ℕ) (f : A → B → C) (p : Outcome A) (x : A)
    (next end : List Token) → Gets n m p x next
    → (k : List Token → Outcome B) → Reaches n m (k next) end →
    Reaches n m (p >>= λ u. k u.1 >>= λ v. Ok (f u.0 v.0, v.1)) end
gets_reach n m f (Ok p) x next end g k rk = reach_map n m (f p.0) (k p.1) end
    (subst (λ z. Reaches n m (k z) end) (sym g.1) rk)
gets_reach n m f (Err (NoSpelling r)) x next end g k rk = absurd g
gets_reach n m f (Err (TooDeep r)) x next end g k rk = inr g

reach_from : {A : Type 0} (n m : ℕ) (f : Stage → A → Stage) (stage : Stage) (p : Outcome A)
    (end : List Token) → Reaches n m p end
    → (k : Stage → List Token → Outcome (List A)) →
    ((t : Stage) (next : List Token) → length next ≤ length end → Reaches n m (k t next) end)
    → Reaches n m (p >>= λ u. k (f stage u.0) u.1 >>= λ v. Ok (u.0 ∷ v.0, v.1)) end
reach_from n m f stage (Ok p) end g k rk = reach_map n m (λ v. p.0 ∷ v) (k (f stage p.0) p.1) end
    (rk (f stage p.0) p.1 g)
reach_from n m f stage (Err (NoSpelling r)) end g k rk = g
reach_from n m f stage (Err (TooDeep r)) end g k rk = g

gets_reach_from : {A : Type 0} (n m : ℕ) (f : Stage → A → Stage) (stage : Stage) (p : Outcome A)
    (x : A) (next end : List Token) → Gets n m p x next
    → (k : Stage → List Token → Outcome (List A)) → Reaches n m (k (f stage x) next) end →
    Reaches n m (p >>= λ u. k (f stage u.0) u.1 >>= λ v. Ok (u.0 ∷ v.0, v.1)) end
gets_reach_from n m f stage (Ok p) x next end g k rk =
    reach_map n m (λ v. p.0 ∷ v) (k (f stage p.0) p.1) end
    (subst (λ z. Reaches n m (k (f stage z) p.1) end) (sym g.0)
    (subst (λ z. Reaches n m (k (f stage x) z) end) (sym g.1) rk))
gets_reach_from n m f stage (Err (NoSpelling r)) x next end g k rk = absurd g
gets_reach_from n m f stage (Err (TooDeep r)) x next end g k rk = inr g

gets_reaches : {A : Type 0} (n m : ℕ) (p : Outcome A) (x : A) (end : List Token) →
    Gets n m p x end → Reaches n m p end
gets_reaches n m (Ok p) x end g = let l : length p.1 ≡ length end = ap length g.1 in omega arith
gets_reaches n m (Err (NoSpelling r)) x end g = absurd g
gets_reaches n m (Err (TooDeep r)) x end g = inr g

reach_true : {A : Type 0} (n m : ℕ) (b : Bool) (p q : Outcome A) (end : List Token) → b ≡ true →
    Reaches n m p end → Reaches n m (cond b p q) end
reach_true n m true p q end e g = g
reach_true n m false p q end e g = cc

reach_false : {A : Type 0} (n m : ℕ) (b : Bool) (p q : Outcome A) (end : List Token) → b ≡ false →
    Reaches n m q end → Reaches n m (cond b p q) end
reach_false n m true p q end e g = cc
reach_false n m false p q end e g = g

module _ {R : Type 0} {Tree : R → Type 0} (rules : (r : R) → Grammar R Tree (Tree r)) where
  abbrev pub ContentReaches : ℕ → ℕ → Type 0
  ContentReaches zero m = Unit {0}
  ContentReaches (suc n) zero = Unit {0}
  ContentReaches (suc n) (suc m) = (r : R) (ts end : List Token) →
      Cut (inside rules m) (begun rules m) (rules r) ts end →
      Reaches n m (read n (readers rules n) (rules r) ts) end

  -- ---- how far reading comes

  sound_reaches : {A : Type 0} (n m : ℕ) (g : Grammar R Tree A) (ts end : List Token)
      (p : Outcome A) → IsSound rules n g ts p → length ts ≤ length end → Reaches n m p end
  sound_reaches n m g ts end (Ok p) s l =
      let a = spells_shorter (inside rules n) (inside_shorter rules n) g p.0 ts p.1 s in omega arith
  sound_reaches n m g ts end (Err (NoSpelling r)) c l =
      let a = cut_shorter (inside rules n) (inside_shorter rules n) (begun rules n)
      (begun_shorter rules n) g ts r c in omega arith
  sound_reaches n m g ts end (Err (TooDeep r)) c l =
      let a = cut_shorter (inside rules n) (inside_shorter rules n) (begun rules n)
      (begun_shorter rules n) g ts r c.0 in inl (omega arith)

  self : {A : Type 0} (n m : ℕ) (g : Grammar R Tree A) (end ts : List Token) →
      length ts ≤ length end → Reaches n m (read n (readers rules n) g ts) end
  self n m g end ts l = sound_reaches n m g ts end (read n (readers rules n) g ts)
      (sound rules n g ts) l

  here : {A : Type 0} (n m : ℕ) (g : Grammar R Tree A) (ts end : List Token) → ts ≡ end →
      Reaches n m (read n (readers rules n) g ts) end
  here n m g ts end e = let l : length ts ≡ length end = ap length e in
      self n m g end ts (omega arith)

  self_from : {A : Type 0} (n m : ℕ) (item : Stage → Grammar R Tree A) (f : Stage → A → Stage)
      (turns : ℕ) (stage : Stage) (end ts : List Token) → length ts ≤ length end
      → Reaches n m (repeat_from (λ t. first (item t)) (λ t. read n (readers rules n) (item t)) f
      turns stage ts) end
  self_from n m item f turns stage end ts l = sound_reaches n m (staged item f stage) ts end
      (repeat_from (λ t. first (item t)) (λ t. read n (readers rules n) (item t)) f turns stage ts)
      (sound_repeat_from rules n item f (λ t. read n (readers rules n) (item t))
      (λ t. sound rules n (item t)) turns stage ts) l

  -- what stops an item before what is left of the repetition
  begins_or_cut : {A : Type 0} (m : ℕ) (item : Stage → Grammar R Tree A) (f : Stage → A → Stage) →
      ((t : Stage) → ItemDecides rules item t ≡ true)
      → (t : Stage) (xs : List A) (ts next end : List Token) →
      EachFrom (λ u. Spells (inside rules m) (item u)) f t xs ts next
      → (next ≡ end) ⊎ Cut (inside rules m) (begun rules m) (item (stage_after f t xs)) next end →
      StartsOrNothing (at_stages (λ u. first (item u))) ts end
  begins_or_cut m item f d t (x ∷ xs) ts next end (mid, s, each) q =
      inr (some_stage (λ u. first (item u)) t ts
      (begins_stage rules m item t (item_decides rules item t (d t)).1 x ts mid s))
  begins_or_cut m item f d t [] ts next end e (inl e') = inl (e ∙ e')
  begins_or_cut m item f d t [] ts next end e (inr cut) =
      go (cut_starts (inside rules m) (inside_shorter rules m) (begun rules m) (item t) next end
      cut)
    where
      go : StartsOrNothing (first (item t)) next end →
          StartsOrNothing (at_stages (λ u. first (item u))) ts end
      go (inl e') = inl (e ∙ e')
      go (inr b) = inr (some_stage (λ u. first (item u)) t ts
          (subst (λ (z : List Token). begins (first (item t)) z ≡ true) (sym e) b))

  reach_closing : (n m : ℕ) (r : R) (c : TokenKind) (t : Token) (p : Outcome (Tree r))
      (end : List Token) → Reaches n m p end
      → Reaches {A = Token × Tree r} (suc n) (suc m)
      (p >>= λ y. expect c y.1 >>= λ q. Ok ((t, y.0), q.1)) end
  reach_closing n m r c t (Ok p) end l = reach_map (suc n) (suc m) (λ (u : Token). (t, p.0))
      (expect c p.1) end
      (sound_reaches (suc n) (suc m) (token c) p.1 end (expect c p.1)
      (sound_token rules (suc n) c p.1) l)
  reach_closing n m r c t (Err (NoSpelling at)) end l = l
  reach_closing n m r c t (Err (TooDeep at)) end (inl l) = inl l
  reach_closing n m r c t (Err (TooDeep at)) end (inr l) = inr (omega arith)

  reach_no_room : {A : Type 0} (m : ℕ) (b : Bool) (ts : List Token) (k : (Token × ℕ) × List Token →
      Outcome A) (end : List Token) → b ≡ true
      → Reaches zero (suc m) (cond b (Err (TooDeep ts)) (Err (NoSpelling ts)) >>= k) end
  reach_no_room m true ts k end e = inr (omega arith)
  reach_no_room m false ts k end e = cc

  reach_room : {A : Type 0} (left : Token × ℕ) (n m : ℕ) (b : Bool) (ts next : List Token)
      (k : (Token × ℕ) × List Token → Outcome A) (end : List Token) → b ≡ true
      → Reaches n m (k (left, next)) end → Reaches n m
      (cond b (Ok (left, next)) (Err (NoSpelling ts)) >>= k) end
  reach_room left n m true ts next k end e g = g
  reach_room left n m false ts next k end e g = cc

  reach_nested : (n m : ℕ) → ContentReaches n m →
      (o : TokenKind) (r : R) (c : TokenKind) (opened end : List Token) (t : Token)
      → kind_of t.lexeme ≡ o → begun rules m r opened end →
      Reaches n m (read n (readers rules n) (nested o r c) (t ∷ opened)) end
  reach_nested n zero cr o r c opened end t k b = absurd b
  reach_nested zero (suc m) cr o r c opened end t k b =
      reach_no_room m (begins (o ∷ []) (t ∷ opened)) (t ∷ opened)
      (λ p. readers rules zero r p.1 >>= λ x. expect c x.1 >>= λ q. Ok ((p.0.0, x.0), q.1)) end
      (is_sees o t opened k)
  reach_nested (suc n) (suc m) cr o r c opened end t k b =
      reach_room (t, n) (suc n) (suc m) (begins (o ∷ []) (t ∷ opened)) (t ∷ opened) opened
      (λ p. readers rules (suc n) r p.1 >>= λ x. expect c x.1 >>= λ q. Ok ((p.0.0, x.0), q.1)) end
      (is_sees o t opened k)
      (reach_closing n m r c t (readers rules (suc n) r opened) end (cr r opened end b))

  reach_repeat : {A : Type 0} (n m : ℕ) (c : ContentComplete rules n m) (g : Grammar R Tree A) →
      decides rules g ≡ true → not (nullable g) ≡ true → apart (first g) (goes_on g) ≡ true
      → ((ts end : List Token) → Cut (inside rules m) (begun rules m) g ts end →
      Reaches n m (read n (readers rules n) g ts) end)
      → (xs : List A) (turns : ℕ) (ts next end : List Token) → length ts ≤ turns →
      Each (Spells (inside rules m) g) xs ts next
      → (next ≡ end) ⊎ Cut (inside rules m) (begun rules m) g next end →
      Reaches n m (repeat (first g) (read n (readers rules n) g) turns ts) end
  reach_repeat n m c g d nn ap' ir [] turns ts next end l e (inl e') =
      let q : length ts ≡ length end = ap length (e ∙ e') in
      sound_reaches n m (many g) ts end (repeat (first g) (read n (readers rules n) g) turns ts)
      (sound_repeat rules n g (read n (readers rules n) g) (sound rules n g) turns ts)
      (omega arith)
  reach_repeat n m c g d nn ap' ir [] turns ts next end l e (inr cut) =
      go turns l (cut_starts (inside rules m) (inside_shorter rules m) (begun rules m) g ts end
      cut')
    where
      cut' : Cut (inside rules m) (begun rules m) g ts end
      cut' = subst (λ z. Cut (inside rules m) (begun rules m) g z end) (sym e) cut

      again : (turns : ℕ) (next : List Token) → length next ≤ length end →
          Reaches n m (repeat (first g) (read n (readers rules n) g) turns next) end
      again turns next l = sound_reaches n m (many g) next end
          (repeat (first g) (read n (readers rules n) g) turns next)
          (sound_repeat rules n g (read n (readers rules n) g) (sound rules n g) turns next) l

      go : (turns : ℕ) → length ts ≤ turns → StartsOrNothing (first g) ts end →
          Reaches n m (repeat (first g) (read n (readers rules n) g) turns ts) end
      go turns l (inl e') = let q : length ts ≡ length end = ap length e' in
          again turns ts (omega arith)
      go zero l (inr b) = let q = begins_some (first g) ts b in absurd (omega arith)
      go (suc turns) l (inr b) = reach_true n m (begins (first g) ts)
          (read n (readers rules n) g ts >>= λ p. repeat (first g) (read n (readers rules n) g)
          turns p.1 >>= λ ps. Ok (p.0 ∷ ps.0, ps.1)) (Ok ([], ts)) end b
          (reach_bind n m (λ y ys. y ∷ ys) (read n (readers rules n) g ts) end (ir ts end cut')
          (repeat (first g) (read n (readers rules n) g) turns) (again turns))
  reach_repeat n m c g d nn ap' ir (x ∷ xs) zero ts next end l (next1, s, each) q =
      let a = spells_shorter (inside rules m) (inside_shorter rules m) g x ts next1 s in
      let b = nonnull_least (nullable g) nn in absurd (omega arith)
  reach_repeat n m c g d nn ap' ir (x ∷ xs) (suc turns) ts next end l (next1, s, each) q =
      let a = spells_shorter (inside rules m) (inside_shorter rules m) g x ts next1 s in
      let b = nonnull_least (nullable g) nn in
      reach_true n m (begins (first g) ts) (read n (readers rules n) g ts >>= λ p. repeat (first g)
      (read n (readers rules n) g) turns p.1 >>= λ ps. Ok (p.0 ∷ ps.0, ps.1)) (Ok ([], ts)) end
      (nonnull_starts (first g) (nullable g) ts next1 nn a
      (spells_starts (inside rules m) (inside_shorter rules m) g x ts next1 s))
      (go (reach_repeat n m c g d nn ap' ir xs turns next1 next end (omega arith) each q)
      (cut_starts (inside rules m) (inside_shorter rules m) (begun rules m) (many g) next1 end
      (xs, next, each, q)))
    where
      again : (next : List Token) → length next ≤ length end →
          Reaches n m (repeat (first g) (read n (readers rules n) g) turns next) end
      again next l = sound_reaches n m (many g) next end
          (repeat (first g) (read n (readers rules n) g) turns next)
          (sound_repeat rules n g (read n (readers rules n) g) (sound rules n g) turns next) l

      go : Reaches n m (repeat (first g) (read n (readers rules n) g) turns next1) end →
          StartsOrNothing (first g) next1 end
          → Reaches n m (read n (readers rules n) g ts >>= λ p. repeat (first g)
          (read n (readers rules n) g) turns p.1 >>= λ ps. Ok (p.0 ∷ ps.0, ps.1)) end
      go later (inr b) = gets_reach n m (λ y ys. y ∷ ys) (read n (readers rules n) g ts) x next1 end
          (complete_in rules n m c g d x ts next1 s (apart_stops (first g) (goes_on g) next1 ap' b))
          (repeat (first g) (read n (readers rules n) g) turns) later
      go later (inl e) = reach_bind n m (λ y ys. y ∷ ys) (read n (readers rules n) g ts) end
          (ir ts end (subst (λ z. Cut (inside rules m) (begun rules m) g ts z) e
          (whole_begins (inside rules m) (begun rules m) g x ts next1 s)))
          (repeat (first g) (read n (readers rules n) g) turns) again

  -- the same, by stages
  reach_repeat_from : {A : Type 0} (n m : ℕ) (c : ContentComplete rules n m) (item : Stage →
      Grammar R Tree A) (f : Stage → A → Stage) → ((t : Stage) → ItemDecides rules item t ≡ true)
      → ((t : Stage) (ts end : List Token) → Cut (inside rules m) (begun rules m) (item t) ts end →
      Reaches n m (read n (readers rules n) (item t) ts) end)
      → (xs : List A) (turns : ℕ) (stage : Stage) (ts next end : List Token) → length ts ≤ turns →
      EachFrom (λ t. Spells (inside rules m) (item t)) f stage xs ts next
      → (next ≡ end) ⊎ Cut (inside rules m) (begun rules m) (item (stage_after f stage xs)) next end
      → Reaches n m (repeat_from (λ t. first (item t)) (λ t. read n (readers rules n) (item t)) f
      turns stage ts) end
  reach_repeat_from n m c item f d ir [] turns stage ts next end l e (inl e') =
      let q : length ts ≡ length end = ap length (e ∙ e') in
      self_from n m item f turns stage end ts (omega arith)
  reach_repeat_from n m c item f d ir [] turns stage ts next end l e (inr cut) =
      go turns l (cut_starts (inside rules m) (inside_shorter rules m) (begun rules m)
      (item stage) ts end cut')
    where
      cut' : Cut (inside rules m) (begun rules m) (item stage) ts end
      cut' = subst (λ z. Cut (inside rules m) (begun rules m) (item stage) z end) (sym e) cut

      go : (turns : ℕ) → length ts ≤ turns → StartsOrNothing (first (item stage)) ts end
          → Reaches n m (repeat_from (λ t. first (item t)) (λ t. read n (readers rules n) (item t))
          f turns stage ts) end
      go turns l (inl e') = let q : length ts ≡ length end = ap length e' in
          self_from n m item f turns stage end ts (omega arith)
      go zero l (inr b) = let q = begins_some (first (item stage)) ts b in absurd (omega arith)
      go (suc turns) l (inr b) = reach_true n m (begins (first (item stage)) ts)
          (read n (readers rules n) (item stage) ts >>= λ p. repeat_from (λ t. first (item t))
          (λ t. read n (readers rules n) (item t)) f turns (f stage p.0) p.1 >>= λ ps.
          Ok (p.0 ∷ ps.0, ps.1)) (Ok ([], ts)) end b
          (reach_from n m f stage (read n (readers rules n) (item stage) ts) end
          (ir stage ts end cut') (repeat_from (λ t. first (item t))
          (λ t. read n (readers rules n) (item t)) f turns)
          (λ t next l. self_from n m item f turns t end next l))
  reach_repeat_from n m c item f d ir (x ∷ xs) zero stage ts next end l (next1, s, each) q =
      let a = spells_shorter (inside rules m) (inside_shorter rules m) (item stage) x ts next1 s in
      let b = nonnull_least (nullable (item stage)) (item_decides rules item stage (d stage)).1 in
      absurd (omega arith)
  reach_repeat_from n m c item f d ir (x ∷ xs) (suc turns) stage ts next end l (next1, s, each) q =
      let a = spells_shorter (inside rules m) (inside_shorter rules m) (item stage) x ts next1 s in
      let b = nonnull_least (nullable (item stage)) (item_decides rules item stage (d stage)).1 in
      reach_true n m (begins (first (item stage)) ts)
      (read n (readers rules n) (item stage) ts >>= λ p. repeat_from (λ t. first (item t))
      (λ t. read n (readers rules n) (item t)) f turns (f stage p.0) p.1 >>= λ ps.
      Ok (p.0 ∷ ps.0, ps.1)) (Ok ([], ts)) end
      (begins_stage rules m item stage (item_decides rules item stage (d stage)).1 x ts next1 s)
      (go (reach_repeat_from n m c item f d ir xs turns (f stage x) next1 next end
      (omega arith) each q) (begins_or_cut m item f d (f stage x) xs next1 next end each q))
    where
      go : Reaches n m (repeat_from (λ t. first (item t)) (λ t. read n (readers rules n) (item t)) f
          turns (f stage x) next1) end → StartsOrNothing (at_stages (λ t. first (item t))) next1 end
          → Reaches n m (read n (readers rules n) (item stage) ts >>= λ p. repeat_from
          (λ t. first (item t)) (λ t. read n (readers rules n) (item t)) f turns
          (f stage p.0) p.1 >>= λ ps. Ok (p.0 ∷ ps.0, ps.1)) end
      go later (inr b) = gets_reach_from n m f stage (read n (readers rules n) (item stage) ts) x
          next1 end
          (complete_in rules n m c (item stage) (item_decides rules item stage (d stage)).0 x ts
          next1 s
          (apart_stops (at_stages (λ t. first (item t))) (goes_on (item stage)) next1
          (item_decides rules item stage (d stage)).2 b))
          (repeat_from (λ t. first (item t)) (λ t. read n (readers rules n) (item t)) f turns) later
      go later (inl e) = reach_from n m f stage (read n (readers rules n) (item stage) ts) end
          (ir stage ts end (subst (λ z. Cut (inside rules m) (begun rules m) (item stage) ts z) e
          (whole_begins (inside rules m) (begun rules m) (item stage) x ts next1 s)))
          (repeat_from (λ t. first (item t)) (λ t. read n (readers rules n) (item t)) f turns)
          (λ t next l. self_from n m item f turns t end next l)

  reach_both : {A B : Type 0} (n m : ℕ) (g : Grammar R Tree A) (h : Grammar R Tree B)
      (ts end : List Token) → Reaches n m (read n (readers rules n) g ts) end
      → Reaches n m (read n (readers rules n) (both g h) ts) end
  reach_both n m g h ts end r = reach_bind n m (λ y z. (y, z)) (read n (readers rules n) g ts) end r
      (read n (readers rules n) h) (self n m h end)

  pub reach_in : {A : Type 0} (n m : ℕ) → ContentComplete rules n m → ContentReaches n m →
      (g : Grammar R Tree A) → decides rules g ≡ true → (ts end : List Token)
      → Cut (inside rules m) (begun rules m) g ts end →
      Reaches n m (read n (readers rules n) g ts) end
  reach_in n m c cr (token kind) d ts end (inl e) = here n m (token kind) ts end e
  reach_in n m c cr (token kind) d ts end (inr (t, p)) =
      gets_reaches n m (expect kind ts) t end (gets_token n m kind t ts end p)
  reach_in n m c cr (nested o r cl) d ts end (inl e) = here n m (nested o r cl) ts end e
  reach_in n m c cr (nested o r cl) d ts end (inr (opened, (t, (k, e)), inl b)) =
      subst (λ z. Reaches n m (read n (readers rules n) (nested o r cl) z) end) (sym e)
      (reach_nested n m cr o r cl opened end t k b)
  reach_in n m c cr (nested o r cl) d ts end (inr (opened, (t, (k, e)), inr (x, last, s, t'))) =
      subst (λ z. Reaches n m (read n (readers rules n) (nested o r cl) z) end) (sym e)
      (gets_reaches n m (read n (readers rules n) (nested o r cl) (t ∷ opened)) (t, x) end
      (gets_nested rules n m c o r cl d x opened last end t k s t'))
  reach_in n m c cr (both g h) d ts end (inl cut) =
      reach_both n m g h ts end (reach_in n m c cr g
      (and_parts (decides rules g) (decides rules h && apart (first h) (goes_on g)) d).0 ts end
      cut)
  reach_in n m c cr (both g h) d ts end (inr (x, next, s, cut)) =
      let p = and_parts (decides rules g) (decides rules h && apart (first h) (goes_on g)) d in
      let q = and_parts (decides rules h) (apart (first h) (goes_on g)) p.1 in
      go p.0 q.1 (reach_in n m c cr g p.0 ts end) (reach_in n m c cr h q.0 next end cut)
      (cut_starts (inside rules m) (inside_shorter rules m) (begun rules m) h next end cut)
    where
      go : decides rules g ≡ true → apart (first h) (goes_on g) ≡ true →
          (Cut (inside rules m) (begun rules m) g ts end →
          Reaches n m (read n (readers rules n) g ts) end)
          → Reaches n m (read n (readers rules n) h next) end → StartsOrNothing (first h) next end →
          Reaches n m (read n (readers rules n) (both g h) ts) end
      go dg a rg rh (inr b) = gets_reach n m (λ y z. (y, z)) (read n (readers rules n) g ts) x next
          end (complete_in rules n m c g dg x ts next s
          (apart_stops (first h) (goes_on g) next a b)) (read n (readers rules n) h) rh
      go dg a rg rh (inl e) = reach_both n m g h ts end
          (rg (subst (λ z. Cut (inside rules m) (begun rules m) g ts z) e
          (whole_begins (inside rules m) (begun rules m) g x ts next s)))
  reach_in n m c cr (either g h) d ts end (inl cut) =
      let p = and_parts (decides rules g) (decides rules h &&
      (apart (first h) (first g) && (not (nullable g) && not (nullable h)))) d in
      go (reach_in n m c cr g p.0 ts end cut)
      (cut_starts (inside rules m) (inside_shorter rules m) (begun rules m) g ts end cut)
    where
      go : Reaches n m (read n (readers rules n) g ts) end → StartsOrNothing (first g) ts end →
          Reaches n m (read n (readers rules n) (either g h) ts) end
      go r (inl e) = here n m (either g h) ts end e
      go r (inr b) = reach_true n m (begins (first g) ts) (read n (readers rules n) g ts)
          (read n (readers rules n) h ts) end b r
  reach_in n m c cr (either g h) d ts end (inr cut) =
      let p = and_parts (decides rules g) (decides rules h &&
      (apart (first h) (first g) && (not (nullable g) && not (nullable h)))) d in
      let q = and_parts (decides rules h) (apart (first h) (first g) &&
      (not (nullable g) && not (nullable h))) p.1 in
      let q' = and_parts (apart (first h) (first g)) (not (nullable g) && not (nullable h)) q.1 in
      go q'.0 (reach_in n m c cr h q.0 ts end cut)
      (cut_starts (inside rules m) (inside_shorter rules m) (begun rules m) h ts end cut)
    where
      go : apart (first h) (first g) ≡ true → Reaches n m (read n (readers rules n) h ts) end →
          StartsOrNothing (first h) ts end → Reaches n m (read n (readers rules n) (either g h) ts)
          end
      go a r (inl e) = here n m (either g h) ts end e
      go a r (inr b) = reach_false n m (begins (first g) ts) (read n (readers rules n) g ts)
          (read n (readers rules n) h ts) end (apart_stops (first h) (first g) ts a b) r
  reach_in n m c cr (optional g) d ts end (inl e) = here n m (optional g) ts end e
  reach_in n m c cr (optional g) d ts end (inr cut) =
      go (reach_in n m c cr g (and_parts (decides rules g) (not (nullable g)) d).0 ts end cut)
      (cut_starts (inside rules m) (inside_shorter rules m) (begun rules m) g ts end cut)
    where
      go : Reaches n m (read n (readers rules n) g ts) end → StartsOrNothing (first g) ts end →
          Reaches n m (read n (readers rules n) (optional g) ts) end
      go r (inl e) = here n m (optional g) ts end e
      go r (inr b) = reach_true n m (begins (first g) ts)
          (read n (readers rules n) g ts >>= λ p. Ok (Some p.0, p.1)) (Ok (None, ts)) end b
          (reach_map n m Some (read n (readers rules n) g ts) end r)
  reach_in n m c cr (many g) d ts end (xs, next, each, last) =
      let p = and_parts (decides rules g) (not (nullable g) && apart (first g) (goes_on g)) d in
      let q = and_parts (not (nullable g)) (apart (first g) (goes_on g)) p.1 in
      reach_repeat n m c g p.0 q.0 q.1 (reach_in n m c cr g p.0) xs (length ts) ts next end
      (omega arith) each last
  reach_in n m c cr (staged item f stage) d ts end (xs, next, each, last) =
      let dt = each_stage (ItemDecides rules item) d in
      reach_repeat_from n m c item f dt (λ t. reach_in n m c cr (item t)
      (item_decides rules item t (dt t)).0) xs (length ts) stage ts next end (omega arith) each
      last
  reach_in n m c cr (map_to f g) d ts end cut =
      reach_map n m f (read n (readers rules n) g ts) end (reach_in n m c cr g d ts end cut)

  pub content_reaches : ((r : R) → decides rules (rules r) ≡ true) → (n m : ℕ) → ContentReaches n m
  content_reaches all zero m = tt
  content_reaches all (suc n) zero = tt
  content_reaches all (suc n) (suc m) = λ r ts end cut. reach_in n m
      (content_complete rules all n m) (content_reaches all n m) (rules r) (all r) ts end cut
