-- What is spelled is read.
use Rattle.std.proofs.Common.{◌≡◌, ℕ, zero, suc, ◌+◌, ◌≤◌, Bool, true, false, not, ◌&&◌, cond, List}
use Rattle.std.proofs.Common.{[], ◌∷◌, ◌++◌, length, Some, None, Ok, Err, refl, ap, sym, ◌∙◌, subst}
use Rattle.std.proofs.Common.{inl, inr, arith}
use Rattle.std.proofs.lemmas.Bool.{and_parts}
use Rattle.sql_lex.specs.Tokens.{kind_of}
use Rattle.sql_lex.specs.declared.token.TokenKind.{TokenKind}
use Rattle.sql_lex.specs.declared.token.Token.{Token}
use Rattle.grammar_algebra.specs.declared.stage.Stage.{Stage}
use Rattle.grammar_algebra.specs.Grammar.{Grammar, token, nested, both, either, optional, many}
use Rattle.grammar_algebra.specs.Grammar.{staged, map_to, Takes, Passes, Each, EachFrom, Spells}
use Rattle.grammar_algebra.specs.Grammar.{inside}
use Rattle.grammar_algebra.specs.Reading.{Outcome, NoSpelling, TooDeep, first, nullable, goes_on}
use Rattle.grammar_algebra.specs.Reading.{apart, is_one_of, decides, begins, expect, repeat}
use Rattle.grammar_algebra.specs.Reading.{repeat_from, at_stages, read, readers, ◌>>=◌}
use Rattle.grammar_algebra.specs.Exact.{Gets}
use Rattle.grammar_algebra.proofs.Ahead.{is_sees, stops_both, stops_one, apart_stops, some_stage}
use Rattle.grammar_algebra.proofs.Ahead.{each_stage_stops, each_stage}
use Rattle.grammar_algebra.proofs.Shapes.{least, spells_shorter, inside_shorter, spells_starts}
use Rattle.grammar_algebra.proofs.Shapes.{StartsOrNothing}

-- ---- outcomes

pub gets_true : {A : Type 0} (n m : ℕ) (b : Bool) (p q : Outcome A) (x : A) (rest : List Token) →
    b ≡ true → Gets n m p x rest → Gets n m (cond b p q) x rest
gets_true n m true p q x rest e g = g
gets_true n m false p q x rest e g = cc

pub gets_false : {A : Type 0} (n m : ℕ) (b : Bool) (p q : Outcome A) (x : A) (rest : List Token) →
    b ≡ false → Gets n m q x rest → Gets n m (cond b p q) x rest
gets_false n m true p q x rest e g = cc
gets_false n m false p q x rest e g = g

pub gets_map : {A B : Type 0} (n m : ℕ) (f : A → B) (q : Outcome A) (y : A) (rest : List Token) →
    Gets n m q y rest → Gets n m (q >>= λ v. Ok (f v.0, v.1)) (f y) rest
gets_map n m f (Ok q) y rest g = (ap f g.0, g.1)
gets_map n m f (Err (NoSpelling r)) y rest g = absurd g
gets_map n m f (Err (TooDeep r)) y rest g = g

gets_last : {A B C : Type 0} (n m : ℕ) (f : A → B → C) (z x : A) → z ≡ x →
    (q : Outcome B) (y : B) (rest : List Token) → Gets n m q y rest
    → Gets n m (q >>= λ v. Ok (f z v.0, v.1)) (f x y) rest
gets_last n m f z x e (Ok q) y rest g = (ap (λ w. f w q.0) e ∙ ap (f x) g.0, g.1)
gets_last n m f z x e (Err (NoSpelling r)) y rest g = absurd g
gets_last n m f z x e (Err (TooDeep r)) y rest g = g

pub gets_bind : {A B C : Type 0} (n m : ℕ) (f : A → B → C) (p : Outcome A) (x : A)
    (next : List Token) → Gets n m p x next
    → (k : List Token → Outcome B) (y : B) (rest : List Token) → Gets n m (k next) y rest
    → Gets n m (p >>= λ u. k u.1 >>= λ v. Ok (f u.0 v.0, v.1)) (f x y) rest
gets_bind n m f (Ok p) x next g k y rest g' =
    gets_last n m f p.0 x g.0 (k p.1) y rest (subst (λ z. Gets n m (k z) y rest) (sym g.1) g')
gets_bind n m f (Err (NoSpelling r)) x next g k y rest g' = absurd g
gets_bind n m f (Err (TooDeep r)) x next g k y rest g' = g

pub gets_from : {A : Type 0} (n m : ℕ) (f : Stage → A → Stage) (stage : Stage) (p : Outcome A)
    (x : A) (next : List Token) → Gets n m p x next
    → (k : Stage → List Token → Outcome (List A)) (xs : List A) (rest : List Token) →
    Gets n m (k (f stage x) next) xs rest
    → Gets n m (p >>= λ u. k (f stage u.0) u.1 >>= λ v. Ok (u.0 ∷ v.0, v.1)) (x ∷ xs) rest
gets_from n m f stage (Ok p) x next g k xs rest g' =
    gets_last n m (λ y ys. y ∷ ys) p.0 x g.0 (k (f stage p.0) p.1) xs rest
    (subst (λ z. Gets n m (k (f stage z) p.1) xs rest) (sym g.0)
    (subst (λ z. Gets n m (k (f stage x) z) xs rest) (sym g.1) g'))
gets_from n m f stage (Err (NoSpelling r)) x next g k xs rest g' = absurd g
gets_from n m f stage (Err (TooDeep r)) x next g k xs rest g' = g

pub begins_some : (kinds : List TokenKind) (ts : List Token) → begins kinds ts ≡ true →
    1 ≤ length ts
begins_some kinds [] e = cc
begins_some kinds (t ∷ ts) e = omega arith

pub gets_token : (n m : ℕ) (kind : TokenKind) (t : Token) (ts rest : List Token) →
    Takes kind t ts rest → Gets n m (expect kind ts) t rest
gets_token n m kind t ts rest (k, e) = subst (λ z. Gets n m (expect kind z) t rest) (sym e)
    (gets_true n m (begins (kind ∷ []) (t ∷ rest)) (Ok (t, rest)) (Err (NoSpelling (t ∷ rest))) t
    rest (is_sees kind t rest k) (refl, refl))

pub nonnull_starts : (kinds : List TokenKind) (b : Bool) (ts rest : List Token) → not b ≡ true →
    length rest + least b ≤ length ts → StartsOrNothing kinds ts rest → begins kinds ts ≡ true
nonnull_starts kinds b ts rest n l (inr s) = s
nonnull_starts kinds true ts rest n l (inl e) = cc
nonnull_starts kinds false ts rest n l (inl e) = let l' : length ts ≡ length rest = ap length e in
    absurd (omega arith)

pub nonnull_least : (b : Bool) → not b ≡ true → least b ≡ 1
nonnull_least true e = cc
nonnull_least false e = refl

stops_cond : (b : Bool) (xs : List TokenKind) (next rest : List Token) →
    length rest + least b ≤ length next → next ≡ rest → begins (cond b xs []) rest ≡ false →
    begins xs next ≡ false
stops_cond true xs next rest l e s = subst (λ z. begins xs z ≡ false) (sym e) s
stops_cond false xs next rest l e s = let l' : length next ≡ length rest = ap length e in
    absurd (omega arith)

module _ {R : Type 0} {Tree : R → Type 0} (rules : (r : R) → Grammar R Tree (Tree r)) where
  abbrev pub ContentComplete : ℕ → ℕ → Type 0
  ContentComplete zero m = Unit {0}
  ContentComplete (suc n) zero = Unit {0}
  ContentComplete (suc n) (suc m) = (r : R) (x : Tree r) (ts rest : List Token) →
      Spells (inside rules m) (rules r) x ts rest → begins (goes_on (rules r)) rest ≡ false
      → Gets n m (read n (readers rules n) (rules r) ts) x rest

  -- what stops between two parts
  between : {A B : Type 0} (m : ℕ) (g : Grammar R Tree A) (h : Grammar R Tree B) (y : B)
      (next rest : List Token) → apart (first h) (goes_on g) ≡ true
      → Spells (inside rules m) h y next rest →
      begins (goes_on h ++ cond (nullable h) (goes_on g) []) rest ≡ false →
      begins (goes_on g) next ≡ false
  between m g h y next rest a s stop = go (spells_starts (inside rules m) (inside_shorter rules m) h
      y next rest s) (stops_both (goes_on h) (cond (nullable h) (goes_on g) []) rest stop)
    where
      go : StartsOrNothing (first h) next rest → (begins (goes_on h) rest ≡ false) ×
          (begins (cond (nullable h) (goes_on g) []) rest ≡ false) → begins (goes_on g) next ≡ false
      go (inr b) q = apart_stops (first h) (goes_on g) next a b
      go (inl e) q = stops_cond (nullable h) (goes_on g) next rest
          (spells_shorter (inside rules m) (inside_shorter rules m) h y next rest s) e q.1

  gets_closing : (n m : ℕ) (r : R) (c : TokenKind) (t : Token) (p : Outcome (Tree r)) (x : Tree r)
      (last rest : List Token) → Gets n m p x last → Passes c last rest
      → Gets {A = Token × Tree r} (suc n) (suc m)
      (p >>= λ y. expect c y.1 >>= λ q. Ok ((t, y.0), q.1)) (t, x) rest
  gets_closing n m r c t (Ok p) x last rest g (u, k) =
      gets_last (suc n) (suc m) (λ (y : Tree r) (u : Token). (t, y)) p.0 x g.0 (expect c p.1) u rest
      (gets_token (suc n) (suc m) c u p.1 rest (subst (λ z. Takes c u z rest) (sym g.1) k))
  gets_closing n m r c t (Err (NoSpelling at)) x last rest g k = absurd g
  gets_closing n m r c t (Err (TooDeep at)) x last rest g k = omega arith

  gets_no_room : {A : Type 0} (m : ℕ) (b : Bool) (ts : List Token) (k : (Token × ℕ) × List Token →
      Outcome A) (x : A) (rest : List Token) → b ≡ true
      → Gets zero (suc m) (cond b (Err (TooDeep ts)) (Err (NoSpelling ts)) >>= k) x rest
  gets_no_room m true ts k x rest e = omega arith
  gets_no_room m false ts k x rest e = cc

  gets_room : {A : Type 0} (left : Token × ℕ) (n m : ℕ) (b : Bool) (ts next : List Token)
      (k : (Token × ℕ) × List Token → Outcome A) (x : A) (rest : List Token) → b ≡ true
      → Gets n m (k (left, next)) x rest → Gets n m
      (cond b (Ok (left, next)) (Err (NoSpelling ts)) >>= k) x rest
  gets_room left n m true ts next k x rest e g = g
  gets_room left n m false ts next k x rest e g = cc

  pub gets_nested : (n m : ℕ) → ContentComplete n m → (o : TokenKind) (r : R) (c : TokenKind) →
      not (is_one_of c (goes_on (rules r))) ≡ true →
      (x : Tree r) (opened last rest : List Token) (t : Token)
      → kind_of t.lexeme ≡ o → inside rules m r x opened last → Passes c last rest →
      Gets n m (read n (readers rules n) (nested o r c) (t ∷ opened)) (t, x) rest
  gets_nested n zero cc' o r c d x opened last rest t k s t' = absurd s
  gets_nested zero (suc m) cc' o r c d x opened last rest t k s t' =
      gets_no_room m (begins (o ∷ []) (t ∷ opened)) (t ∷ opened)
      (λ p. readers rules zero r p.1 >>= λ x. expect c x.1 >>= λ q. Ok ((p.0.0, x.0), q.1))
      (t, x) rest (is_sees o t opened k)
  gets_nested (suc n) (suc m) cc' o r c d x opened last rest t k s t' =
      gets_room (t, n) (suc n) (suc m) (begins (o ∷ []) (t ∷ opened)) (t ∷ opened) opened
      (λ p. readers rules (suc n) r p.1 >>= λ x. expect c x.1 >>= λ q. Ok ((p.0.0, x.0), q.1))
      (t, x) rest (is_sees o t opened k)
      (gets_closing n m r c t (readers rules (suc n) r opened) x last rest
      (cc' r x opened last s (stops_one c (goes_on (rules r)) last rest t' d)) t')

  gets_repeat : {A : Type 0} (n m : ℕ) (g : Grammar R Tree A) (item : List Token → Outcome A) →
      not (nullable g) ≡ true → apart (first g) (goes_on g) ≡ true
      → ((x : A) (ts rest : List Token) → Spells (inside rules m) g x ts rest →
      begins (goes_on g) rest ≡ false → Gets n m (item ts) x rest)
      → (xs : List A) (turns : ℕ) (ts rest : List Token) → length ts ≤ turns →
      Each (Spells (inside rules m) g) xs ts rest
      → begins (first g) rest ≡ false → begins (goes_on g) rest ≡ false →
      Gets n m (repeat (first g) item turns ts) xs rest
  gets_repeat n m g item nn ap' ig [] zero ts rest l e s1 s2 = (refl, e)
  gets_repeat n m g item nn ap' ig [] (suc turns) ts rest l e s1 s2 =
      gets_false n m (begins (first g) ts) (item ts >>= λ p. repeat (first g) item turns p.1 >>=
      λ ps. Ok (p.0 ∷ ps.0, ps.1)) (Ok ([], ts)) [] rest
      (subst (λ z. begins (first g) z ≡ false) (sym e) s1) (refl, e)
  gets_repeat n m g item nn ap' ig (x ∷ xs) zero ts rest l (next, s, each) s1 s2 =
      let a = spells_shorter (inside rules m) (inside_shorter rules m) g x ts next s in
      let b = nonnull_least (nullable g) nn in absurd (omega arith)
  gets_repeat n m g item nn ap' ig (x ∷ xs) (suc turns) ts rest l (next, s, each) s1 s2 =
      let a = spells_shorter (inside rules m) (inside_shorter rules m) g x ts next s in
      let b = nonnull_least (nullable g) nn in
      gets_true n m (begins (first g) ts) (item ts >>= λ p. repeat (first g) item turns p.1 >>=
      λ ps. Ok (p.0 ∷ ps.0, ps.1)) (Ok ([], ts)) (x ∷ xs) rest
      (nonnull_starts (first g) (nullable g) ts next nn a
      (spells_starts (inside rules m) (inside_shorter rules m) g x ts next s))
      (gets_bind n m (λ y ys. y ∷ ys) (item ts) x next
      (ig x ts next s (stops (spells_starts (inside rules m) (inside_shorter rules m)
      (many g) xs next rest each)))
      (repeat (first g) item turns) xs rest (gets_repeat n m g item nn ap' ig xs turns next rest
      (omega arith) each s1 s2))
    where
      stops : StartsOrNothing (first g) next rest → begins (goes_on g) next ≡ false
      stops (inr b) = apart_stops (first g) (goes_on g) next ap' b
      stops (inl e) = subst (λ z. begins (goes_on g) z ≡ false) (sym e) s2

  -- what is asked of the items of a repetition by stages
  abbrev pub ItemDecides : {A : Type 0} → (Stage → Grammar R Tree A) → Stage → Bool
  ItemDecides item t = decides rules (item t) &&
      (not (nullable (item t)) && apart (at_stages (λ u. first (item u))) (goes_on (item t)))

  pub item_decides : {A : Type 0} (item : Stage → Grammar R Tree A) (t : Stage) →
      ItemDecides item t ≡ true
      → (decides rules (item t) ≡ true) × (not (nullable (item t)) ≡ true) ×
      (apart (at_stages (λ u. first (item u))) (goes_on (item t)) ≡ true)
  item_decides item t e =
      let p = and_parts (decides rules (item t))
      (not (nullable (item t)) && apart (at_stages (λ u. first (item u))) (goes_on (item t)))
      e in
      let q = and_parts (not (nullable (item t)))
      (apart (at_stages (λ u. first (item u))) (goes_on (item t))) p.1 in
      (p.0, q.0, q.1)

  -- from the stage on, a nonempty repetition begins at the stage's own items
  pub begins_stage : {A : Type 0} (m : ℕ) (item : Stage → Grammar R Tree A) (t : Stage) →
      not (nullable (item t)) ≡ true → (x : A) (ts next : List Token)
      → Spells (inside rules m) (item t) x ts next → begins (first (item t)) ts ≡ true
  begins_stage m item t nn x ts next s = nonnull_starts (first (item t)) (nullable (item t)) ts next
      nn (spells_shorter (inside rules m) (inside_shorter rules m) (item t) x ts next s)
      (spells_starts (inside rules m) (inside_shorter rules m) (item t) x ts next s)

  -- what stops an item before the next one, or before the end
  pub begins_or_ends : {A : Type 0} (m : ℕ) (item : Stage → Grammar R Tree A)
      (f : Stage → A → Stage) → ((t : Stage) → ItemDecides item t ≡ true) →
      (t : Stage) (xs : List A) (ts rest : List Token)
      → EachFrom (λ u. Spells (inside rules m) (item u)) f t xs ts rest →
      StartsOrNothing (at_stages (λ u. first (item u))) ts rest
  begins_or_ends m item f d t [] ts rest e = inl e
  begins_or_ends m item f d t (x ∷ xs) ts rest (next, s, each) =
      inr (some_stage (λ u. first (item u)) t ts
      (begins_stage m item t (item_decides item t (d t)).1 x ts next s))

  gets_repeat_from : {A : Type 0} (n m : ℕ) (item : Stage → Grammar R Tree A) (f : Stage → A →
      Stage) (one : Stage → List Token → Outcome A) → ((t : Stage) → ItemDecides item t ≡ true)
      → ((t : Stage) (x : A) (ts rest : List Token) → Spells (inside rules m) (item t) x ts rest →
      begins (goes_on (item t)) rest ≡ false → Gets n m (one t ts) x rest)
      → (xs : List A) (turns : ℕ) (stage : Stage) (ts rest : List Token) → length ts ≤ turns →
      EachFrom (λ t. Spells (inside rules m) (item t)) f stage xs ts rest
      → ((t : Stage) → begins (first (item t)) rest ≡ false) →
      ((t : Stage) → begins (goes_on (item t)) rest ≡ false) →
      Gets n m (repeat_from (λ t. first (item t)) one f turns stage ts) xs rest
  gets_repeat_from n m item f one d ig [] zero stage ts rest l e s1 s2 = (refl, e)
  gets_repeat_from n m item f one d ig [] (suc turns) stage ts rest l e s1 s2 =
      gets_false n m (begins (first (item stage)) ts)
      (one stage ts >>= λ p. repeat_from (λ t. first (item t)) one f turns (f stage p.0) p.1 >>=
      λ ps. Ok (p.0 ∷ ps.0, ps.1)) (Ok ([], ts)) [] rest
      (subst (λ z. begins (first (item stage)) z ≡ false) (sym e) (s1 stage)) (refl, e)
  gets_repeat_from n m item f one d ig (x ∷ xs) zero stage ts rest l (next, s, each) s1 s2 =
      let a = spells_shorter (inside rules m) (inside_shorter rules m) (item stage) x ts next s in
      let b = nonnull_least (nullable (item stage)) (item_decides item stage (d stage)).1 in
      absurd (omega arith)
  gets_repeat_from n m item f one d ig (x ∷ xs) (suc turns) stage ts rest l (next, s, each) s1 s2 =
      let a = spells_shorter (inside rules m) (inside_shorter rules m) (item stage) x ts next s in
      let b = nonnull_least (nullable (item stage)) (item_decides item stage (d stage)).1 in
      gets_true n m (begins (first (item stage)) ts)
      (one stage ts >>= λ p. repeat_from (λ t. first (item t)) one f turns (f stage p.0) p.1 >>=
      λ ps. Ok (p.0 ∷ ps.0, ps.1)) (Ok ([], ts)) (x ∷ xs) rest
      (begins_stage m item stage (item_decides item stage (d stage)).1 x ts next s)
      (gets_from n m f stage (one stage ts) x next
      (ig stage x ts next s (stops (begins_or_ends m item f d (f stage x) xs next rest each)))
      (repeat_from (λ t. first (item t)) one f turns) xs rest
      (gets_repeat_from n m item f one d ig xs turns (f stage x) next rest (omega arith) each s1
      s2))
    where
      stops : StartsOrNothing (at_stages (λ u. first (item u))) next rest →
          begins (goes_on (item stage)) next ≡ false
      stops (inr b) = apart_stops (at_stages (λ u. first (item u))) (goes_on (item stage)) next
          (item_decides item stage (d stage)).2 b
      stops (inl e) = subst (λ z. begins (goes_on (item stage)) z ≡ false) (sym e) (s2 stage)

  pub complete_in : {A : Type 0} (n m : ℕ) → ContentComplete n m → (g : Grammar R Tree A) →
      decides rules g ≡ true → (x : A) (ts rest : List Token)
      → Spells (inside rules m) g x ts rest → begins (goes_on g) rest ≡ false →
      Gets n m (read n (readers rules n) g ts) x rest
  complete_in n m c (token kind) d x ts rest s stop = gets_token n m kind x ts rest s
  complete_in n m c (nested o r cl) d x ts rest (opened, last, (k, e), s, t') stop =
      subst (λ z. Gets n m (read n (readers rules n) (nested o r cl) z) x rest) (sym e)
      (gets_nested n m c o r cl d x.1 opened last rest x.0 k s t')
  complete_in n m c (both g h) d x ts rest (next, s, s') stop =
      let p = and_parts (decides rules g) (decides rules h && apart (first h) (goes_on g)) d in
      let q = and_parts (decides rules h) (apart (first h) (goes_on g)) p.1 in
      gets_bind n m (λ y z. (y, z)) (read n (readers rules n) g ts) x.0 next
      (complete_in n m c g p.0 x.0 ts next s (between m g h x.1 next rest q.1 s' stop))
      (read n (readers rules n) h) x.1 rest (complete_in n m c h q.0 x.1 next rest s'
      (stops_both (goes_on h) (cond (nullable h) (goes_on g) []) rest stop).0)
  complete_in n m c (either g h) d x ts rest (inl s) stop =
      let p = and_parts (decides rules g) (decides rules h &&
      (apart (first h) (first g) && (not (nullable g) && not (nullable h)))) d in
      let q = and_parts (decides rules h) (apart (first h) (first g) &&
      (not (nullable g) && not (nullable h))) p.1 in
      let q' = and_parts (apart (first h) (first g)) (not (nullable g) && not (nullable h)) q.1 in
      let q'' = and_parts (not (nullable g)) (not (nullable h)) q'.1 in
      gets_true n m (begins (first g) ts) (read n (readers rules n) g ts)
      (read n (readers rules n) h ts) x rest
      (nonnull_starts (first g) (nullable g) ts rest q''.0
      (spells_shorter (inside rules m) (inside_shorter rules m) g x ts rest s)
      (spells_starts (inside rules m) (inside_shorter rules m) g x ts rest s))
      (complete_in n m c g p.0 x ts rest s (stops_both (goes_on g) (goes_on h) rest stop).0)
  complete_in n m c (either g h) d x ts rest (inr s) stop =
      let p = and_parts (decides rules g) (decides rules h &&
      (apart (first h) (first g) && (not (nullable g) && not (nullable h)))) d in
      let q = and_parts (decides rules h) (apart (first h) (first g) &&
      (not (nullable g) && not (nullable h))) p.1 in
      let q' = and_parts (apart (first h) (first g)) (not (nullable g) && not (nullable h)) q.1 in
      let q'' = and_parts (not (nullable g)) (not (nullable h)) q'.1 in
      gets_false n m (begins (first g) ts) (read n (readers rules n) g ts)
      (read n (readers rules n) h ts) x rest
      (apart_stops (first h) (first g) ts q'.0
      (nonnull_starts (first h) (nullable h) ts rest q''.1
      (spells_shorter (inside rules m) (inside_shorter rules m) h x ts rest s)
      (spells_starts (inside rules m) (inside_shorter rules m) h x ts rest s)))
      (complete_in n m c h q.0 x ts rest s (stops_both (goes_on g) (goes_on h) rest stop).1)
  complete_in n m c (optional g) d None ts rest s stop =
      gets_false n m (begins (first g) ts) (read n (readers rules n) g ts >>= λ p.
      Ok (Some p.0, p.1)) (Ok (None, ts)) None rest
      (subst (λ z. begins (first g) z ≡ false) (sym s)
      (stops_both (first g) (goes_on g) rest stop).0) (refl, s)
  complete_in n m c (optional g) d (Some x) ts rest s stop =
      let p = and_parts (decides rules g) (not (nullable g)) d in
      gets_true n m (begins (first g) ts) (read n (readers rules n) g ts >>= λ p.
      Ok (Some p.0, p.1)) (Ok (None, ts)) (Some x) rest
      (nonnull_starts (first g) (nullable g) ts rest p.1
      (spells_shorter (inside rules m) (inside_shorter rules m) g x ts rest s)
      (spells_starts (inside rules m) (inside_shorter rules m) g x ts rest s))
      (gets_map n m Some (read n (readers rules n) g ts) x rest
      (complete_in n m c g p.0 x ts rest s (stops_both (first g) (goes_on g) rest stop).1))
  complete_in n m c (many g) d xs ts rest s stop =
      let p = and_parts (decides rules g) (not (nullable g) && apart (first g) (goes_on g)) d in
      let q = and_parts (not (nullable g)) (apart (first g) (goes_on g)) p.1 in
      let st = stops_both (first g) (goes_on g) rest stop in
      gets_repeat n m g (read n (readers rules n) g) q.0 q.1 (complete_in n m c g p.0) xs
      (length ts) ts rest (omega arith) s st.0 st.1
  complete_in n m c (staged item f stage) d xs ts rest s stop =
      let dt = each_stage (ItemDecides item) d in
      let st = stops_both (at_stages (λ t. first (item t))) (at_stages (λ t. goes_on (item t))) rest
      stop in
      gets_repeat_from n m item f (λ t. read n (readers rules n) (item t)) dt
      (λ t. complete_in n m c (item t) (item_decides item t (dt t)).0) xs (length ts) stage ts
      rest (omega arith) s
      (each_stage_stops (λ t. first (item t)) rest st.0)
      (each_stage_stops (λ t. goes_on (item t)) rest st.1)
  complete_in n m c (map_to f g) d y ts rest (x, e, s) stop =
      subst (λ z. Gets n m (read n (readers rules n) (map_to f g) ts) z rest) (sym e)
      (gets_map n m f (read n (readers rules n) g ts) x rest
      (complete_in n m c g d x ts rest s stop))

  pub content_complete : ((r : R) → decides rules (rules r) ≡ true) → (n m : ℕ) →
      ContentComplete n m
  content_complete all zero m = tt
  content_complete all (suc n) zero = tt
  content_complete all (suc n) (suc m) = λ r x ts rest s stop. complete_in n m
      (content_complete all n m) (rules r) (all r) x ts rest s stop
