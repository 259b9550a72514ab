-- A whole spelling that nothing goes beyond is read.
use Rattle.std.proofs.Common.{◌≡◌, ℕ, zero, suc, ◌≤◌, Bool, true, false, not, ◌&&◌, cond, List, []}
use Rattle.std.proofs.Common.{◌∷◌, ◌++◌, length, Some, None, Ok, refl, ap, sym, ◌∙◌, subst, inl}
use Rattle.std.proofs.Common.{inr, ◌⊎◌, arith}
use Rattle.std.proofs.lemmas.Bool.{and_parts, or_cases, not-true}
use Rattle.sql_lex.specs.declared.token.TokenKind.{TokenKind}
use Rattle.sql_lex.specs.declared.token.Token.{Token}
use Rattle.grammar_algebra.specs.declared.stage.Stage.{Stage}
use Rattle.grammar_algebra.specs.Grammar.{Grammar, token, nested, both, either, optional, many}
use Rattle.grammar_algebra.specs.Grammar.{staged, map_to, Inner, Begun, Each, EachFrom, Spells, Cut}
use Rattle.grammar_algebra.specs.Grammar.{inside, begun}
use Rattle.grammar_algebra.specs.Reading.{first, nullable, goes_on, apart, decides, begins, repeat}
use Rattle.grammar_algebra.specs.Reading.{repeat_from, at_stages, read, readers, ◌>>=◌}
use Rattle.grammar_algebra.specs.Exact.{Gets}
use Rattle.grammar_algebra.proofs.Ahead.{sees_is, begins-append, apart_stops, each_stage, not_both}
use Rattle.grammar_algebra.proofs.Shapes.{nothing_begins, inside_grows, spells_grows}
use Rattle.grammar_algebra.proofs.Shapes.{spells_shorter, inside_shorter, spells_starts}
use Rattle.grammar_algebra.proofs.Shapes.{StartsOrNothing}
use Rattle.grammar_algebra.proofs.Complete.{ContentComplete, complete_in, gets_true, gets_false}
use Rattle.grammar_algebra.proofs.Complete.{gets_map, gets_bind, gets_from, gets_nested, gets_token}
use Rattle.grammar_algebra.proofs.Complete.{nonnull_starts, nonnull_least, ItemDecides}
use Rattle.grammar_algebra.proofs.Complete.{item_decides, begins_stage, begins_or_ends}

empties : {R : Type 0} {Tree : R → Type 0} {A : Type 0} (inner : Inner R Tree)
    (g : Grammar R Tree A) → nullable g ≡ true → (ts : List Token) → (x : A) ×
    Spells inner g x ts ts
empties inner (token kind) e ts = cc
empties inner (nested o r c) e ts = cc
empties inner (both g h) e ts =
    let p = and_parts (nullable g) (nullable h) e in let a = empties inner g p.0 ts in
    let b = empties inner h p.1 ts in ((a.0, b.0), (ts, a.1, b.1))
empties inner (either g h) e ts = go (or_cases (nullable g) (nullable h) e) (empties inner g)
    (empties inner h)
  where
    go : (nullable g ≡ true) ⊎ (nullable h ≡ true) →
        (nullable g ≡ true → (ts : List Token) → (x : _) × Spells inner g x ts ts) →
        (nullable h ≡ true → (ts : List Token) → (x : _) × Spells inner h x ts ts)
        → (x : _) × (Spells inner g x ts ts ⊎ Spells inner h x ts ts)
    go (inl a) p q = let w = p a ts in (w.0, inl w.1)
    go (inr a) p q = let w = q a ts in (w.0, inr w.1)
empties inner (optional g) e ts = (None, refl)
empties inner (many g) e ts = ([], refl)
empties inner (staged item f stage) e ts = ([], refl)
empties inner (map_to f g) e ts = let a = empties inner g e ts in (f a.0, (a.0, refl, a.1))

cond_begins : (b : Bool) (ks : List TokenKind) (ts : List Token) → begins (cond b ks []) ts ≡ true →
    (b ≡ true) × (begins ks ts ≡ true)
cond_begins true ks ts e = (refl, e)
cond_begins false ks [] e = cc
cond_begins false ks (t ∷ ts) e = cc

append_begins : (xs ys : List TokenKind) (ts : List Token) → begins (xs ++ ys) ts ≡ true →
    (begins xs ts ≡ true) ⊎ (begins ys ts ≡ true)
append_begins xs ys ts e = or_cases (begins xs ts) (begins ys ts) (sym (begins-append xs ys ts) ∙ e)

first_begins : {R : Type 0} {Tree : R → Type 0} {A : Type 0}
    (rules : (r : R) → Grammar R Tree (Tree r)) (inner : Inner R Tree) (beg : Begun R) →
    ((r : R) (ts : List Token) → beg r ts ts)
    → (g : Grammar R Tree A) → decides rules g ≡ true → (t : Token) (rest : List Token) →
    begins (first g) (t ∷ rest) ≡ true → Cut inner beg g (t ∷ rest) rest
first_begins rules inner beg can (token kind) d t rest b = inr (t, (sees_is kind t rest b, refl))
first_begins rules inner beg can (nested o r c) d t rest b =
    inr (rest, (t, (sees_is o t rest b, refl)), inl (can r rest))
first_begins rules inner beg can (both g h) d t rest b =
    let p = and_parts (decides rules g) (decides rules h && apart (first h) (goes_on g)) d in
    let q = and_parts (decides rules h) (apart (first h) (goes_on g)) p.1 in
    go (append_begins (first g) (cond (nullable g) (first h) []) (t ∷ rest) b)
    (first_begins rules inner beg can g p.0 t rest)
    (first_begins rules inner beg can h q.0 t rest)
  where
    go : (begins (first g) (t ∷ rest) ≡ true) ⊎
        (begins (cond (nullable g) (first h) []) (t ∷ rest) ≡ true) →
        (begins (first g) (t ∷ rest) ≡ true → Cut inner beg g (t ∷ rest) rest)
        → (begins (first h) (t ∷ rest) ≡ true → Cut inner beg h (t ∷ rest) rest) →
        Cut inner beg (both g h) (t ∷ rest) rest
    go (inl a) p q = inl (p a)
    go (inr a) p q = let w = cond_begins (nullable g) (first h) (t ∷ rest) a in
        let v = empties inner g w.0 (t ∷ rest) in inr (v.0, t ∷ rest, v.1, q w.1)
first_begins rules inner beg can (either g h) d t rest b =
    let p = and_parts (decides rules g) (decides rules h &&
    (apart (first h) (first g) && (not (nullable g) && not (nullable h)))) d in
    let q = and_parts (decides rules h) (apart (first h) (first g) &&
    (not (nullable g) && not (nullable h))) p.1 in
    go (append_begins (first g) (first h) (t ∷ rest) b)
    (first_begins rules inner beg can g p.0 t rest)
    (first_begins rules inner beg can h q.0 t rest)
  where
    go : (begins (first g) (t ∷ rest) ≡ true) ⊎ (begins (first h) (t ∷ rest) ≡ true) →
        (begins (first g) (t ∷ rest) ≡ true → Cut inner beg g (t ∷ rest) rest)
        → (begins (first h) (t ∷ rest) ≡ true → Cut inner beg h (t ∷ rest) rest) →
        Cut inner beg (either g h) (t ∷ rest) rest
    go (inl a) p q = inl (p a)
    go (inr a) p q = inr (q a)
first_begins rules inner beg can (optional g) d t rest b =
    inr (first_begins rules inner beg can g (and_parts (decides rules g) (not (nullable g)) d).0 t
    rest b)
first_begins rules inner beg can (many g) d t rest b = (
  [],
  t ∷ rest,
  refl,
  inr (first_begins rules inner beg can g
      (and_parts (decides rules g) (not (nullable g) && apart (first g) (goes_on g)) d).0 t rest b),
)
first_begins rules inner beg can (staged item f stage) d t rest b =
    let di = item_decides rules item stage (each_stage (ItemDecides rules item) d stage) in
    go (append_begins (first (item stage)) (cond (nullable (item stage))
    (at_stages (λ u. first (item u))) []) (t ∷ rest) b) di.1
    (first_begins rules inner beg can (item stage) di.0 t rest)
  where
    go : (begins (first (item stage)) (t ∷ rest) ≡ true) ⊎
        (begins (cond (nullable (item stage)) (at_stages (λ u. first (item u))) []) (t ∷ rest) ≡
        true) → not (nullable (item stage)) ≡ true
        → (begins (first (item stage)) (t ∷ rest) ≡ true →
        Cut inner beg (item stage) (t ∷ rest) rest) →
        Cut inner beg (staged item f stage) (t ∷ rest) rest
    go (inl a) nn p = ([], t ∷ rest, refl, inr (p a))
    go (inr a) nn p = absurd (not_both (nullable (item stage))
        (cond_begins (nullable (item stage)) (at_stages (λ u. first (item u))) (t ∷ rest) a).0
        (not-true (nullable (item stage)) nn))
first_begins rules inner beg can (map_to f g) d t rest b =
    first_begins rules inner beg can g d t rest b

module _ {R : Type 0} {Tree : R → Type 0} (rules : (r : R) → Grammar R Tree (Tree r)) where
  opens_room : (m : ℕ) (r : R) (ts : List Token) → begun rules (suc m) r ts ts
  opens_room m r ts = nothing_begins (inside rules m) (begun rules m) (rules r) ts

  -- nothing that is begun goes beyond the rest, with room for one construct more
  abbrev pub Far : {A : Type 0} → ℕ → Grammar R Tree A → List Token → List Token → Type 0
  Far m g ts rest = (end : List Token) → Cut (inside rules (suc m)) (begun rules (suc m)) g ts end →
      length rest ≤ length end

  stops_far : {A : Type 0} (m : ℕ) (g : Grammar R Tree A) → decides rules g ≡ true →
      (ts rest : List Token) → ts ≡ rest → Far m g ts rest → begins (first g) ts ≡ false
  stops_far m g d [] rest e far = refl
  stops_far m g d (t ∷ ts) rest e far = go (begins (first g) (t ∷ ts)) refl
    where
      go : (b : Bool) → begins (first g) (t ∷ ts) ≡ b → b ≡ false
      go false q = refl
      go true q =
          let a : length rest ≤ length ts = far ts
          (first_begins rules (inside rules (suc m)) (begun rules (suc m)) (opens_room m) g d
          t ts q) in
          let l : suc (length ts) ≡ length rest = ap length e in absurd (omega arith)

  more_room : {A : Type 0} (m : ℕ) (g : Grammar R Tree A) (x : A) (ts rest : List Token) →
      Spells (inside rules m) g x ts rest → Spells (inside rules (suc m)) g x ts rest
  more_room m g x ts rest s = spells_grows (inside rules m) (inside rules (suc m))
      (inside_grows rules m) g x ts rest s

  far_repeat : {A : Type 0} (n m : ℕ) (c : ContentComplete rules n m) (g : Grammar R Tree A) →
      decides rules g ≡ true → not (nullable g) ≡ true → apart (first g) (goes_on g) ≡ true
      → ((x : A) (ts rest : List Token) → Spells (inside rules m) g x ts rest → Far m g ts rest →
      Gets n m (read n (readers rules n) g ts) x rest)
      → (xs : List A) (turns : ℕ) (ts rest : List Token) → length ts ≤ turns →
      Each (Spells (inside rules m) g) xs ts rest → Far m (many g) ts rest
      → Gets n m (repeat (first g) (read n (readers rules n) g) turns ts) xs rest
  far_repeat n m c g d nn ap' ig [] zero ts rest l e far = (refl, e)
  far_repeat n m c g d nn ap' ig [] (suc turns) ts rest l e far =
      gets_false n m (begins (first g) ts) (read n (readers rules n) g ts >>= λ p. repeat (first g)
      (read n (readers rules n) g) turns p.1 >>= λ ps. Ok (p.0 ∷ ps.0, ps.1))
      (Ok ([], ts)) [] rest
      (stops_far m g d ts rest e (λ end cut. far end ([], ts, refl, inr cut))) (refl, e)
  far_repeat n m c g d nn ap' ig (x ∷ xs) zero ts rest l (next, s, each) far =
      let a = spells_shorter (inside rules m) (inside_shorter rules m) g x ts next s in
      let b = nonnull_least (nullable g) nn in absurd (omega arith)
  far_repeat n m c g d nn ap' ig (x ∷ xs) (suc turns) ts rest l (next, s, each) far =
      let a = spells_shorter (inside rules m) (inside_shorter rules m) g x ts next s in
      let b = nonnull_least (nullable g) nn in
      gets_true n m (begins (first g) ts) (read n (readers rules n) g ts >>= λ p. repeat (first g)
      (read n (readers rules n) g) turns p.1 >>= λ ps. Ok (p.0 ∷ ps.0, ps.1)) (Ok ([], ts))
      (x ∷ xs) rest
      (nonnull_starts (first g) (nullable g) ts next nn a
      (spells_starts (inside rules m) (inside_shorter rules m) g x ts next s))
      (gets_bind n m (λ y ys. y ∷ ys) (read n (readers rules n) g ts) x next
      (one (spells_starts (inside rules m) (inside_shorter rules m) (many g) xs next rest each))
      (repeat (first g) (read n (readers rules n) g) turns) xs rest
      (far_repeat n m c g d nn ap' ig xs turns next rest (omega arith) each
      (λ end cut. far end (x ∷ cut.0, cut.1, (next, more_room m g x ts next s, cut.2), cut.3))))
    where
      one : StartsOrNothing (first g) next rest → Gets n m (read n (readers rules n) g ts) x next
      one (inr b) = complete_in rules n m c g d x ts next s
          (apart_stops (first g) (goes_on g) next ap' b)
      one (inl e) = ig x ts next s (λ end cut. subst (λ z. length z ≤ length end) (sym e)
          (far end ([], ts, refl, inr cut)))

  -- the same, by stages
  far_repeat_from : {A : Type 0} (n m : ℕ) (c : ContentComplete rules n m) (item : Stage →
      Grammar R Tree A) (f : Stage → A → Stage) → ((t : Stage) → ItemDecides rules item t ≡ true)
      → ((t : Stage) (x : A) (ts rest : List Token) → Spells (inside rules m) (item t) x ts rest →
      Far m (item t) ts rest → Gets n m (read n (readers rules n) (item t) ts) x rest)
      → (xs : List A) (turns : ℕ) (stage : Stage) (ts rest : List Token) → length ts ≤ turns →
      EachFrom (λ t. Spells (inside rules m) (item t)) f stage xs ts rest →
      Far m (staged item f stage) ts rest
      → Gets n m (repeat_from (λ t. first (item t)) (λ t. read n (readers rules n) (item t)) f turns
      stage ts) xs rest
  far_repeat_from n m c item f d ig [] zero stage ts rest l e far = (refl, e)
  far_repeat_from n m c item f d ig [] (suc turns) stage ts rest l e far =
      gets_false n m (begins (first (item stage)) ts)
      (read n (readers rules n) (item stage) ts >>= λ p. repeat_from (λ t. first (item t))
      (λ t. read n (readers rules n) (item t)) f turns (f stage p.0) p.1 >>= λ ps.
      Ok (p.0 ∷ ps.0, ps.1)) (Ok ([], ts)) [] rest
      (stops_far m (item stage) (item_decides rules item stage (d stage)).0 ts rest e
      (λ end cut. far end ([], ts, refl, inr cut))) (refl, e)
  far_repeat_from n m c item f d ig (x ∷ xs) zero stage ts rest l (next, s, each) far =
      let a = spells_shorter (inside rules m) (inside_shorter rules m) (item stage) x ts next s in
      let b = nonnull_least (nullable (item stage)) (item_decides rules item stage (d stage)).1 in
      absurd (omega arith)
  far_repeat_from n m c item f d ig (x ∷ xs) (suc turns) stage ts rest l (next, s, each) far =
      let a = spells_shorter (inside rules m) (inside_shorter rules m) (item stage) x ts next s in
      let b = nonnull_least (nullable (item stage)) (item_decides rules item stage (d stage)).1 in
      gets_true n m (begins (first (item stage)) ts)
      (read n (readers rules n) (item stage) ts >>= λ p. repeat_from (λ t. first (item t))
      (λ t. read n (readers rules n) (item t)) f turns (f stage p.0) p.1 >>= λ ps.
      Ok (p.0 ∷ ps.0, ps.1)) (Ok ([], ts)) (x ∷ xs) rest
      (begins_stage rules m item stage (item_decides rules item stage (d stage)).1 x ts next s)
      (gets_from n m f stage (read n (readers rules n) (item stage) ts) x next
      (one (begins_or_ends rules m item f d (f stage x) xs next rest each))
      (repeat_from (λ t. first (item t)) (λ t. read n (readers rules n) (item t)) f turns) xs rest
      (far_repeat_from n m c item f d ig xs turns (f stage x) next rest (omega arith) each
      (λ end cut. far end (
        x ∷ cut.0,
        cut.1,
        (next, more_room m (item stage) x ts next s, cut.2),
        cut.3,
      ))))
    where
      one : StartsOrNothing (at_stages (λ u. first (item u))) next rest →
          Gets n m (read n (readers rules n) (item stage) ts) x next
      one (inr b) = complete_in rules n m c (item stage) (item_decides rules item stage (d stage)).0
          x ts next s
          (apart_stops (at_stages (λ u. first (item u))) (goes_on (item stage)) next
          (item_decides rules item stage (d stage)).2 b)
      one (inl e) = ig stage x ts next s (λ end cut. subst (λ z. length z ≤ length end) (sym e)
          (far end ([], ts, refl, inr cut)))

  pub complete_far : {A : Type 0} (n m : ℕ) → ContentComplete rules n m → (g : Grammar R Tree A) →
      decides rules g ≡ true → (x : A) (ts rest : List Token)
      → Spells (inside rules m) g x ts rest → Far m g ts rest →
      Gets n m (read n (readers rules n) g ts) x rest
  complete_far n m c (token kind) d x ts rest s far = gets_token n m kind x ts rest s
  complete_far n m c (nested o r cl) d x ts rest (opened, last, (k, e), s, t') far =
      subst (λ z. Gets n m (read n (readers rules n) (nested o r cl) z) x rest) (sym e)
      (gets_nested rules n m c o r cl d x.1 opened last rest x.0 k s t')
  complete_far n m c (both g h) d x ts rest (next, s, s') far =
      let p = and_parts (decides rules g) (decides rules h && apart (first h) (goes_on g)) d in
      let q = and_parts (decides rules h) (apart (first h) (goes_on g)) p.1 in
      gets_bind n m (λ y z. (y, z)) (read n (readers rules n) g ts) x.0 next
      (one p.0 q.1 (complete_far n m c g p.0 x.0 ts next s)
      (spells_starts (inside rules m) (inside_shorter rules m) h x.1 next rest s'))
      (read n (readers rules n) h) x.1 rest (complete_far n m c h q.0 x.1 next rest s'
      (λ end cut. far end (inr (x.0, next, more_room m g x.0 ts next s, cut))))
    where
      one : decides rules g ≡ true → apart (first h) (goes_on g) ≡ true →
          (Far m g ts next → Gets n m (read n (readers rules n) g ts) x.0 next)
          → StartsOrNothing (first h) next rest → Gets n m (read n (readers rules n) g ts) x.0 next
      one dg a ih (inr b) = complete_in rules n m c g dg x.0 ts next s
          (apart_stops (first h) (goes_on g) next a b)
      one dg a ih (inl e) = ih (λ end cut. subst (λ z. length z ≤ length end) (sym e)
          (far end (inl cut)))
  complete_far n m c (either g h) d x ts rest (inl s) far =
      let p = and_parts (decides rules g) (decides rules h &&
      (apart (first h) (first g) && (not (nullable g) && not (nullable h)))) d in
      let q = and_parts (decides rules h) (apart (first h) (first g) &&
      (not (nullable g) && not (nullable h))) p.1 in
      let q' = and_parts (apart (first h) (first g)) (not (nullable g) && not (nullable h)) q.1 in
      let q'' = and_parts (not (nullable g)) (not (nullable h)) q'.1 in
      gets_true n m (begins (first g) ts) (read n (readers rules n) g ts)
      (read n (readers rules n) h ts) x rest
      (nonnull_starts (first g) (nullable g) ts rest q''.0
      (spells_shorter (inside rules m) (inside_shorter rules m) g x ts rest s)
      (spells_starts (inside rules m) (inside_shorter rules m) g x ts rest s))
      (complete_far n m c g p.0 x ts rest s (λ end cut. far end (inl cut)))
  complete_far n m c (either g h) d x ts rest (inr s) far =
      let p = and_parts (decides rules g) (decides rules h &&
      (apart (first h) (first g) && (not (nullable g) && not (nullable h)))) d in
      let q = and_parts (decides rules h) (apart (first h) (first g) &&
      (not (nullable g) && not (nullable h))) p.1 in
      let q' = and_parts (apart (first h) (first g)) (not (nullable g) && not (nullable h)) q.1 in
      let q'' = and_parts (not (nullable g)) (not (nullable h)) q'.1 in
      gets_false n m (begins (first g) ts) (read n (readers rules n) g ts)
      (read n (readers rules n) h ts) x rest
      (apart_stops (first h) (first g) ts q'.0
      (nonnull_starts (first h) (nullable h) ts rest q''.1
      (spells_shorter (inside rules m) (inside_shorter rules m) h x ts rest s)
      (spells_starts (inside rules m) (inside_shorter rules m) h x ts rest s)))
      (complete_far n m c h q.0 x ts rest s (λ end cut. far end (inr cut)))
  complete_far n m c (optional g) d None ts rest s far =
      gets_false n m (begins (first g) ts) (read n (readers rules n) g ts >>= λ p.
      Ok (Some p.0, p.1)) (Ok (None, ts)) None rest
      (stops_far m g (and_parts (decides rules g) (not (nullable g)) d).0 ts rest s
      (λ end cut. far end (inr cut))) (refl, s)
  complete_far n m c (optional g) d (Some x) ts rest s far =
      let p = and_parts (decides rules g) (not (nullable g)) d in
      gets_true n m (begins (first g) ts) (read n (readers rules n) g ts >>= λ p.
      Ok (Some p.0, p.1)) (Ok (None, ts)) (Some x) rest
      (nonnull_starts (first g) (nullable g) ts rest p.1
      (spells_shorter (inside rules m) (inside_shorter rules m) g x ts rest s)
      (spells_starts (inside rules m) (inside_shorter rules m) g x ts rest s))
      (gets_map n m Some (read n (readers rules n) g ts) x rest
      (complete_far n m c g p.0 x ts rest s (λ end cut. far end (inr cut))))
  complete_far n m c (many g) d xs ts rest s far =
      let p = and_parts (decides rules g) (not (nullable g) && apart (first g) (goes_on g)) d in
      let q = and_parts (not (nullable g)) (apart (first g) (goes_on g)) p.1 in
      far_repeat n m c g p.0 q.0 q.1 (complete_far n m c g p.0) xs (length ts) ts rest
      (omega arith) s far
  complete_far n m c (staged item f stage) d xs ts rest s far =
      let dt = each_stage (ItemDecides rules item) d in
      far_repeat_from n m c item f dt (λ t. complete_far n m c (item t)
      (item_decides rules item t (dt t)).0) xs (length ts) stage ts rest (omega arith) s far
  complete_far n m c (map_to f g) d y ts rest (x, e, s) far =
      subst (λ z. Gets n m (read n (readers rules n) (map_to f g) ts) z rest) (sym e)
      (gets_map n m f (read n (readers rules n) g ts) x rest
      (complete_far n m c g d x ts rest s far))
