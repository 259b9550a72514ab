-- A whole spelling leaves the open constructs as they were, has at no place more open than its room
-- allows, and is spelled with any room that is as large as its places ask.
use Rattle.std.proofs.Common.{◌≡◌, ℕ, zero, suc, ◌+◌, ◌≤◌, Bool, true, false, not, ◌&&◌, List, []}
use Rattle.std.proofs.Common.{◌∷◌, length, Some, None, refl, ap, sym, ◌∙◌, subst, inl, inr, ◌⊎◌}
use Rattle.std.proofs.Common.{arith}
use Rattle.std.proofs.lemmas.Bool.{and_parts, not-true, or_left, or_right}
use Rattle.sql_lex.specs.declared.token.TokenKind.{TokenKind}
use Rattle.sql_lex.specs.declared.token.Token.{Token}
use Rattle.grammar_algebra.specs.declared.stage.Stage.{Stage}
use Rattle.grammar_algebra.specs.declared.stage.Stage.TheVariants.{First, Second, Third}
use Rattle.grammar_algebra.specs.Grammar.{Grammar, token, nested, both, either, optional, many}
use Rattle.grammar_algebra.specs.Grammar.{staged, map_to, Passes, Each, EachFrom, Spells, inside}
use Rattle.grammar_algebra.specs.Reading.{nullable, at_each_stage}
use Rattle.grammar_algebra.proofs.Laws.{each_stage}
use Rattle.grammar_sql.specs.Constructs.{Before, End, Leading, Other, before_of, is_left_paren}
use Rattle.grammar_sql.specs.Constructs.{in_brackets, closing, open_after, Befores, has, none, any}
use Rattle.grammar_sql.specs.Constructs.{only, meet, join, if_so, subset, opening_befores}
use Rattle.grammar_sql.specs.Constructs.{other_befores, stands, ends, told, same_truth, is_other}
use Rattle.grammar_sql.specs.Constructs.{always_closes}
use Rattle.grammar_sql.proofs.Steps.{At, Few, has_meet, has_left, has_right, has_some, has_subset}
use Rattle.grammar_sql.proofs.Steps.{has_only, has_if_so, if_so_has, has_opening, has_other}
use Rattle.grammar_sql.proofs.Steps.{closes_everywhere, closes_one, is_other_so, same_truth_so}
use Rattle.grammar_sql.proofs.Steps.{passed, after_opening, after_plain, after_closing, few_one}
use Rattle.grammar_sql.proofs.Steps.{few_join, few_next, few_part}

-- what stands before what follows: of these, or, where nothing need be spelled, what stood before
abbrev pub After : Befores → Bool → Before → Before → Type 0
After e nul c d = (has d e ≡ true) ⊎ ((d ≡ c) × (nul ≡ true))

module _ (tokens : List Token) (i : ℕ) where
  -- from the tokens to the rest, where this may stand before, with room N; S says of a room that it
  -- is enough
  abbrev pub Kept : Bool → List Token → List Token → Befores → (Before → Before → Type 0) → ℕ →
      (ℕ → Type 0) → Type 0
  Kept b ts rest fit after N S =
      (m : ℕ) (opened : List ℕ) (c : Before) → At tokens i ts m opened c →
      in_brackets tokens opened ≡ b → has c fit ≡ true
      → (m' : ℕ) × (d : Before) × (m ≤ m') × At tokens i rest m' opened d × after c d ×
      Few tokens i m m' (length opened + N) ×
      ((n : ℕ) → Few tokens i m m' (length opened + n) → S n)

  -- the same in a construct, which counts
  abbrev pub FewIn : ℕ → ℕ → ℕ → Type 0
  FewIn a b n = (j : ℕ) → a ≤ j → j ≤ b → length (open_after tokens i j) + 1 ≤ n

  abbrev pub KeptIn : Bool → List Token → List Token → ℕ → (ℕ → Type 0) → Type 0
  KeptIn b ts rest N S =
      (m : ℕ) (opened : List ℕ) → At tokens i ts m opened Other → in_brackets tokens opened ≡ b
      → (m' : ℕ) × (d : Before) × (m ≤ m') × At tokens i rest m' opened d ×
      FewIn m m' (length opened + N) × ((n : ℕ) → FewIn m m' (length opened + n) → S n)

  -- ---- parts

  at_rest : (ts rest : List Token) (m : ℕ) (opened : List ℕ) (c : Before) → ts ≡ rest →
      At tokens i ts m opened c → At tokens i rest m opened c
  at_rest ts rest m opened c e ((l, h), s, p) = ((l, sym e ∙ h), s, p)

  pub kept_none : (b : Bool) (ts rest : List Token) (fit e : Befores) (N : ℕ) (S : ℕ → Type 0) →
      ts ≡ rest → ((n : ℕ) → S n) → Kept b ts rest fit (After e true) N S
  kept_none b ts rest fit e N S same s m opened c at ib h = (
    m,
    c,
    omega arith,
    at_rest ts rest m opened c same at,
    inr (refl, refl),
    few_one tokens i m
        opened (length opened + N) at.1 (omega arith),
    λ n few. s n,
  )

  pub kept_token : (b : Bool) (k : TokenKind) (ts rest : List Token) (nul : Bool) (N : ℕ)
      (S : ℕ → Type 0) → not (closing k) ≡ true → Passes k ts rest → ((n : ℕ) → S n)
      → Kept b ts rest (other_befores b k) (After (only (before_of k)) nul) N S
  kept_token b k ts rest nul N S nc p s m opened c at ib h =
      let q = passed tokens i k ts rest m at.0 p in
      let open_next = after_plain tokens i ts m opened c k b at q.1 ib (has_other c b k h)
      (not-true (closing k) nc) in (
        suc m,
        before_of k,
        omega arith,
        (q.0, open_next, q.2),
        inl (has_only (before_of k)),
        few_next tokens i m m (suc m) (length opened + N)
            (few_one tokens i m opened (length opened + N) at.1 (omega arith))
            (few_one tokens i (suc m) opened (length opened + N) open_next (omega arith)),
        λ n few. s n,
      )

  after_both : (c d d' : Before) (e e' : Befores) (nul nul' : Bool) → After e nul c d →
      After e' nul' d d' → After (join e' (if_so nul' e none)) (nul && nul') c d'
  after_both c d d' e e' nul nul' x (inl h) = inl (has_left d' e' (if_so nul' e none) h)
  after_both c d d' e e' nul nul' (inl h) (inr (s, n)) =
      inl (has_right d' e' (if_so nul' e none)
      (if_so_has nul' d' e n (subst (λ z. has z e ≡ true) (sym s) h)))
  after_both c d d' e e' nul nul' (inr (s', n')) (inr (s, n)) =
      inr (s ∙ s', ap (λ z. z && nul') n' ∙ n)

  fit_next : (c d : Before) (e fit fit' : Befores) (nul : Bool) → subset e fit' ≡ true →
      has c (meet fit (if_so nul fit' any)) ≡ true → After e nul c d → has d fit' ≡ true
  fit_next c d e fit fit' nul sub h (inl x) = has_subset d e fit' sub x
  fit_next c d e fit fit' nul sub h (inr (s, n)) = subst (λ z. has z fit' ≡ true) (sym s)
      (has_if_so nul c fit' n (has_meet c fit (if_so nul fit' any) h).1)

  pub kept_both : (b : Bool) (ts mid rest : List Token) (fit fit' e e' : Befores) (nul nul' : Bool)
      (N : ℕ) (S S' T : ℕ → Type 0)
      → Kept b ts mid fit (After e nul) N S → Kept b mid rest fit' (After e' nul') N S' →
      subset e fit' ≡ true → ((n : ℕ) → S n → S' n → T n)
      → Kept b ts rest (meet fit (if_so nul fit' any))
      (After (join e' (if_so nul' e none)) (nul && nul')) N T
  kept_both b ts mid rest fit fit' e e' nul nul' N S S' T f g sub make m opened c at ib h =
      let r = f m opened c at ib (has_meet c fit (if_so nul fit' any) h).0 in
      let q = g r.0 opened r.1 r.3 ib (fit_next c r.1 e fit fit' nul sub h r.4) in
      let l : m ≤ r.0 = r.2 in let k : r.0 ≤ q.0 = q.2 in (
        q.0,
        q.1,
        omega arith,
        q.3,
        after_both c r.1 q.1 e e' nul nul' r.4 q.4,
        few_join tokens i m r.0 q.0 (length opened + N) r.5 q.5,
        λ n few. make n (r.6 n (few_part tokens i m m r.0 q.0 (length opened + n)
            (omega arith) k few)) (q.6 n (few_part tokens i m r.0 q.0 q.0 (length opened + n) l
            (omega arith) few)),
      )

  -- where less may stand before, and more after
  pub kept_weaker : (b : Bool) (ts rest : List Token) (fit fit' e e' : Befores) (nul nul' : Bool)
      (N : ℕ) (S T : ℕ → Type 0) → Kept b ts rest fit (After e nul) N S
      → ((c : Before) → has c fit' ≡ true → has c fit ≡ true) →
      ((c : Before) → has c e ≡ true → has c e' ≡ true) → (nul ≡ true → nul' ≡ true) →
      ((n : ℕ) → S n → T n)
      → Kept b ts rest fit' (After e' nul') N T
  kept_weaker b ts rest fit fit' e e' nul nul' N S T f w w' wn make m opened c at ib h =
      let r = f m opened c at ib (w c h) in
      (r.0, r.1, r.2, r.3, go r.1 r.4, r.5, λ n few. make n (r.6 n few))
    where
      go : (d : Before) → After e nul c d → After e' nul' c d
      go d (inl x) = inl (w' d x)
      go d (inr (s, n)) = inr (s, wn n)

  -- ---- repetitions: what is after an item may be before the next

  again : (c d : Before) (e fit : Befores) (nul : Bool) →
      ((c : Before) → has c e ≡ true → has c fit ≡ true) → has c fit ≡ true → After e nul c d →
      has d fit ≡ true
  again c d e fit nul sub h (inl x) = sub d x
  again c d e fit nul sub h (inr (s, n)) = subst (λ z. has z fit ≡ true) (sym s) h

  after_more : (c d d' : Before) (e : Befores) (nul : Bool) → After e nul c d → After e true d d' →
      After e true c d'
  after_more c d d' e nul x (inl h) = inl h
  after_more c d d' e nul (inl h) (inr (s, n)) = inl (subst (λ z. has z e ≡ true) (sym s) h)
  after_more c d d' e nul (inr (s', n')) (inr (s, n)) = inr (s ∙ s', refl)

  kept_more : (b : Bool) (ts mid rest : List Token) (fit e : Befores) (nul : Bool) (N : ℕ)
      (S S' T : ℕ → Type 0) → ((c : Before) → has c e ≡ true → has c fit ≡ true)
      → Kept b ts mid fit (After e nul) N S → Kept b mid rest fit (After e true) N S' →
      ((n : ℕ) → S n → S' n → T n) → Kept b ts rest fit (After e true) N T
  kept_more b ts mid rest fit e nul N S S' T sub f g make m opened c at ib h =
      let r = f m opened c at ib h in
      let q = g r.0 opened r.1 r.3 ib (again c r.1 e fit nul sub h r.4) in
      let l : m ≤ r.0 = r.2 in let k : r.0 ≤ q.0 = q.2 in (
        q.0,
        q.1,
        omega arith,
        q.3,
        after_more c r.1 q.1 e nul r.4 q.4,
        few_join tokens i m r.0 q.0 (length opened + N) r.5 q.5,
        λ n few. make n (r.6 n (few_part tokens i m m r.0 q.0 (length opened + n)
            (omega arith) k few)) (q.6 n (few_part tokens i m r.0 q.0 q.0 (length opened + n) l
            (omega arith) few)),
      )

  pub kept_each : {A : Type 0} (b : Bool) (fit e : Befores) (nul : Bool) (N : ℕ)
      (I : A → List Token → List Token → Type 0) (J : ℕ → A → List Token → List Token → Type 0)
      → ((c : Before) → has c e ≡ true → has c fit ≡ true)
      → ((x : A) (ts rest : List Token) → I x ts rest →
      Kept b ts rest fit (After e nul) N (λ n. J n x ts rest))
      → (xs : List A) (ts rest : List Token) → Each I xs ts rest →
      Kept b ts rest fit (After e true) N (λ n. Each (J n) xs ts rest)
  kept_each b fit e nul N I J sub h [] ts rest s =
      kept_none b ts rest fit e N (λ n. ts ≡ rest) s (λ n. s)
  kept_each b fit e nul N I J sub h (x ∷ xs) ts rest (mid, s, each) =
      kept_more b ts mid rest fit e nul N (λ n. J n x ts mid) (λ n. Each (J n) xs mid rest)
      (λ n. Each (J n) (x ∷ xs) ts rest) sub
      (h x ts mid s) (kept_each b fit e nul N I J sub h xs mid rest each) (λ n a z. (mid, a, z))

  pub kept_each_from : {A : Type 0} (b : Bool) (fit e : Befores) (N : ℕ) (I : Stage → A →
      List Token → List Token → Type 0) (J : ℕ → Stage → A → List Token → List Token → Type 0)
      (f : Stage → A → Stage) → ((c : Before) → has c e ≡ true → has c fit ≡ true)
      → ((t : Stage) (x : A) (ts rest : List Token) → I t x ts rest →
      Kept b ts rest fit (After e true) N (λ n. J n t x ts rest))
      → (t : Stage) (xs : List A) (ts rest : List Token) → EachFrom I f t xs ts rest →
      Kept b ts rest fit (After e true) N (λ n. EachFrom (J n) f t xs ts rest)
  kept_each_from b fit e N I J f sub h t [] ts rest s =
      kept_none b ts rest fit e N (λ n. ts ≡ rest) s (λ n. s)
  kept_each_from b fit e N I J f sub h t (x ∷ xs) ts rest (mid, s, each) =
      kept_more b ts mid rest fit e true N (λ n. J n t x ts mid)
      (λ n. EachFrom (J n) f (f t x) xs mid rest) (λ n. EachFrom (J n) f t (x ∷ xs) ts rest) sub
      (h t x ts mid s) (kept_each_from b fit e N I J f sub h (f t x) xs mid rest each)
      (λ n a z. (mid, a, z))

  -- ---- a construct

  pub nested_so : (o c : TokenKind) (r : Bool) →
      (is_other (before_of o) && (same_truth (is_left_paren o) r && always_closes c)) ≡ true →
      (before_of o ≡ Other) × (is_left_paren o ≡ r) × (always_closes c ≡ true)
  nested_so o c r e =
      let p = and_parts (is_other (before_of o)) (same_truth (is_left_paren o) r && always_closes c)
      e in
      let q = and_parts (same_truth (is_left_paren o) r) (always_closes c) p.1 in
      (is_other_so (before_of o) p.0, same_truth_so (is_left_paren o) r q.0, q.1)

  -- inside it, after its opening token
  pub inside_at : (b r : Bool) (o c : TokenKind) →
      (is_other (before_of o) && (same_truth (is_left_paren o) r && always_closes c)) ≡ true
      → (ts first : List Token) (m : ℕ) (opened : List ℕ) (p : Before) → At tokens i ts m opened p →
      in_brackets tokens opened ≡ b → has p (opening_befores b o) ≡ true → Passes o ts first
      → At tokens i first (suc m) ((i + m) ∷ opened) Other ×
      (in_brackets tokens ((i + m) ∷ opened) ≡ r)
  inside_at b r o c e ts first m opened p at ib h pass =
      let so = nested_so o c r e in
      let q = passed tokens i o ts first m at.0 pass in (
        (q.0, after_opening tokens i ts m opened p o b at q.1 ib (has_opening p b o h), q.2 ∙ so.0),
        ap is_left_paren q.1 ∙ so.1,
      )

  few_in : (m m1 : ℕ) (opened : List ℕ) (N : ℕ) → FewIn (suc m) m1 (length ((i + m) ∷ opened) + N) →
      Few tokens i (suc m) m1 (length opened + N)
  few_in m m1 opened N f j a b =
      let l : length (open_after tokens i j) + 1 ≤ length ((i + m) ∷ opened) + N = f j a b in
      let s : length ((i + m) ∷ opened) ≡ suc (length opened) = refl in omega arith

  few_out : (m m1 m2 : ℕ) (opened : List ℕ) (n : ℕ) → m1 ≤ m2 →
      Few tokens i m m2 (length opened + n) → FewIn (suc m) m1 (length ((i + m) ∷ opened) + n)
  few_out m m1 m2 opened n l f j a b =
      let k : length (open_after tokens i j) ≤ length opened + n =
      f j (omega arith) (omega arith) in
      let s : length ((i + m) ∷ opened) ≡ suc (length opened) = refl in omega arith

  pub kept_nested : (b r : Bool) (o c : TokenKind) →
      (is_other (before_of o) && (same_truth (is_left_paren o) r && always_closes c)) ≡ true
      → (ts first last rest : List Token) (nul : Bool) (N : ℕ) (S T : ℕ → Type 0) →
      Passes o ts first → KeptIn r first last N S → Passes c last rest → ((n : ℕ) → S n → T n)
      → Kept b ts rest (opening_befores b o) (After (only (before_of c)) nul) N T
  kept_nested b r o c e ts first last rest nul N S T pass f pass' make m opened p at ib h =
      let so = nested_so o c r e in
      let a = inside_at b r o c e ts first m opened p at ib h pass in
      let u = f (suc m) ((i + m) ∷ opened) a.0 a.1 in
      let q = passed tokens i c last rest u.0 u.3.0 pass' in
      let l : suc m ≤ u.0 = u.2 in
      let shut = after_closing tokens i last u.0 (i + m) opened u.1 c r u.3 q.1 a.1
      (closes_everywhere c so.2 u.1 r) (closes_one c so.2) in (
        suc u.0,
        before_of c,
        omega arith,
        (q.0, shut, q.2),
        inl (has_only (before_of c)),
        few_next tokens i m m (suc u.0) (length opened + N)
            (few_one tokens i m opened (length opened + N) at.1 (omega arith))
            (few_next tokens i (suc m) u.0 (suc u.0) (length opened + N) (few_in m u.0 opened N u.4)
            (few_one tokens i (suc u.0) opened (length opened + N) shut (omega arith))),
        λ n few. make n (u.5 n (few_out m u.0 (suc u.0) opened n (omega arith) few)),
      )

-- ---- grammars

-- stages: what is after an item of one may be before an item of each
abbrev pub ends_all : {R : Type 0} {Tree : R → Type 0} {A : Type 0} → (Stage → Grammar R Tree A) →
    Befores
ends_all item = join (ends (item First)) (join (ends (item Second)) (ends (item Third)))

abbrev pub stands_all : {R : Type 0} {Tree : R → Type 0} {A : Type 0} → Bool →
    (Stage → Grammar R Tree A) → Befores
stands_all b item = meet (stands b (item First))
    (meet (stands b (item Second)) (stands b (item Third)))

module _ {R : Type 0} {Tree : R → Type 0} {A : Type 0} (round : R → Bool) (b : Bool)
    (item : Stage → Grammar R Tree A) where
  pub stands_each : (t : Stage) (c : Before) → has c (stands_all b item) ≡ true →
      has c (stands b (item t)) ≡ true
  stands_each First c h = (has_meet c (stands b (item First))
      (meet (stands b (item Second)) (stands b (item Third))) h).0
  stands_each Second c h = (has_meet c (stands b (item Second)) (stands b (item Third))
      (has_meet c (stands b (item First)) (meet (stands b (item Second)) (stands b (item Third)))
      h).1).0
  stands_each Third c h = (has_meet c (stands b (item Second)) (stands b (item Third))
      (has_meet c (stands b (item First)) (meet (stands b (item Second)) (stands b (item Third)))
      h).1).1

  pub ends_each : (t : Stage) (c : Before) → has c (ends (item t)) ≡ true →
      has c (ends_all item) ≡ true
  ends_each First c h = has_left c (ends (item First))
      (join (ends (item Second)) (ends (item Third))) h
  ends_each Second c h = has_right c (ends (item First))
      (join (ends (item Second)) (ends (item Third)))
      (has_left c (ends (item Second)) (ends (item Third)) h)
  ends_each Third c h = has_right c (ends (item First))
      (join (ends (item Second)) (ends (item Third)))
      (has_right c (ends (item Second)) (ends (item Third)) h)

  abbrev StageTold : Stage → Type 0
  StageTold s = (told round b (item s) && at_each_stage
      (λ t. subset (ends (item s)) (stands b (item t)))) ≡ true

  pub stage_told : at_each_stage (λ s. told round b (item s) && at_each_stage
      (λ t. subset (ends (item s)) (stands b (item t)))) ≡ true → (s : Stage) →
      told round b (item s) ≡ true
  stage_told e s = (and_parts (told round b (item s))
      (at_each_stage (λ t. subset (ends (item s)) (stands b (item t))))
      (each_stage (λ s. told round b (item s) && at_each_stage
      (λ t. subset (ends (item s)) (stands b (item t)))) e s)).0

  stage_subset : at_each_stage (λ s. told round b (item s) && at_each_stage
      (λ t. subset (ends (item s)) (stands b (item t)))) ≡ true → (s t : Stage) →
      subset (ends (item s)) (stands b (item t)) ≡ true
  stage_subset e s t = each_stage (λ t. subset (ends (item s)) (stands b (item t)))
      (and_parts (told round b (item s)) (at_each_stage
      (λ t. subset (ends (item s)) (stands b (item t))))
      (each_stage (λ s. told round b (item s) && at_each_stage
      (λ t. subset (ends (item s)) (stands b (item t)))) e s)).1 t

  all_meet : (c : Before) → ((t : Stage) → has c (stands b (item t)) ≡ true) →
      has c (stands_all b item) ≡ true
  all_meet c h = meets c (stands b (item First))
      (meet (stands b (item Second)) (stands b (item Third))) (h First)
      (meets c (stands b (item Second)) (stands b (item Third)) (h Second) (h Third))
    where
      both_true : (x y : Bool) → x ≡ true → y ≡ true → (x && y) ≡ true
      both_true true y e f = f
      both_true false y e f = cc

      meets : (c : Before) (s t : Befores) → has c s ≡ true → has c t ≡ true →
          has c (meet s t) ≡ true
      meets End s t e f = both_true s.at_end t.at_end e f
      meets Leading s t e f = both_true s.at_leading t.at_leading e f
      meets Other s t e f = both_true s.at_other t.at_other e f

  pub all_subset : at_each_stage (λ s. told round b (item s) && at_each_stage
      (λ t. subset (ends (item s)) (stands b (item t)))) ≡ true
      → (c : Before) → has c (ends_all item) ≡ true → has c (stands_all b item) ≡ true
  all_subset e c h = go (has_some c (ends (item First))
      (join (ends (item Second)) (ends (item Third))) h)
    where
      from : (s : Stage) → has c (ends (item s)) ≡ true → has c (stands_all b item) ≡ true
      from s k = all_meet c (λ t. has_subset c (ends (item s)) (stands b (item t))
          (stage_subset e s t) k)

      later : (has c (ends (item Second)) ≡ true) ⊎ (has c (ends (item Third)) ≡ true) →
          has c (stands_all b item) ≡ true
      later (inl k) = from Second k
      later (inr k) = from Third k

      go : (has c (ends (item First)) ≡ true) ⊎
          (has c (join (ends (item Second)) (ends (item Third))) ≡ true) →
          has c (stands_all b item) ≡ true
      go (inl k) = from First k
      go (inr k) = later (has_some c (ends (item Second)) (ends (item Third)) k)

module _ (tokens : List Token) (i : ℕ) {R : Type 0} {Tree : R → Type 0}
    (rules : (r : R) → Grammar R Tree (Tree r)) (round : R → Bool) (N : ℕ)
    (within : (r : R) (x : Tree r) (ts rest : List Token) → inside rules N r x ts rest →
    KeptIn tokens i (round r) ts rest N (λ n. inside rules n r x ts rest)) where
  abbrev pub KeptBy : {A : Type 0} → Bool → Grammar R Tree A → A → List Token → List Token → Type 0
  KeptBy b g x ts rest = Kept tokens i b ts rest (stands b g) (After (ends g) (nullable g)) N
      (λ n. Spells (inside rules n) g x ts rest)

  pub kept : {A : Type 0} (b : Bool) (g : Grammar R Tree A) → told round b g ≡ true →
      (x : A) (ts rest : List Token) → Spells (inside rules N) g x ts rest → KeptBy b g x ts rest
  kept b (token k) e x ts rest s = kept_token tokens i b k ts rest false N
      (λ n. Spells (inside rules n) (token k) x ts rest) e (x, s) (λ n. s)
  kept b (nested o r c) e x ts rest s =
      kept_nested tokens i b (round r) o c e ts s.0 s.1 rest false N
      (λ n. inside rules n r x.1 s.0 s.1) (λ n. Spells (inside rules n) (nested o r c) x ts rest)
      (x.0, s.2) (within r x.1 s.0 s.1 s.3) s.4 (λ n z. (s.0, s.1, s.2, z, s.4))
  kept b (both g h) e x ts rest s =
      let p = and_parts (told round b g) (told round b h && subset (ends g) (stands b h)) e in
      let q = and_parts (told round b h) (subset (ends g) (stands b h)) p.1 in
      kept_both tokens i b ts s.0 rest (stands b g) (stands b h) (ends g) (ends h) (nullable g)
      (nullable h) N (λ n. Spells (inside rules n) g x.0 ts s.0)
      (λ n. Spells (inside rules n) h x.1 s.0 rest)
      (λ n. Spells (inside rules n) (both g h) x ts rest) (kept b g p.0 x.0 ts s.0 s.1)
      (kept b h q.0 x.1 s.0 rest s.2) q.1 (λ n y z. (s.0, y, z))
  kept b (either g h) e x ts rest (inl s) =
      kept_weaker tokens i b ts rest (stands b g) (meet (stands b g) (stands b h)) (ends g)
      (join (ends g) (ends h)) (nullable g) (nullable (either g h)) N
      (λ n. Spells (inside rules n) g x ts rest)
      (λ n. Spells (inside rules n) (either g h) x ts rest)
      (kept b g (and_parts (told round b g) (told round b h) e).0 x ts rest s)
      (λ c k. (has_meet c (stands b g) (stands b h) k).0) (λ c k. has_left c (ends g) (ends h) k)
      (λ k. or_left (nullable g) (nullable h) k) (λ n z. inl z)
  kept b (either g h) e x ts rest (inr s) =
      kept_weaker tokens i b ts rest (stands b h) (meet (stands b g) (stands b h)) (ends h)
      (join (ends g) (ends h)) (nullable h) (nullable (either g h)) N
      (λ n. Spells (inside rules n) h x ts rest)
      (λ n. Spells (inside rules n) (either g h) x ts rest)
      (kept b h (and_parts (told round b g) (told round b h) e).1 x ts rest s)
      (λ c k. (has_meet c (stands b g) (stands b h) k).1) (λ c k. has_right c (ends g) (ends h) k)
      (λ k. or_right (nullable g) (nullable h) k) (λ n z. inr z)
  kept b (optional g) e None ts rest s = kept_none tokens i b ts rest (stands b g) (ends g) N
      (λ n. ts ≡ rest) s (λ n. s)
  kept b (optional g) e (Some x) ts rest s =
      kept_weaker tokens i b ts rest (stands b g) (stands b g) (ends g) (ends g) (nullable g) true N
      (λ n. Spells (inside rules n) g x ts rest)
      (λ n. Spells (inside rules n) g x ts rest) (kept b g e x ts rest s) (λ c k. k) (λ c k. k)
      (λ k. refl) (λ n z. z)
  kept b (many g) e xs ts rest s =
      let p = and_parts (told round b g) (subset (ends g) (stands b g)) e in
      kept_each tokens i b (stands b g) (ends g) (nullable g) N (Spells (inside rules N) g)
      (λ n. Spells (inside rules n) g) (λ c k. has_subset c (ends g) (stands b g) p.1 k)
      (kept b g p.0) xs ts rest s
  kept b (staged item f stage) e xs ts rest s =
      kept_each_from tokens i b (stands_all b item) (ends_all item) N
      (λ t. Spells (inside rules N) (item t)) (λ n t. Spells (inside rules n) (item t)) f
      (all_subset round b item e)
      (λ t x ts rest z. kept_weaker tokens i b ts rest (stands b (item t)) (stands_all b item)
      (ends (item t)) (ends_all item) (nullable (item t)) true N
      (λ n. Spells (inside rules n) (item t) x ts rest)
      (λ n. Spells (inside rules n) (item t) x ts rest)
      (kept b (item t) (stage_told round b item e t) x ts rest z)
      (stands_each round b item t) (ends_each round b item t) (λ k. refl) (λ n y. y)) stage xs ts
      rest s
  kept b (map_to f g) e y ts rest s =
      kept_weaker tokens i b ts rest (stands b g) (stands b g) (ends g) (ends g) (nullable g)
      (nullable g) N (λ n. Spells (inside rules n) g s.0 ts rest)
      (λ n. Spells (inside rules n) (map_to f g) y ts rest) (kept b g e s.0 ts rest s.2) (λ c k. k)
      (λ c k. k) (λ k. k) (λ n z. (s.0, s.1, z))

-- ---- in constructs

module _ (tokens : List Token) (i : ℕ) {R : Type 0} {Tree : R → Type 0}
    (rules : (r : R) → Grammar R Tree (Tree r)) (round : R → Bool)
    (sound : (r : R) → told round (round r) (rules r) ≡ true)
    (fit : (r : R) → (stands (round r) (rules r)).at_other ≡ true) where
  pub inside_kept : (N : ℕ) (r : R) (x : Tree r) (ts rest : List Token) →
      inside rules N r x ts rest → KeptIn tokens i (round r) ts rest N
      (λ n. inside rules n r x ts rest)
  inside_kept zero r x ts rest s = absurd s
  inside_kept (suc N) r x ts rest s = λ m opened at ib.
      let u = kept tokens i rules round N (inside_kept N) (round r) (rules r) (sound r) x ts rest s
      m opened Other at ib (fit r) in (
        u.0,
        u.1,
        u.2,
        u.3,
        λ j a b.
            (let l : length (open_after tokens i j) ≤ length opened + N = u.5 j a b in omega arith),
        λ n few. go m u.0 opened at.1 u.2 u.6 n few,
      )
    where
      go : (m m' : ℕ) (opened : List ℕ) → open_after tokens i m ≡ opened → m ≤ m' →
          ((n : ℕ) → Few tokens i m m' (length opened + n) →
          Spells (inside rules n) (rules r) x ts rest)
          → (n : ℕ) → FewIn tokens i m m' (length opened + n) → inside rules n r x ts rest
      go m m' opened e l h zero few =
          let k : length (open_after tokens i m) + 1 ≤ length opened + 0 = few m (omega arith) l in
          let s : length (open_after tokens i m) ≡ length opened = ap length e in
          absurd (omega arith)
      go m m' opened e l h (suc n) few =
          h n (λ j a b.
          let k : length (open_after tokens i j) + 1 ≤ length opened + suc n = few j a b in
          omega arith)
