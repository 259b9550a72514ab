-- A beginning adds those constructs that it has open to those that were; what holds of places and
-- rooms in a whole spelling holds up to its end.
use Rattle.std.proofs.Common.{◌≡◌, ℕ, zero, suc, ◌+◌, ◌≤◌, Bool, true, false, ◌&&◌, List, [], ◌∷◌}
use Rattle.std.proofs.Common.{◌++◌, length, refl, ap, sym, ◌∙◌, subst, inl, inr, arith}
use Rattle.std.proofs.lemmas.Bool.{and_parts}
use Rattle.std.proofs.lemmas.List.{append_assoc}
use Rattle.sql_lex.specs.declared.token.TokenKind.{TokenKind}
use Rattle.sql_lex.specs.declared.token.Token.{Token}
use Rattle.grammar_algebra.specs.Grammar.{Grammar, token, nested, both, either, optional, many}
use Rattle.grammar_algebra.specs.Grammar.{staged, map_to, Passes, Each, EachFrom, stage_after}
use Rattle.grammar_algebra.specs.Grammar.{Spells, Cut, inside, begun}
use Rattle.grammar_algebra.specs.Reading.{nullable}
use Rattle.grammar_algebra.specs.Statement.{place}
use Rattle.grammar_sql.specs.Constructs.{Before, Other, before_of, is_left_paren, in_brackets}
use Rattle.grammar_sql.specs.Constructs.{open_after, Befores, has, any, only, meet, if_so, subset}
use Rattle.grammar_sql.specs.Constructs.{opening_befores, other_befores, stands, ends, told}
use Rattle.grammar_sql.specs.Constructs.{same_truth, is_other, always_closes, HasOpen, holds}
use Rattle.grammar_sql.proofs.Steps.{Left, At, Few, has_meet, has_subset, has_if_so, place_is}
use Rattle.grammar_sql.proofs.Steps.{few_one, few_join, few_next, few_part}
use Rattle.grammar_sql.proofs.Keeping.{After, Kept, FewIn, KeptIn, kept_none, kept_token, kept_each}
use Rattle.grammar_sql.proofs.Keeping.{kept_nested, inside_at, ends_all, stands_all, stands_each}
use Rattle.grammar_sql.proofs.Keeping.{stage_told, all_subset, kept, inside_kept}

module _ (tokens : List Token) (i : ℕ) where
  abbrev pub Added : Bool → List Token → List Token → Befores → List ℕ → ℕ → (ℕ → Type 0) → Type 0
  Added b ts end fit more N S =
      (m : ℕ) (opened : List ℕ) (c : Before) → At tokens i ts m opened c →
      in_brackets tokens opened ≡ b → has c fit ≡ true
      → (m' : ℕ) × (m ≤ m') × Left tokens i end m' × (open_after tokens i m' ≡ more ++ opened) ×
      Few tokens i m m' (length opened + N) ×
      ((n : ℕ) → Few tokens i m m' (length opened + n) → S n)

  abbrev pub AddedIn : Bool → List Token → List Token → List ℕ → ℕ → (ℕ → Type 0) → Type 0
  AddedIn b ts end more N S =
      (m : ℕ) (opened : List ℕ) → At tokens i ts m opened Other → in_brackets tokens opened ≡ b
      → (m' : ℕ) × (m ≤ m') × Left tokens i end m' × (open_after tokens i m' ≡ more ++ opened) ×
      FewIn tokens i m m' (length opened + N) ×
      ((n : ℕ) → FewIn tokens i m m' (length opened + n) → S n)

  added_none : (b : Bool) (ts end : List Token) (fit : Befores) (after : Before → Before → Type 0)
      (more : List ℕ) (N : ℕ) (S T : ℕ → Type 0) → more ≡ [] → Kept tokens i b ts end fit after N S
      → ((n : ℕ) → S n → T n) → Added b ts end fit more N T
  added_none b ts end fit after more N S T e f make m opened c at ib h =
      let r = f m opened c at ib h in
      (r.0, r.2, r.3.0, r.3.1 ∙ sym (ap (λ z. z ++ opened) e), r.5, λ n few. make n (r.6 n few))

  added_next : (b : Bool) (ts mid end : List Token) (fit fit' fit'' e : Befores) (nul : Bool)
      (more : List ℕ) (N : ℕ) (S S' T : ℕ → Type 0)
      → ((c d : Before) → has c fit'' ≡ true → After e nul c d → has d fit' ≡ true) →
      ((c : Before) → has c fit'' ≡ true → has c fit ≡ true)
      → Kept tokens i b ts mid fit (After e nul) N S → Added b mid end fit' more N S' →
      ((n : ℕ) → S n → S' n → T n) → Added b ts end fit'' more N T
  added_next b ts mid end fit fit' fit'' e nul more N S S' T next w f g make m opened c at ib h =
      let r = f m opened c at ib (w c h) in
      let q = g r.0 opened r.1 r.3 ib (next c r.1 h r.4) in
      let l : m ≤ r.0 = r.2 in let k : r.0 ≤ q.0 = q.1 in (
        q.0,
        omega arith,
        q.2,
        q.3,
        few_join tokens i m r.0 q.0 (length opened + N) r.5 q.4,
        λ n few. make n (r.6 n (few_part tokens i m m r.0 q.0 (length opened + n)
            (omega arith) k few)) (q.5 n (few_part tokens i m r.0 q.0 q.0 (length opened + n) l
            (omega arith) few)),
      )

  added_weaker : (b : Bool) (ts end : List Token) (fit fit' : Befores) (more : List ℕ) (N : ℕ)
      (S T : ℕ → Type 0) → ((c : Before) → has c fit' ≡ true → has c fit ≡ true)
      → Added b ts end fit more N S → ((n : ℕ) → S n → T n) → Added b ts end fit' more N T
  added_weaker b ts end fit fit' more N S T w f make m opened c at ib h =
      let r = f m opened c at ib (w c h) in (r.0, r.1, r.2, r.3, r.4, λ n few. make n (r.5 n few))

  few_in : (m m1 : ℕ) (opened : List ℕ) (N : ℕ) →
      FewIn tokens i (suc m) m1 (length ((i + m) ∷ opened) + N) →
      Few tokens i (suc m) m1 (length opened + N)
  few_in m m1 opened N f j a b =
      let l : length (open_after tokens i j) + 1 ≤ length ((i + m) ∷ opened) + N = f j a b in
      let s : length ((i + m) ∷ opened) ≡ suc (length opened) = refl in omega arith

  few_out : (m m1 : ℕ) (opened : List ℕ) (n : ℕ) → Few tokens i m m1 (length opened + n) →
      FewIn tokens i (suc m) m1 (length ((i + m) ∷ opened) + n)
  few_out m m1 opened n f j a b =
      let k : length (open_after tokens i j) ≤ length opened + n = f j (omega arith) b in
      let s : length ((i + m) ∷ opened) ≡ suc (length opened) = refl in omega arith

  -- a construct that is not closed
  added_inside : (b r : Bool) (o c : TokenKind) →
      (is_other (before_of o) && (same_truth (is_left_paren o) r && always_closes c)) ≡ true
      → (ts first end : List Token) (here more : List ℕ) (N : ℕ) (S T : ℕ → Type 0) →
      more ≡ here ++ place tokens ts ∷ [] → Passes o ts first → AddedIn r first end here N S →
      ((n : ℕ) → S n → T n)
      → Added b ts end (opening_befores b o) more N T
  added_inside b r o c e ts first end here more N S T em pass f make m opened p at ib h =
      let a = inside_at tokens i b r o c e ts first m opened p at ib h pass in
      let u = f (suc m) ((i + m) ∷ opened) a.0 a.1 in
      let l : suc m ≤ u.0 = u.1 in (
        u.0,
        omega arith,
        u.2,
        u.3 ∙ ap (λ z. here ++ z ∷ opened) (sym (place_is tokens i ts m at.0)) ∙
            sym (append_assoc here (place tokens ts ∷ []) opened) ∙ sym (ap (λ z. z ++ opened) em),
        few_next tokens i m m u.0 (length opened + N)
            (few_one tokens i m opened (length opened + N) at.1 (omega arith))
            (few_in m u.0 opened N u.4),
        λ n few. make n (u.5 n (few_out m u.0 opened n few)),
      )

module _ (tokens : List Token) (i : ℕ) {R : Type 0} {Tree : R → Type 0}
    (rules : (r : R) → Grammar R Tree (Tree r)) (round : R → Bool) (N : ℕ)
    (within : (r : R) (x : Tree r) (ts rest : List Token) → inside rules N r x ts rest →
    KeptIn tokens i (round r) ts rest N (λ n. inside rules n r x ts rest))
    (part : (r : R) (ts end : List Token) (more : List ℕ) → holds tokens rules N r ts end more →
    AddedIn tokens i (round r) ts end more N (λ n. begun rules n r ts end)) where
  abbrev pub AddedBy : {A : Type 0} → Bool → Grammar R Tree A → List Token → List Token → List ℕ →
      Type 0
  AddedBy b g ts end more = Added tokens i b ts end (stands b g) more N
      (λ n. Cut (inside rules n) (begun rules n) g ts end)

  whole : {A : Type 0} (b : Bool) (g : Grammar R Tree A) → told round b g ≡ true →
      (x : A) (ts rest : List Token) → Spells (inside rules N) g x ts rest
      → Kept tokens i b ts rest (stands b g) (After (ends g) (nullable g)) N
      (λ n. Spells (inside rules n) g x ts rest)
  whole b g e x ts rest s = kept tokens i rules round N within b g e x ts rest s

  pub added : {A : Type 0} (b : Bool) (g : Grammar R Tree A) → told round b g ≡ true →
      (ts end : List Token) (more : List ℕ) → HasOpen tokens (inside rules N) (holds tokens rules N)
      g ts end more → AddedBy b g ts end more
  added b (token k) e ts end more (n, inl s) =
      added_none tokens i b ts end (other_befores b k) (After (only (before_of k)) true) more N
      (λ n. ts ≡ end) (λ n. Cut (inside rules n) (begun rules n) (token k) ts end) n
      (kept_none tokens i b ts end (other_befores b k) (only (before_of k)) N (λ n. ts ≡ end) s
      (λ n. s)) (λ n z. inl z)
  added b (token k) e ts end more (n, inr p) =
      added_none tokens i b ts end (other_befores b k) (After (only (before_of k)) false) more N
      (λ n. Passes k ts end) (λ n. Cut (inside rules n) (begun rules n) (token k) ts end) n
      (kept_token tokens i b k ts end false N (λ n. Passes k ts end) e p (λ n. p)) (λ n z. inr z)
  added b (nested o r c) e ts end more (inl (n, s)) =
      added_none tokens i b ts end (opening_befores b o) (After (only (before_of c)) true) more N
      (λ n. ts ≡ end) (λ n. Cut (inside rules n) (begun rules n) (nested o r c) ts end) n
      (kept_none tokens i b ts end (opening_befores b o) (only (before_of c)) N (λ n. ts ≡ end) s
      (λ n. s)) (λ n z. inl z)
  added b (nested o r c) e ts end more (inr (first, p, inl (here, em, d))) =
      added_inside tokens i b (round r) o c e ts first end here more N
      (λ n. begun rules n r first end) (λ n. Cut (inside rules n) (begun rules n)
      (nested o r c) ts end) em p
      (part r first end here d) (λ n z. inr (first, p, inl z))
  added b (nested o r c) e ts end more (inr (first, p, inr (n, x, last, s, q))) =
      added_none tokens i b ts end (opening_befores b o) (After (only (before_of c)) false) more N
      (λ n. inside rules n r x first last) (λ n. Cut (inside rules n) (begun rules n)
      (nested o r c) ts end) n
      (kept_nested tokens i b (round r) o c e ts first last end false N
      (λ n. inside rules n r x first last) (λ n. inside rules n r x first last) p
      (within r x first last s) q (λ n z. z))
      (λ n z. inr (first, p, inr (x, last, z, q)))
  added b (both g h) e ts end more (inl d) =
      added_weaker tokens i b ts end (stands b g)
      (meet (stands b g) (if_so (nullable g) (stands b h) any)) more N
      (λ n. Cut (inside rules n) (begun rules n) g ts end)
      (λ n. Cut (inside rules n) (begun rules n) (both g h) ts end)
      (λ c k. (has_meet c (stands b g) (if_so (nullable g) (stands b h) any) k).0)
      (added b g (and_parts (told round b g) (told round b h && subset (ends g) (stands b h)) e).0
      ts end more d) (λ n z. inl z)
  added b (both g h) e ts end more (inr (x, mid, s, d)) =
      let p = and_parts (told round b g) (told round b h && subset (ends g) (stands b h)) e in
      let q = and_parts (told round b h) (subset (ends g) (stands b h)) p.1 in
      added_next tokens i b ts mid end (stands b g) (stands b h)
      (meet (stands b g) (if_so (nullable g) (stands b h) any)) (ends g) (nullable g) more N
      (λ n. Spells (inside rules n) g x ts mid)
      (λ n. Cut (inside rules n) (begun rules n) h mid end)
      (λ n. Cut (inside rules n) (begun rules n) (both g h) ts end)
      (λ c d k a. fit_next c d q.1 k a)
      (λ c k. (has_meet c (stands b g) (if_so (nullable g) (stands b h) any) k).0)
      (whole b g p.0 x ts mid s) (added b h q.0 mid end more d) (λ n y z. inr (x, mid, y, z))
    where
      fit_next : (c d : Before) → subset (ends g) (stands b h) ≡ true →
          has c (meet (stands b g) (if_so (nullable g) (stands b h) any)) ≡ true →
          After (ends g) (nullable g) c d → has d (stands b h) ≡ true
      fit_next c d sub k (inl y) = has_subset d (ends g) (stands b h) sub y
      fit_next c d sub k (inr (s, n)) = subst (λ z. has z (stands b h) ≡ true) (sym s)
          (has_if_so (nullable g) c (stands b h) n
          (has_meet c (stands b g) (if_so (nullable g) (stands b h) any) k).1)
  added b (either g h) e ts end more (inl d) =
      added_weaker tokens i b ts end (stands b g) (meet (stands b g) (stands b h)) more N
      (λ n. Cut (inside rules n) (begun rules n) g ts end)
      (λ n. Cut (inside rules n) (begun rules n) (either g h) ts end)
      (λ c k. (has_meet c (stands b g) (stands b h) k).0)
      (added b g (and_parts (told round b g) (told round b h) e).0 ts end more d) (λ n z. inl z)
  added b (either g h) e ts end more (inr d) =
      added_weaker tokens i b ts end (stands b h) (meet (stands b g) (stands b h)) more N
      (λ n. Cut (inside rules n) (begun rules n) h ts end)
      (λ n. Cut (inside rules n) (begun rules n) (either g h) ts end)
      (λ c k. (has_meet c (stands b g) (stands b h) k).1)
      (added b h (and_parts (told round b g) (told round b h) e).1 ts end more d) (λ n z. inr z)
  added b (optional g) e ts end more (inl (n, s)) =
      added_none tokens i b ts end (stands b g) (After (ends g) true) more N (λ n. ts ≡ end)
      (λ n. Cut (inside rules n) (begun rules n) (optional g) ts end) n
      (kept_none tokens i b ts end (stands b g) (ends g) N (λ n. ts ≡ end) s (λ n. s))
      (λ n z. inl z)
  added b (optional g) e ts end more (inr d) =
      added_weaker tokens i b ts end (stands b g) (stands b g) more N
      (λ n. Cut (inside rules n) (begun rules n) g ts end)
      (λ n. Cut (inside rules n) (begun rules n) (optional g) ts end) (λ c k. k)
      (added b g e ts end more d) (λ n z. inr z)
  added b (many g) e ts end more (xs, mid, each, inl (n, s)) =
      let p = and_parts (told round b g) (subset (ends g) (stands b g)) e in
      added_none tokens i b ts end (stands b g) (After (ends g) true) more N
      (λ n. Each (Spells (inside rules n) g) xs ts mid)
      (λ n. Cut (inside rules n) (begun rules n) (many g) ts end) n
      (λ m opened c at ib h.
      let r = kept_each tokens i b (stands b g) (ends g) (nullable g) N
      (Spells (inside rules N) g) (λ n. Spells (inside rules n) g)
      (λ c k. has_subset c (ends g) (stands b g) p.1 k) (whole b g p.0) xs ts mid each m opened c at
      ib h in (r.0, r.1, r.2, ((r.3.0.0, sym s ∙ r.3.0.1), r.3.1, r.3.2), r.4, r.5, r.6))
      (λ n z. (xs, mid, z, inl s))
  added b (many g) e ts end more (xs, mid, each, inr d) =
      let p = and_parts (told round b g) (subset (ends g) (stands b g)) e in
      added_next tokens i b ts mid end (stands b g) (stands b g) (stands b g) (ends g) true more N
      (λ n. Each (Spells (inside rules n) g) xs ts mid)
      (λ n. Cut (inside rules n) (begun rules n) g mid end)
      (λ n. Cut (inside rules n) (begun rules n) (many g) ts end)
      (λ c d k a. more_fits c d (ends g) (stands b g)
      (λ c k. has_subset c (ends g) (stands b g) p.1 k) k a) (λ c k. k)
      (kept_each tokens i b (stands b g) (ends g) (nullable g) N (Spells (inside rules N) g)
      (λ n. Spells (inside rules n) g) (λ c k. has_subset c (ends g) (stands b g) p.1 k)
      (whole b g p.0) xs ts mid each)
      (added b g p.0 mid end more d) (λ n y z. (xs, mid, y, inr z))
    where
      more_fits : (c d : Before) (e fit : Befores) →
          ((c : Before) → has c e ≡ true → has c fit ≡ true) → has c fit ≡ true → After e true c d →
          has d fit ≡ true
      more_fits c d e fit sub h (inl x) = sub d x
      more_fits c d e fit sub h (inr (s, n)) = subst (λ z. has z fit ≡ true) (sym s) h
  added b (staged item f stage) e ts end more (xs, mid, each, inl (n, s)) =
      added_none tokens i b ts end (stands_all b item) (After (ends_all item) true) more N
      (λ n. EachFrom (λ t. Spells (inside rules n) (item t)) f stage xs ts mid)
      (λ n. Cut (inside rules n) (begun rules n) (staged item f stage) ts end) n
      (λ m opened c at ib h. let r = items xs ts mid each m opened c at ib h in
      (r.0, r.1, r.2, ((r.3.0.0, sym s ∙ r.3.0.1), r.3.1, r.3.2), r.4, r.5, r.6))
      (λ n z. (xs, mid, z, inl s))
    where
      items : (xs : List _) (ts mid : List Token) →
          EachFrom (λ t. Spells (inside rules N) (item t)) f stage xs ts mid
          → Kept tokens i b ts mid (stands_all b item) (After (ends_all item) true) N
          (λ n. EachFrom (λ t. Spells (inside rules n) (item t)) f stage xs ts mid)
      items xs ts mid each = whole b (staged item f stage) e xs ts mid each
  added b (staged item f stage) e ts end more (xs, mid, each, inr d) =
      let last = stage_after f stage xs in
      added_next tokens i b ts mid end (stands_all b item) (stands b (item last))
      (stands_all b item) (ends_all item) true more N
      (λ n. EachFrom (λ t. Spells (inside rules n) (item t)) f stage xs ts mid)
      (λ n. Cut (inside rules n) (begun rules n) (item last) mid end)
      (λ n. Cut (inside rules n) (begun rules n) (staged item f stage) ts end)
      (λ c d k a. stands_each round b item last d (more_fits c d k a)) (λ c k. k)
      (whole b (staged item f stage) e xs ts mid each)
      (added b (item last) (stage_told round b item e last) mid end more d)
      (λ n y z. (xs, mid, y, inr z))
    where
      more_fits : (c d : Before) → has c (stands_all b item) ≡ true →
          After (ends_all item) true c d → has d (stands_all b item) ≡ true
      more_fits c d h (inl x) = all_subset round b item e d x
      more_fits c d h (inr (s, n)) = subst (λ z. has z (stands_all b item) ≡ true) (sym s) h
  added b (map_to f g) e ts end more d =
      added_weaker tokens i b ts end (stands b g) (stands b g) more N
      (λ n. Cut (inside rules n) (begun rules n) g ts end)
      (λ n. Cut (inside rules n) (begun rules n) (map_to f g) ts end) (λ c k. k)
      (added b g e ts end more d) (λ n z. z)

module _ (tokens : List Token) (i : ℕ) {R : Type 0} {Tree : R → Type 0}
    (rules : (r : R) → Grammar R Tree (Tree r)) (round : R → Bool)
    (sound : (r : R) → told round (round r) (rules r) ≡ true)
    (fit : (r : R) → (stands (round r) (rules r)).at_other ≡ true) where
  pub holds_added : (N : ℕ) (r : R) (ts end : List Token) (more : List ℕ) →
      holds tokens rules N r ts end more → AddedIn tokens i (round r) ts end more N
      (λ n. begun rules n r ts end)
  holds_added zero r ts end more s = absurd s
  holds_added (suc N) r ts end more s = λ m opened at ib.
      let u = added tokens i rules round N (inside_kept tokens i rules round sound fit N)
      (holds_added N) (round r) (rules r) (sound r) ts end more s m opened Other at ib
      (fit r) in (
        u.0,
        u.1,
        u.2,
        u.3,
        λ j a b.
            (let l : length (open_after tokens i j) ≤ length opened + N = u.4 j a b in omega arith),
        λ n few. go m u.0 opened at.1 u.1 u.5 n few,
      )
    where
      go : (m m' : ℕ) (opened : List ℕ) → open_after tokens i m ≡ opened → m ≤ m' →
          ((n : ℕ) → Few tokens i m m' (length opened + n) →
          Cut (inside rules n) (begun rules n) (rules r) ts end)
          → (n : ℕ) → FewIn tokens i m m' (length opened + n) → begun rules n r ts end
      go m m' opened e l h zero few =
          let k : length (open_after tokens i m) + 1 ≤ length opened + 0 = few m (omega arith) l in
          let s : length (open_after tokens i m) ≡ length opened = ap length e in
          absurd (omega arith)
      go m m' opened e l h (suc n) few =
          h n (λ j a b.
          let k : length (open_after tokens i j) + 1 ≤ length opened + suc n = few j a b in
          omega arith)
