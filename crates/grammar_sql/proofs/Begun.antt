-- Each beginning has some constructs open, at most as many as may be, and what has some open is a
-- beginning.
use Rattle.std.proofs.Common.{◌≡◌, ℕ, zero, suc, ◌+◌, ◌≤◌, List, [], ◌∷◌, ◌++◌, length, drop, refl}
use Rattle.std.proofs.Common.{ap, ◌∙◌, inl, inr, arith, length-append}
use Rattle.sql_lex.specs.declared.token.Token.{Token}
use Rattle.grammar_algebra.specs.Grammar.{Grammar, token, nested, both, either, optional, many}
use Rattle.grammar_algebra.specs.Grammar.{staged, map_to, Inner, Begun, stage_after, Cut, inside}
use Rattle.grammar_algebra.specs.Grammar.{begun}
use Rattle.grammar_algebra.specs.Statement.{BeginsWithin, place}
use Rattle.grammar_sql.specs.Constructs.{Held, HasOpen, holds, HasOpenAt}

-- ---- each beginning has some constructs open, at most as many as may be

none_open : (n : ℕ) (opened : List ℕ) → opened ≡ [] → length opened ≤ n
none_open n opened e = let a : length opened ≡ 0 = ap length e in omega arith

module _ {R : Type 0} {Tree : R → Type 0} (all : List Token) (inner : Inner R Tree) (beg : Begun R)
    (held : Held R) where
  abbrev SomeOpen : {A : Type 0} → Grammar R Tree A → List Token → List Token → Type 0
  SomeOpen g ts end = (opened : List ℕ) × HasOpen all inner held g ts end opened

  some_open : ((r : R) (ts end : List Token) → beg r ts end → (opened : List ℕ) ×
      held r ts end opened)
      → {A : Type 0} (g : Grammar R Tree A) (ts end : List Token) → Cut inner beg g ts end →
      SomeOpen g ts end
  some_open h (token kind) ts end (inl e) = ([], (refl, inl e))
  some_open h (token kind) ts end (inr p) = ([], (refl, inr p))
  some_open h (nested o r c) ts end (inl e) = ([], inl (refl, e))
  some_open h (nested o r c) ts end (inr (first, p, inl d)) = let w = h r first end d in
      (w.0 ++ place all ts ∷ [], inr (first, p, inl (w.0, refl, w.1)))
  some_open h (nested o r c) ts end (inr (first, p, inr (x, last, s, q))) =
      ([], inr (first, p, inr (refl, x, last, s, q)))
  some_open h (both g k) ts end (inl d) = let w = some_open h g ts end d in (w.0, inl w.1)
  some_open h (both g k) ts end (inr (x, next, s, d)) = let w = some_open h k next end d in
      (w.0, inr (x, next, s, w.1))
  some_open h (either g k) ts end (inl d) = let w = some_open h g ts end d in (w.0, inl w.1)
  some_open h (either g k) ts end (inr d) = let w = some_open h k ts end d in (w.0, inr w.1)
  some_open h (optional g) ts end (inl e) = ([], inl (refl, e))
  some_open h (optional g) ts end (inr d) = let w = some_open h g ts end d in (w.0, inr w.1)
  some_open h (many g) ts end (xs, next, each, inl e) = ([], (xs, next, each, inl (refl, e)))
  some_open h (many g) ts end (xs, next, each, inr d) = let w = some_open h g next end d in
      (w.0, (xs, next, each, inr w.1))
  some_open h (staged item f stage) ts end (xs, next, each, inl e) =
      ([], (xs, next, each, inl (refl, e)))
  some_open h (staged item f stage) ts end (xs, next, each, inr d) =
      let w = some_open h (item (stage_after f stage xs)) next end d in
      (w.0, (xs, next, each, inr w.1))
  some_open h (map_to f g) ts end d = some_open h g ts end d

  begins : ((r : R) (ts end : List Token) (opened : List ℕ) → held r ts end opened → beg r ts end)
      → {A : Type 0} (g : Grammar R Tree A) (ts end : List Token) (opened : List ℕ) →
      HasOpen all inner held g ts end opened → Cut inner beg g ts end
  begins h (token kind) ts end opened (n, d) = d
  begins h (nested o r c) ts end opened (inl (n, e)) = inl e
  begins h (nested o r c) ts end opened (inr (first, p, inl (here, e, d))) =
      inr (first, p, inl (h r first end here d))
  begins h (nested o r c) ts end opened (inr (first, p, inr (n, x, last, s, q))) =
      inr (first, p, inr (x, last, s, q))
  begins h (both g k) ts end opened (inl d) = inl (begins h g ts end opened d)
  begins h (both g k) ts end opened (inr (x, next, s, d)) =
      inr (x, next, s, begins h k next end opened d)
  begins h (either g k) ts end opened (inl d) = inl (begins h g ts end opened d)
  begins h (either g k) ts end opened (inr d) = inr (begins h k ts end opened d)
  begins h (optional g) ts end opened (inl (n, e)) = inl e
  begins h (optional g) ts end opened (inr d) = inr (begins h g ts end opened d)
  begins h (many g) ts end opened (xs, next, each, inl (n, e)) = (xs, next, each, inl e)
  begins h (many g) ts end opened (xs, next, each, inr d) =
      (xs, next, each, inr (begins h g next end opened d))
  begins h (staged item f stage) ts end opened (xs, next, each, inl (n, e)) =
      (xs, next, each, inl e)
  begins h (staged item f stage) ts end opened (xs, next, each, inr d) =
      (xs, next, each, inr (begins h (item (stage_after f stage xs)) next end opened d))
  begins h (map_to f g) ts end opened d = begins h g ts end opened d

  at_most : (n : ℕ) → ((r : R) (ts end : List Token) (opened : List ℕ) → held r ts end opened →
      length opened + 1 ≤ n)
      → {A : Type 0} (g : Grammar R Tree A) (ts end : List Token) (opened : List ℕ) →
      HasOpen all inner held g ts end opened → length opened ≤ n
  at_most n h (token kind) ts end opened (e, d) = none_open n opened e
  at_most n h (nested o r c) ts end opened (inl (e, d)) = none_open n opened e
  at_most n h (nested o r c) ts end opened (inr (first, p, inl (here, e, d))) =
      let a : length opened ≡ length here + 1 = ap length e ∙
      length-append here (place all ts ∷ []) in let b = h r first end here d in omega arith
  at_most n h (nested o r c) ts end opened (inr (first, p, inr (e, x, last, d, q))) =
      none_open n opened e
  at_most n h (both g k) ts end opened (inl d) = at_most n h g ts end opened d
  at_most n h (both g k) ts end opened (inr (x, next, s, d)) = at_most n h k next end opened d
  at_most n h (either g k) ts end opened (inl d) = at_most n h g ts end opened d
  at_most n h (either g k) ts end opened (inr d) = at_most n h k ts end opened d
  at_most n h (optional g) ts end opened (inl (e, d)) = none_open n opened e
  at_most n h (optional g) ts end opened (inr d) = at_most n h g ts end opened d
  at_most n h (many g) ts end opened (xs, next, each, inl (e, d)) = none_open n opened e
  at_most n h (many g) ts end opened (xs, next, each, inr d) = at_most n h g next end opened d
  at_most n h (staged item f stage) ts end opened (xs, next, each, inl (e, d)) =
      none_open n opened e
  at_most n h (staged item f stage) ts end opened (xs, next, each, inr d) =
      at_most n h (item (stage_after f stage xs)) next end opened d
  at_most n h (map_to f g) ts end opened d = at_most n h g ts end opened d

module _ {R : Type 0} {Tree : R → Type 0} (all : List Token)
    (rules : (r : R) → Grammar R Tree (Tree r)) where
  begun_holds : (n : ℕ) (r : R) (ts end : List Token) → begun rules n r ts end → (opened : List ℕ) ×
      holds all rules n r ts end opened
  begun_holds zero r ts end d = absurd d
  begun_holds (suc n) r ts end d = some_open all (inside rules n) (begun rules n)
      (holds all rules n) (begun_holds n) (rules r) ts end d

  holds_begun : (n : ℕ) (r : R) (ts end : List Token) (opened : List ℕ) →
      holds all rules n r ts end opened → begun rules n r ts end
  holds_begun zero r ts end opened d = absurd d
  holds_begun (suc n) r ts end opened d = begins all (inside rules n) (begun rules n)
      (holds all rules n) (holds_begun n) (rules r) ts end opened d

  holds_few : (n : ℕ) (r : R) (ts end : List Token) (opened : List ℕ) →
      holds all rules n r ts end opened → length opened + 1 ≤ n
  holds_few zero r ts end opened d = absurd d
  holds_few (suc n) r ts end opened d =
      let a : length opened ≤ n = at_most all (inside rules n) (begun rules n) (holds all rules n) n
      (holds_few n) (rules r) ts end opened d in omega arith

module _ {R : Type 0} {Tree : R → Type 0} {A : Type 0} (rules : (r : R) → Grammar R Tree (Tree r))
    (n : ℕ) (g : Grammar R Tree A) (tokens : List Token) (i k : ℕ) where
  pub has_some : BeginsWithin rules n g tokens i k → (opened : List ℕ) ×
      HasOpenAt rules n g tokens i k opened
  has_some (l, m, d) =
      let w = some_open tokens (inside rules n) (begun rules n) (holds tokens rules n)
      (begun_holds tokens rules n) g (drop i tokens) (drop k tokens) d in (w.0, (l, m, w.1))

  pub is_begun : (opened : List ℕ) → HasOpenAt rules n g tokens i k opened →
      BeginsWithin rules n g tokens i k
  is_begun opened (l, m, d) = (
    l,
    m,
    begins tokens (inside rules n) (begun rules n)
        (holds tokens rules n) (holds_begun tokens rules n) g (drop i tokens) (drop k tokens) opened
        d,
  )

  pub no_more : (opened : List ℕ) → HasOpenAt rules n g tokens i k opened → length opened ≤ n
  no_more opened (l, m, d) = at_most tokens (inside rules n) (begun rules n) (holds tokens rules n)
      n (holds_few tokens rules n) g (drop i tokens) (drop k tokens) opened d
