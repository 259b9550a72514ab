-- What the reader's outcome says of places.
use Rattle.std.proofs.Common.{◌≡◌, ℕ, suc, ◌+◌, ◌-◌, ◌<◌, ◌≤◌, true, false, List, [], ◌∷◌, length}
use Rattle.std.proofs.Common.{drop, Result, Ok, Err, refl, ap, sym, ◌∙◌, subst, inl, inr, ◌⊎◌}
use Rattle.std.proofs.Common.{arith, length-drop}
use Rattle.std.proofs.lemmas.List.{drop-drop}
use Rattle.sql_lex.specs.declared.token.TokenKind.{TokenKind}
use Rattle.sql_lex.specs.declared.token.Token.{Token}
use Rattle.grammar_algebra.specs.Grammar.{Grammar, Spells, Cut, inside, begun, Opens}
use Rattle.grammar_algebra.specs.Reading.{Outcome, NoSpelling, TooDeep, begins, goes_on, nullable}
use Rattle.grammar_algebra.specs.Reading.{decides, reading}
use Rattle.grammar_algebra.specs.declared.fault.ParseError.{ParseError}
use Rattle.grammar_algebra.specs.declared.fault.ParseError.TheVariants as error
use Rattle.grammar_algebra.specs.Reads.{Reads}
use Rattle.grammar_algebra.specs.Exact.{IsSound, Gets, Reaches, DeepAt}
use Rattle.grammar_algebra.specs.Statement.{SpellsWithin, BeginsWithin, IsStuck, IsTooDeep, IsOne}
use Rattle.grammar_algebra.specs.Statement.{Answers, PartAnswers, place, at_places, answered}
use Rattle.grammar_algebra.proofs.After.{After, spells_after, inside_after, cut_after, begun_after}
use Rattle.grammar_algebra.proofs.Shapes.{whole_begins, least, spells_shorter, inside_shorter}
use Rattle.grammar_algebra.proofs.Sound.{sound}
use Rattle.grammar_algebra.proofs.Complete.{complete_in, content_complete}
use Rattle.grammar_algebra.proofs.Reach.{reach_in, content_reaches}
use Rattle.grammar_algebra.proofs.Depth.{deep}
use Rattle.grammar_algebra.proofs.Further.{complete_far, Far}

placed_at : (tokens : List Token) (i k : ℕ) (rest : List Token) → i ≤ length tokens →
    k ≤ length (drop i tokens) → rest ≡ drop (i + k) tokens
    → (rest ≡ drop (place tokens rest) tokens) × (i ≤ place tokens rest) ×
    (length rest ≤ length tokens)
placed_at tokens i k rest li lk e =
    let a : length rest ≡ length tokens - (i + k) = ap length e ∙ length-drop (i + k) tokens in
    let b : length (drop i tokens) ≡ length tokens - i = length-drop i tokens in
    let c : i + k ≡ place tokens rest = omega arith in
    (e ∙ ap (λ z. drop z tokens) c, omega arith, omega arith)

placed : (tokens : List Token) (i : ℕ) (rest : List Token) → i ≤ length tokens →
    After (drop i tokens) rest
    → (rest ≡ drop (place tokens rest) tokens) × (i ≤ place tokens rest) ×
    (length rest ≤ length tokens)
placed tokens i rest li (k, lk, e) = placed_at tokens i k rest li lk (e ∙ drop-drop k i tokens)

stops_none : (kinds : List TokenKind) (ts : List Token) → kinds ≡ [] → begins kinds ts ≡ false
stops_none kinds [] e = refl
stops_none kinds (t ∷ ts) e = ap (λ z. begins z (t ∷ ts)) e

module _ {R : Type 0} {Tree : R → Type 0} {A : Type 0} (rules : (r : R) → Grammar R Tree (Tree r))
    (n : ℕ) (g : Grammar R Tree A) (tokens : List Token) (i : ℕ) (li : i ≤ length tokens) where
  -- the outcome comes as far as anything that is begun
  abbrev ReachesAll : Outcome A → Type 0
  ReachesAll o = (m : ℕ) (end : List Token) →
      Cut (inside rules m) (begun rules m) g (drop i tokens) end → Reaches n m o end

  furthest_place : (rest : List Token) → ((m k : ℕ) → BeginsWithin rules m g tokens i k →
      (length rest ≤ length (drop k tokens)) ⊎ (n < m)) → length rest ≤ length tokens
      → (k : ℕ) → BeginsWithin rules n g tokens i k → k ≤ place tokens rest
  furthest_place rest r l k h = go h.1 (r n k h)
    where
      go : k ≤ length tokens → (length rest ≤ length (drop k tokens)) ⊎ (n < n) →
          k ≤ place tokens rest
      go hk (inl a) = let b = length-drop k tokens in omega arith
      go hk (inr a) = absurd (omega arith)

  -- where the outcome stands, a beginning ends, and no longer one stands
  stuck : (rest : List Token) → Cut (inside rules n) (begun rules n) g (drop i tokens) rest →
      ((m : ℕ) (end : List Token) → Cut (inside rules m) (begun rules m) g (drop i tokens) end →
      length rest ≤ length end)
      → IsStuck rules n g tokens i (place tokens rest)
  stuck rest s r =
      let q = placed tokens i rest li (cut_after (inside rules n) (inside_after rules n)
      (begun rules n) (begun_after rules n) g (drop i tokens) rest s) in (
        (
          (
            q.1,
            omega arith,
            subst (λ z. Cut (inside rules n) (begun rules n) g (drop i tokens) z)
                q.0 s,
          ),
          furthest_place rest (λ m k h. inl (r m (drop k tokens) h.2)) q.2,
        ),
        (λ f. let a : length rest ≤ length (drop (place tokens rest + 1) tokens) = r f.0 (drop (place tokens rest + 1) tokens) f.1.2 in
            let b = length-drop (place tokens rest + 1) tokens in let hk = f.1.1 in omega arith),
      )

  too_deep : (rest : List Token) → IsSound rules n g (drop i tokens) (Err (TooDeep rest)) →
      ReachesAll (Err (TooDeep rest)) → DeepAt {A = A} (Opens rules g) (Err (TooDeep rest)) →
      IsTooDeep rules n g tokens i (place tokens rest)
  too_deep rest s r d =
      let q = placed tokens i rest li (cut_after (inside rules n) (inside_after rules n)
      (begun rules n) (begun_after rules n) g (drop i tokens) rest s.0) in
      let u = placed tokens i s.2 li (cut_after (inside rules (suc n)) (inside_after rules (suc n))
      (begun rules (suc n)) (begun_after rules (suc n)) g (drop i tokens) s.2 s.4) in
      let lr : length rest ≡ suc (length s.2) = ap length s.3 in
      let pl : place tokens s.2 ≡ place tokens rest + 1 = omega arith in (
        (
          (
            q.1,
            omega arith,
            subst (λ z. Cut (inside rules n) (begun rules n) g (drop i tokens) z)
                q.0 s.0,
          ),
          furthest_place rest (λ m k h. r m (drop k tokens) h.2) q.2,
        ),
        (
          omega arith,
          omega arith,
          subst (λ z. Cut (inside rules (suc n)) (begun rules (suc n)) g
              (drop i tokens) z) (u.0 ∙ ap (λ z. drop z tokens) pl) s.4,
        ),
        (d.0, d.1, sym q.0 ∙ d.2, d.3),
      )

  spelled_to : (x : A) (rest : List Token) → Spells (inside rules n) g x (drop i tokens) rest →
      SpellsWithin rules n g tokens i x (place tokens rest)
  spelled_to x rest s =
      let q = placed tokens i rest li (spells_after (inside rules n) (inside_after rules n) g x
      (drop i tokens) rest s) in
      (q.1, omega arith, subst (λ z. Spells (inside rules n) g x (drop i tokens) z) q.0 s)

  -- the tokens left after a place, and the place again
  back : (rest : List Token) → Cut (inside rules n) (begun rules n) g (drop i tokens) rest →
      (x : A) → SpellsWithin rules n g tokens i x (place tokens rest)
      → Spells (inside rules n) g x (drop i tokens) rest
  back rest c x h =
      let q = placed tokens i rest li (cut_after (inside rules n) (inside_after rules n)
      (begun rules n) (begun_after rules n) g (drop i tokens) rest c) in
      subst (λ z. Spells (inside rules n) g x (drop i tokens) z) (sym q.0) h.2

  answers : (o : Outcome A) → IsSound rules n g (drop i tokens) o → ReachesAll o →
      DeepAt (Opens rules g) o
      → ((x : A) (rest : List Token) → Spells (inside rules n) g x (drop i tokens) rest →
      Gets n n o x rest)
      → Answers rules n g tokens i (at_places tokens o)
  answers (Ok p) s r d c = (
    spelled_to p.0 p.1 s,
    λ x j h. let w = c x (drop j tokens) h.2 in
        let l : length p.1 ≡ length tokens - j = ap length w.1 ∙ length-drop j tokens in
        let hj = h.1 in (w.0, omega arith),
  )
  answers (Err (NoSpelling rest)) s r d c = (stuck rest s r, λ x j h. c x (drop j tokens) h.2)
  answers (Err (TooDeep rest)) s r d c = (
    too_deep rest s r d,
    λ x j h.
        let a : n < n = c x (drop j tokens) h.2 in omega arith,
  )

  part_answers : (o : Outcome A) → IsSound rules n g (drop i tokens) o → ReachesAll o →
      DeepAt (Opens rules g) o
      → ((x : A) (rest : List Token) → Spells (inside rules n) g x (drop i tokens) rest →
      Far rules n g (drop i tokens) rest → Gets n n o x rest)
      → PartAnswers rules n g tokens i (at_places tokens o)
  part_answers (Ok p) s r d c =
      let whole = whole_begins (inside rules n) (begun rules n) g p.0 (drop i tokens) p.1 s in (
        stuck p.1 whole r,
        spelled_to p.0 p.1 s,
        λ x h.
            (c x p.1 (back p.1 whole x h) (λ end cut. r (suc n) end cut)).0,
      )
  part_answers (Err (NoSpelling rest)) s r d c =
      (stuck rest s r, λ x h. c x rest (back rest s x h) (λ end cut. r (suc n) end cut))
  part_answers (Err (TooDeep rest)) s r d c = too_deep rest s r d

module _ {R : Type 0} {Tree : R → Type 0} {A : Type 0} (rules : (r : R) → Grammar R Tree (Tree r))
    (all : (r : R) → decides rules (rules r) ≡ true) where
  -- of a grammar with an end of its own
  pub reading_answers : (n : ℕ) (g : Grammar R Tree A) → decides rules g ≡ true → goes_on g ≡ [] →
      (tokens : List Token) (i : ℕ) → i ≤ length tokens
      → Answers rules n g tokens i (at_places tokens (reading rules n g (drop i tokens)))
  reading_answers n g d e tokens i li = answers rules n g tokens i li
      (reading rules n g (drop i tokens)) (sound rules n g (drop i tokens))
      (λ m end cut. reach_in rules n m (content_complete rules all n m)
      (content_reaches rules all n m) g d (drop i tokens) end cut)
      (deep rules n g (drop i tokens))
      (λ x rest s. complete_in rules n n (content_complete rules all n n) g d x (drop i tokens) rest
      s (stops_none (goes_on g) rest e))

  -- of a part
  pub reading_part_answers : (n : ℕ) (g : Grammar R Tree A) → decides rules g ≡ true →
      (tokens : List Token) (i : ℕ) → i ≤ length tokens
      → PartAnswers rules n g tokens i (at_places tokens (reading rules n g (drop i tokens)))
  reading_part_answers n g d tokens i li = part_answers rules n g tokens i li
      (reading rules n g (drop i tokens)) (sound rules n g (drop i tokens))
      (λ m end cut. reach_in rules n m (content_complete rules all n m)
      (content_reaches rules all n m) g d (drop i tokens) end cut)
      (deep rules n g (drop i tokens))
      (λ x rest s far. complete_far rules n n (content_complete rules all n n) g d x
      (drop i tokens) rest s far)

-- ---- what is spelled by a token at least ends at a later place

pub goes_further : {R : Type 0} {Tree : R → Type 0} {A : Type 0}
    (rules : (r : R) → Grammar R Tree (Tree r)) (n : ℕ) (g : Grammar R Tree A) → nullable g ≡ false
    → (tokens : List Token) (i : ℕ) (tree : A) (j : ℕ) → SpellsWithin rules n g tokens i tree j →
    i < j
goes_further rules n g e tokens i tree j s =
    let a = spells_shorter (inside rules n) (inside_shorter rules n) g tree (drop i tokens)
    (drop j tokens) s.2 in
    let b : least (nullable g) ≡ 1 = ap least e in
    let c = length-drop i tokens in
    let d = length-drop j tokens in
    let e : j ≤ length tokens = s.1 in
    omega arith

-- ---- at most one tree and one end

one_of : {R : Type 0} {Tree : R → Type 0} {A : Type 0} (rules : (r : R) → Grammar R Tree (Tree r))
    (n : ℕ) (g : Grammar R Tree A) (tokens : List Token) (i : ℕ) (o : Outcome A)
    → Answers rules n g tokens i (at_places tokens o) → IsOne rules n g tokens i
one_of rules n g tokens i (Ok p) a x j y k s t = let u = a.1 x j s in let v = a.1 y k t in
    (sym u.0 ∙ v.0, sym u.1 ∙ v.1)
one_of rules n g tokens i (Err (NoSpelling rest)) a x j y k s t = absurd (a.1 x j s)
one_of rules n g tokens i (Err (TooDeep rest)) a x j y k s t = absurd (a.1 x j s)

pub one_spelling : {R : Type 0} {Tree : R → Type 0} {A : Type 0}
    (rules : (r : R) → Grammar R Tree (Tree r)) → ((r : R) → decides rules (rules r) ≡ true)
    → (n : ℕ) (g : Grammar R Tree A) → decides rules g ≡ true → goes_on g ≡ [] →
    (tokens : List Token) (i : ℕ) → i ≤ length tokens → IsOne rules n g tokens i
one_spelling rules all n g d e tokens i li = one_of rules n g tokens i
    (reading rules n g (drop i tokens)) (reading_answers rules all n g d e tokens i li)

-- ---- of a parser that reads as the reader does

module _ {R : Type 0} {Tree : R → Type 0} {A : Type 0} (rules : (r : R) → Grammar R Tree (Tree r))
    (n : ℕ) (g : Grammar R Tree A) (tokens : List Token) (i : ℕ) where
  read_answers : (o : Outcome A) → Answers rules n g tokens i (at_places tokens o) →
      (r : Result A ParseError) (rest : List Token) → Reads o r rest
      → Answers rules n g tokens i (answered r (place tokens rest))
  read_answers o a (Ok x) rest e = subst (λ z. Answers rules n g tokens i (at_places tokens z)) e a
  read_answers o a (Err error.NoMemory) rest e = tt
  read_answers o a (Err error.NoStatement) rest e =
      subst (λ z. Answers rules n g tokens i (at_places tokens z)) e a
  read_answers o a (Err error.TooDeep) rest e =
      subst (λ z. Answers rules n g tokens i (at_places tokens z)) e a

  read_part_answers : (o : Outcome A) → PartAnswers rules n g tokens i (at_places tokens o) →
      (r : Result A ParseError) (rest : List Token) → Reads o r rest
      → PartAnswers rules n g tokens i (answered r (place tokens rest))
  read_part_answers o a (Ok x) rest e = subst
      (λ z. PartAnswers rules n g tokens i (at_places tokens z)) e a
  read_part_answers o a (Err error.NoMemory) rest e = tt
  read_part_answers o a (Err error.NoStatement) rest e =
      subst (λ z. PartAnswers rules n g tokens i (at_places tokens z)) e a
  read_part_answers o a (Err error.TooDeep) rest e =
      subst (λ z. PartAnswers rules n g tokens i (at_places tokens z)) e a

module _ {R : Type 0} {Tree : R → Type 0} {A : Type 0} (rules : (r : R) → Grammar R Tree (Tree r))
    (all : (r : R) → decides rules (rules r) ≡ true) where
  -- of a grammar with an end of its own: ts are the tokens from i on, and k is the place where the
  -- input stands afterwards
  pub parsed : (n : ℕ) (g : Grammar R Tree A) → decides rules g ≡ true → goes_on g ≡ [] →
      (tokens : List Token) (i : ℕ) → i ≤ length tokens
      → (ts : List Token) → ts ≡ drop i tokens → (r : Result A ParseError) (rest : List Token) →
      Reads (reading rules n g ts) r rest
      → (k : ℕ) → k ≡ place tokens rest → Answers rules n g tokens i (answered r k)
  parsed n g d e tokens i li ts et r rest reads k ek =
      subst (λ z. Answers rules n g tokens i (answered r z)) (sym ek)
      (read_answers rules n g tokens i (reading rules n g (drop i tokens))
      (reading_answers rules all n g d e tokens i li) r rest
      (subst (λ z. Reads (reading rules n g z) r rest) et reads))

  -- of a part
  pub parsed_part : (n : ℕ) (g : Grammar R Tree A) → decides rules g ≡ true →
      (tokens : List Token) (i : ℕ) → i ≤ length tokens
      → (ts : List Token) → ts ≡ drop i tokens → (r : Result A ParseError) (rest : List Token) →
      Reads (reading rules n g ts) r rest
      → (k : ℕ) → k ≡ place tokens rest → PartAnswers rules n g tokens i (answered r k)
  parsed_part n g d tokens i li ts et r rest reads k ek =
      subst (λ z. PartAnswers rules n g tokens i (answered r z)) (sym ek)
      (read_part_answers rules n g tokens i (reading rules n g (drop i tokens))
      (reading_part_answers rules all n g d tokens i li) r rest
      (subst (λ z. Reads (reading rules n g z) r rest) et reads))
