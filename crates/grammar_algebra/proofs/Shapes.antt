-- What holds of all spellings and beginnings.
use Rattle.std.proofs.Common.{◌≡◌, ℕ, zero, suc, ◌+◌, ◌≤◌, Bool, true, false, ◌&&◌, ◌||◌, cond}
use Rattle.std.proofs.Common.{List, [], ◌∷◌, ◌++◌, length, Some, None, refl, ap, sym, ◌∙◌, subst}
use Rattle.std.proofs.Common.{inl, inr, ◌⊎◌, arith}
use Rattle.sql_lex.specs.declared.token.TokenKind.{TokenKind}
use Rattle.sql_lex.specs.declared.token.Token.{Token}
use Rattle.grammar_algebra.specs.declared.stage.Stage.{Stage}
use Rattle.grammar_algebra.specs.Grammar.{Grammar, token, nested, both, either, optional, many}
use Rattle.grammar_algebra.specs.Grammar.{staged, map_to, Inner, Begun, Takes, Passes, Each}
use Rattle.grammar_algebra.specs.Grammar.{EachFrom, stage_after, Spells, Cut, inside, begun}
use Rattle.grammar_algebra.specs.Reading.{nullable, first, begins, at_stages}
use Rattle.grammar_algebra.proofs.Ahead.{takes_begins, passes_begins, begins_left, begins_right}
use Rattle.grammar_algebra.proofs.Ahead.{some_stage}

-- ---- a whole is a beginning, and so is nothing

pub nothing_begins : {R : Type 0} {Tree : R → Type 0} {A : Type 0} (inner : Inner R Tree)
    (beg : Begun R) (g : Grammar R Tree A) (ts : List Token) → Cut inner beg g ts ts
nothing_begins inner beg (token kind) ts = inl refl
nothing_begins inner beg (nested o r c) ts = inl refl
nothing_begins inner beg (both g h) ts = inl (nothing_begins inner beg g ts)
nothing_begins inner beg (either g h) ts = inl (nothing_begins inner beg g ts)
nothing_begins inner beg (optional g) ts = inl refl
nothing_begins inner beg (many g) ts = ([], ts, refl, inl refl)
nothing_begins inner beg (staged item next stage) ts = ([], ts, refl, inl refl)
nothing_begins inner beg (map_to f g) ts = nothing_begins inner beg g ts

pub whole_begins : {R : Type 0} {Tree : R → Type 0} {A : Type 0} (inner : Inner R Tree)
    (beg : Begun R) (g : Grammar R Tree A) (x : A) (ts rest : List Token)
    → Spells inner g x ts rest → Cut inner beg g ts rest
whole_begins inner beg (token kind) x ts rest s = inr (x, s)
whole_begins inner beg (nested o r c) x ts rest s = inr (s.0, (x.0, s.2), inr (x.1, s.1, s.3, s.4))
whole_begins inner beg (both g h) x ts rest s =
    inr (x.0, s.0, s.1, whole_begins inner beg h x.1 s.0 rest s.2)
whole_begins inner beg (either g h) x ts rest (inl s) = inl (whole_begins inner beg g x ts rest s)
whole_begins inner beg (either g h) x ts rest (inr s) = inr (whole_begins inner beg h x ts rest s)
whole_begins inner beg (optional g) None ts rest s = inl s
whole_begins inner beg (optional g) (Some x) ts rest s = inr (whole_begins inner beg g x ts rest s)
whole_begins inner beg (many g) xs ts rest s = (xs, rest, s, inl refl)
whole_begins inner beg (staged item next stage) xs ts rest s = (xs, rest, s, inl refl)
whole_begins inner beg (map_to f g) y ts rest s = whole_begins inner beg g s.0 ts rest s.2

-- ---- more room

each_grows : {A : Type 0} (S S' : A → List Token → List Token → Type 0) →
    ((x : A) (ts rest : List Token) → S x ts rest → S' x ts rest)
    → (xs : List A) (ts rest : List Token) → Each S xs ts rest → Each S' xs ts rest
each_grows S S' more [] ts rest e = e
each_grows S S' more (x ∷ xs) ts rest (next, s, each) =
    (next, more x ts next s, each_grows S S' more xs next rest each)

each_from_grows : {A : Type 0} (S S' : Stage → A → List Token → List Token → Type 0)
    (f : Stage → A → Stage)
    → ((stage : Stage) (x : A) (ts rest : List Token) → S stage x ts rest → S' stage x ts rest)
    → (stage : Stage) (xs : List A) (ts rest : List Token) → EachFrom S f stage xs ts rest →
    EachFrom S' f stage xs ts rest
each_from_grows S S' f more stage [] ts rest e = e
each_from_grows S S' f more stage (x ∷ xs) ts rest (next, s, each) =
    (next, more stage x ts next s, each_from_grows S S' f more (f stage x) xs next rest each)

pub spells_grows : {R : Type 0} {Tree : R → Type 0} {A : Type 0} (inner inner' : Inner R Tree)
    → ((r : R) (x : Tree r) (ts rest : List Token) → inner r x ts rest → inner' r x ts rest)
    → (g : Grammar R Tree A) (x : A) (ts rest : List Token) → Spells inner g x ts rest →
    Spells inner' g x ts rest
spells_grows inner inner' more (token kind) x ts rest s = s
spells_grows inner inner' more (nested o r c) x ts rest s =
    (s.0, s.1, s.2, more r x.1 s.0 s.1 s.3, s.4)
spells_grows inner inner' more (both g h) x ts rest s = (
  s.0,
  spells_grows inner inner' more g x.0 ts s.0 s.1,
  spells_grows inner inner' more h x.1 s.0
      rest s.2,
)
spells_grows inner inner' more (either g h) x ts rest (inl s) =
    inl (spells_grows inner inner' more g x ts rest s)
spells_grows inner inner' more (either g h) x ts rest (inr s) =
    inr (spells_grows inner inner' more h x ts rest s)
spells_grows inner inner' more (optional g) None ts rest s = s
spells_grows inner inner' more (optional g) (Some x) ts rest s =
    spells_grows inner inner' more g x ts rest s
spells_grows inner inner' more (many g) xs ts rest s =
    each_grows (Spells inner g) (Spells inner' g) (spells_grows inner inner' more g) xs ts rest s
spells_grows inner inner' more (staged item next stage) xs ts rest s =
    each_from_grows (λ t. Spells inner (item t)) (λ t. Spells inner' (item t)) next
    (λ t. spells_grows inner inner' more (item t)) stage xs ts rest s
spells_grows inner inner' more (map_to f g) y ts rest s =
    (s.0, s.1, spells_grows inner inner' more g s.0 ts rest s.2)

pub inside_grows : {R : Type 0} {Tree : R → Type 0} (rules : (r : R) → Grammar R Tree (Tree r))
    (n : ℕ) (r : R) (x : Tree r) (ts rest : List Token)
    → inside rules n r x ts rest → inside rules (suc n) r x ts rest
inside_grows rules zero r x ts rest s = absurd s
inside_grows rules (suc n) r x ts rest s = spells_grows (inside rules n) (inside rules (suc n))
    (inside_grows rules n) (rules r) x ts rest s

-- ---- how much is taken

abbrev pub least : Bool → ℕ
least b = cond b 0 1

takes_shorter : (kind : TokenKind) (t : Token) (ts rest : List Token) → Takes kind t ts rest →
    length rest + 1 ≤ length ts
takes_shorter kind t ts rest (k, e) = let l : length ts ≡ suc (length rest) = ap length e in
    omega arith

passes_shorter : (kind : TokenKind) (ts rest : List Token) → Passes kind ts rest →
    length rest + 1 ≤ length ts
passes_shorter kind ts rest (t, p) = takes_shorter kind t ts rest p

least_both : (a b : Bool) → least (a && b) ≤ least a + least b
least_both true b = omega arith
least_both false b = omega arith

least_either : (a b : Bool) → (least (a || b) ≤ least a) × (least (a || b) ≤ least b)
least_either true true = (omega arith, omega arith)
least_either true false = (omega arith, omega arith)
least_either false b = (go b, omega arith)
  where
    go : (b : Bool) → least b ≤ 1
    go true = omega arith
    go false = omega arith

each_shorter : {A : Type 0} (S : A → List Token → List Token → Type 0) →
    ((x : A) (ts rest : List Token) → S x ts rest → length rest ≤ length ts)
    → (xs : List A) (ts rest : List Token) → Each S xs ts rest → length rest ≤ length ts
each_shorter S shorter [] ts rest e = let l : length ts ≡ length rest = ap length e in omega arith
each_shorter S shorter (x ∷ xs) ts rest (next, s, each) =
    let a : length next ≤ length ts = shorter x ts next s in
    let b : length rest ≤ length next = each_shorter S shorter xs next rest each in omega arith

each_from_shorter : {A : Type 0} (S : Stage → A → List Token → List Token → Type 0)
    (f : Stage → A → Stage)
    → ((stage : Stage) (x : A) (ts rest : List Token) → S stage x ts rest → length rest ≤ length ts)
    → (stage : Stage) (xs : List A) (ts rest : List Token) → EachFrom S f stage xs ts rest →
    length rest ≤ length ts
each_from_shorter S f shorter stage [] ts rest e = let l : length ts ≡ length rest = ap length e in
    omega arith
each_from_shorter S f shorter stage (x ∷ xs) ts rest (next, s, each) =
    let a : length next ≤ length ts = shorter stage x ts next s in
    let b : length rest ≤ length next = each_from_shorter S f shorter (f stage x) xs next rest each
    in omega arith

abbrev pub Shortens : {R : Type 0} {Tree : R → Type 0} → Inner R Tree → Type 0
Shortens {R = R} {Tree = Tree} inner = (r : R) (x : Tree r) (ts rest : List Token) →
    inner r x ts rest → length rest ≤ length ts

pub spells_shorter : {R : Type 0} {Tree : R → Type 0} {A : Type 0} (inner : Inner R Tree) →
    Shortens inner
    → (g : Grammar R Tree A) (x : A) (ts rest : List Token) → Spells inner g x ts rest →
    length rest + least (nullable g) ≤ length ts
spells_shorter inner short (token kind) x ts rest s = takes_shorter kind x ts rest s
spells_shorter inner short (nested o r c) x ts rest s =
    let a = takes_shorter o x.0 ts s.0 s.2 in let b = short r x.1 s.0 s.1 s.3 in
    let c' = passes_shorter c s.1 rest s.4 in omega arith
spells_shorter inner short (both g h) x ts rest s =
    let a = spells_shorter inner short g x.0 ts s.0 s.1 in
    let b = spells_shorter inner short h x.1 s.0 rest s.2 in
    let c = least_both (nullable g) (nullable h) in omega arith
spells_shorter inner short (either g h) x ts rest (inl s) =
    let a = spells_shorter inner short g x ts rest s in
    let c = least_either (nullable g) (nullable h) in omega arith
spells_shorter inner short (either g h) x ts rest (inr s) =
    let a = spells_shorter inner short h x ts rest s in
    let c = least_either (nullable g) (nullable h) in omega arith
spells_shorter inner short (optional g) None ts rest s =
    let l : length ts ≡ length rest = ap length s in omega arith
spells_shorter inner short (optional g) (Some x) ts rest s =
    let a = spells_shorter inner short g x ts rest s in omega arith
spells_shorter inner short (many g) xs ts rest s =
    let a = each_shorter (Spells inner g) (λ x ts rest s.
    let b = spells_shorter inner short g x ts rest s in omega arith) xs ts rest s in
    omega arith
spells_shorter inner short (staged item next stage) xs ts rest s =
    let a = each_from_shorter (λ t. Spells inner (item t)) next
    (λ t x ts rest s. let b = spells_shorter inner short (item t) x ts rest s in omega arith)
    stage xs ts rest s in
    omega arith
spells_shorter inner short (map_to f g) y ts rest s = spells_shorter inner short g s.0 ts rest s.2

pub inside_shorter : {R : Type 0} {Tree : R → Type 0} (rules : (r : R) → Grammar R Tree (Tree r))
    (n : ℕ) → Shortens (inside rules n)
inside_shorter rules zero r x ts rest s = absurd s
inside_shorter rules (suc n) r x ts rest s =
    let a = spells_shorter (inside rules n) (inside_shorter rules n) (rules r) x ts rest s in
    omega arith

abbrev pub BegunShortens : {R : Type 0} → Begun R → Type 0
BegunShortens {R = R} beg = (r : R) (ts end : List Token) → beg r ts end → length end ≤ length ts

same_length : (ts end : List Token) → ts ≡ end → length end ≤ length ts
same_length ts end e = let l : length ts ≡ length end = ap length e in omega arith

pub cut_shorter : {R : Type 0} {Tree : R → Type 0} {A : Type 0} (inner : Inner R Tree) →
    Shortens inner → (beg : Begun R) → BegunShortens beg
    → (g : Grammar R Tree A) (ts end : List Token) → Cut inner beg g ts end → length end ≤ length ts
cut_shorter inner short beg bshort (token kind) ts end (inl e) = same_length ts end e
cut_shorter inner short beg bshort (token kind) ts end (inr t) =
    let a = passes_shorter kind ts end t in omega arith
cut_shorter inner short beg bshort (nested o r c) ts end (inl e) = same_length ts end e
cut_shorter inner short beg bshort (nested o r c) ts end (inr (first, t, inl b)) =
    let a = passes_shorter o ts first t in let d = bshort r first end b in omega arith
cut_shorter inner short beg bshort (nested o r c) ts end (inr (first, t, inr (x, last, s, t'))) =
    let a = passes_shorter o ts first t in let d = short r x first last s in
    let e = passes_shorter c last end t' in omega arith
cut_shorter inner short beg bshort (both g h) ts end (inl c) =
    cut_shorter inner short beg bshort g ts end c
cut_shorter inner short beg bshort (both g h) ts end (inr (x, next, s, c)) =
    let a = spells_shorter inner short g x ts next s in
    let b = cut_shorter inner short beg bshort h next end c in omega arith
cut_shorter inner short beg bshort (either g h) ts end (inl c) =
    cut_shorter inner short beg bshort g ts end c
cut_shorter inner short beg bshort (either g h) ts end (inr c) =
    cut_shorter inner short beg bshort h ts end c
cut_shorter inner short beg bshort (optional g) ts end (inl e) = same_length ts end e
cut_shorter inner short beg bshort (optional g) ts end (inr c) =
    cut_shorter inner short beg bshort g ts end c
cut_shorter inner short beg bshort (many g) ts end (xs, next, each, inl e) =
    let a = each_shorter (Spells inner g) (λ x ts rest s.
    let b = spells_shorter inner short g x ts rest s in omega arith) xs ts next each in
    let b = same_length next end e in omega arith
cut_shorter inner short beg bshort (many g) ts end (xs, next, each, inr c) =
    let a = each_shorter (Spells inner g) (λ x ts rest s.
    let b = spells_shorter inner short g x ts rest s in omega arith) xs ts next each in
    let b = cut_shorter inner short beg bshort g next end c in omega arith
cut_shorter inner short beg bshort (staged item f stage) ts end (xs, next, each, inl e) =
    let a = each_from_shorter (λ t. Spells inner (item t)) f
    (λ t x ts rest s. let b = spells_shorter inner short (item t) x ts rest s in omega arith)
    stage xs ts next each in
    let b = same_length next end e in omega arith
cut_shorter inner short beg bshort (staged item f stage) ts end (xs, next, each, inr c) =
    let a = each_from_shorter (λ t. Spells inner (item t)) f
    (λ t x ts rest s. let b = spells_shorter inner short (item t) x ts rest s in omega arith)
    stage xs ts next each in
    let b = cut_shorter inner short beg bshort (item (stage_after f stage xs)) next end c in
    omega arith
cut_shorter inner short beg bshort (map_to f g) ts end c =
    cut_shorter inner short beg bshort g ts end c

pub begun_shorter : {R : Type 0} {Tree : R → Type 0} (rules : (r : R) → Grammar R Tree (Tree r))
    (n : ℕ) → BegunShortens (begun rules n)
begun_shorter rules zero r ts end c = absurd c
begun_shorter rules (suc n) r ts end c = cut_shorter (inside rules n) (inside_shorter rules n)
    (begun rules n) (begun_shorter rules n) (rules r) ts end c

-- ---- the first token

first_both : (b : Bool) (xs ys : List TokenKind) (ts : List Token) → b ≡ true →
    begins ys ts ≡ true → begins (xs ++ cond b ys []) ts ≡ true
first_both true xs ys ts n e = begins_right xs ys ts e
first_both false xs ys ts n e = cc

nullable_by : (b : Bool) (ts rest : List Token) → length rest + least b ≤ length ts → ts ≡ rest →
    b ≡ true
nullable_by true ts rest s e = refl
nullable_by false ts rest s e = let l : length ts ≡ length rest = ap length e in
    absurd (omega arith)

each_from_starts : {A : Type 0} (S : Stage → A → List Token → List Token → Type 0)
    (f : Stage → A → Stage) (kinds : Stage → List TokenKind)
    → ((stage : Stage) (x : A) (ts rest : List Token) → S stage x ts rest → (ts ≡ rest) ⊎
    (begins (kinds stage) ts ≡ true))
    → (stage : Stage) (xs : List A) (ts rest : List Token) → EachFrom S f stage xs ts rest →
    (ts ≡ rest) ⊎ (begins (at_stages kinds) ts ≡ true)
each_from_starts S f kinds starts stage [] ts rest e = inl e
each_from_starts S f kinds starts stage (x ∷ xs) ts rest (next, s, each) =
    go (starts stage x ts next s) (each_from_starts S f kinds starts (f stage x) xs next rest each)
  where
    go : (ts ≡ next) ⊎ (begins (kinds stage) ts ≡ true) → (next ≡ rest) ⊎
        (begins (at_stages kinds) next ≡ true) → (ts ≡ rest) ⊎ (begins (at_stages kinds) ts ≡ true)
    go (inr b) q = inr (some_stage kinds stage ts b)
    go (inl e) (inl e') = inl (e ∙ e')
    go (inl e) (inr b) = inr (subst (λ (z : List Token). begins (at_stages kinds) z ≡ true)
        (sym e) b)

-- what a repetition from the stage begins with
abbrev kinds_from : (Stage → List TokenKind) → (Stage → Bool) → Stage → List TokenKind
kinds_from kinds nulls stage = kinds stage ++ cond (nulls stage) (at_stages kinds) []

from_starts : {A : Type 0} (S : Stage → A → List Token → List Token → Type 0)
    (f : Stage → A → Stage) (kinds : Stage → List TokenKind) (nulls : Stage → Bool)
    → ((stage : Stage) (x : A) (ts rest : List Token) → S stage x ts rest → (ts ≡ rest) ⊎
    (begins (kinds stage) ts ≡ true))
    → ((stage : Stage) (x : A) (ts rest : List Token) → S stage x ts rest →
    length rest + least (nulls stage) ≤ length ts)
    → (stage : Stage) (xs : List A) (ts rest : List Token) → EachFrom S f stage xs ts rest →
    (ts ≡ rest) ⊎ (begins (kinds_from kinds nulls stage) ts ≡ true)
from_starts S f kinds nulls starts shorter stage [] ts rest e = inl e
from_starts S f kinds nulls starts shorter stage (x ∷ xs) ts rest (next, s, each) =
    go (starts stage x ts next s) (each_from_starts S f kinds starts (f stage x) xs next rest each)
  where
    go : (ts ≡ next) ⊎ (begins (kinds stage) ts ≡ true) → (next ≡ rest) ⊎
        (begins (at_stages kinds) next ≡ true)
        → (ts ≡ rest) ⊎ (begins (kinds_from kinds nulls stage) ts ≡ true)
    go (inr b) q = inr (begins_left (kinds stage) (cond (nulls stage) (at_stages kinds) []) ts b)
    go (inl e) (inl e') = inl (e ∙ e')
    go (inl e) (inr b) = inr (first_both (nulls stage) (kinds stage) (at_stages kinds) ts
        (nullable_by (nulls stage) ts next (shorter stage x ts next s) e)
        (subst (λ (z : List Token). begins (at_stages kinds) z ≡ true) (sym e) b))

pub spells_starts : {R : Type 0} {Tree : R → Type 0} {A : Type 0} (inner : Inner R Tree) →
    Shortens inner
    → (g : Grammar R Tree A) (x : A) (ts rest : List Token) → Spells inner g x ts rest →
    (ts ≡ rest) ⊎ (begins (first g) ts ≡ true)
spells_starts inner short (token kind) x ts rest s = inr (takes_begins kind x ts rest s)
spells_starts inner short (nested o r c) x ts rest s = inr (takes_begins o x.0 ts s.0 s.2)
spells_starts inner short (both g h) x ts rest s =
    go (spells_starts inner short g x.0 ts s.0 s.1) (spells_starts inner short h x.1 s.0 rest s.2)
  where
    go : (ts ≡ s.0) ⊎ (begins (first g) ts ≡ true) → (s.0 ≡ rest) ⊎ (begins (first h) s.0 ≡ true)
        → (ts ≡ rest) ⊎ (begins (first g ++ cond (nullable g) (first h) []) ts ≡ true)
    go (inr b) q = inr (begins_left (first g) (cond (nullable g) (first h) []) ts b)
    go (inl e) (inl e') = inl (e ∙ e')
    go (inl e) (inr b) = inr (first_both (nullable g) (first g) (first h) ts
        (nullable_by (nullable g) ts s.0 (spells_shorter inner short g x.0 ts s.0 s.1) e)
        (subst (λ (z : List Token). begins (first h) z ≡ true) (sym e) b))
spells_starts inner short (either g h) x ts rest (inl s) =
    go (spells_starts inner short g x ts rest s)
  where
    go : (ts ≡ rest) ⊎ (begins (first g) ts ≡ true) → (ts ≡ rest) ⊎
        (begins (first g ++ first h) ts ≡ true)
    go (inl e) = inl e
    go (inr b) = inr (begins_left (first g) (first h) ts b)
spells_starts inner short (either g h) x ts rest (inr s) =
    go (spells_starts inner short h x ts rest s)
  where
    go : (ts ≡ rest) ⊎ (begins (first h) ts ≡ true) → (ts ≡ rest) ⊎
        (begins (first g ++ first h) ts ≡ true)
    go (inl e) = inl e
    go (inr b) = inr (begins_right (first g) (first h) ts b)
spells_starts inner short (optional g) None ts rest s = inl s
spells_starts inner short (optional g) (Some x) ts rest s = spells_starts inner short g x ts rest s
spells_starts inner short (many g) [] ts rest s = inl s
spells_starts inner short (many g) (x ∷ xs) ts rest s =
    go (spells_starts inner short g x ts s.0 s.1)
    (spells_starts inner short (many g) xs s.0 rest s.2)
  where
    go : (ts ≡ s.0) ⊎ (begins (first g) ts ≡ true) → (s.0 ≡ rest) ⊎ (begins (first g) s.0 ≡ true) →
        (ts ≡ rest) ⊎ (begins (first g) ts ≡ true)
    go (inr b) q = inr b
    go (inl e) (inl e') = inl (e ∙ e')
    go (inl e) (inr b) = inr (subst (λ (z : List Token). begins (first g) z ≡ true) (sym e) b)
spells_starts inner short (staged item next stage) xs ts rest s =
    from_starts (λ t. Spells inner (item t)) next (λ t. first (item t)) (λ t. nullable (item t))
    (λ t. spells_starts inner short (item t))
    (λ t. spells_shorter inner short (item t)) stage xs ts rest s
spells_starts inner short (map_to f g) y ts rest s = spells_starts inner short g s.0 ts rest s.2

abbrev pub StartsOrNothing : List TokenKind → List Token → List Token → Type 0
StartsOrNothing kinds ts end = (ts ≡ end) ⊎ (begins kinds ts ≡ true)

starts_left : (xs ys : List TokenKind) (ts end : List Token) → StartsOrNothing xs ts end →
    StartsOrNothing (xs ++ ys) ts end
starts_left xs ys ts end (inl e) = inl e
starts_left xs ys ts end (inr b) = inr (begins_left xs ys ts b)

starts_right : (xs ys : List TokenKind) (ts end : List Token) → StartsOrNothing ys ts end →
    StartsOrNothing (xs ++ ys) ts end
starts_right xs ys ts end (inl e) = inl e
starts_right xs ys ts end (inr b) = inr (begins_right xs ys ts b)

starts_then : (kinds : List TokenKind) (ts next end : List Token) → StartsOrNothing kinds ts next →
    StartsOrNothing kinds next end → StartsOrNothing kinds ts end
starts_then kinds ts next end (inr b) q = inr b
starts_then kinds ts next end (inl e) (inl e') = inl (e ∙ e')
starts_then kinds ts next end (inl e) (inr b) =
    inr (subst (λ (z : List Token). begins kinds z ≡ true) (sym e) b)

starts_some : (kinds : Stage → List TokenKind) (stage : Stage) (ts end : List Token) →
    StartsOrNothing (kinds stage) ts end → StartsOrNothing (at_stages kinds) ts end
starts_some kinds stage ts end (inl e) = inl e
starts_some kinds stage ts end (inr b) = inr (some_stage kinds stage ts b)

from_starts_then : {A : Type 0} (S : Stage → A → List Token → List Token → Type 0)
    (f : Stage → A → Stage) (kinds : Stage → List TokenKind) (nulls : Stage → Bool)
    → ((stage : Stage) (x : A) (ts rest : List Token) → S stage x ts rest → (ts ≡ rest) ⊎
    (begins (kinds stage) ts ≡ true))
    → ((stage : Stage) (x : A) (ts rest : List Token) → S stage x ts rest →
    length rest + least (nulls stage) ≤ length ts)
    → (stage : Stage) (xs : List A) (ts next end : List Token) → EachFrom S f stage xs ts next
    → StartsOrNothing (kinds (stage_after f stage xs)) next end →
    StartsOrNothing (kinds_from kinds nulls stage) ts end
from_starts_then S f kinds nulls starts shorter stage [] ts next end e start =
    starts_left (kinds stage) (cond (nulls stage) (at_stages kinds) []) ts end
    (starts_then (kinds stage) ts next end (inl e) start)
from_starts_then S f kinds nulls starts shorter stage (x ∷ xs) ts next end (mid, s, each) start =
    go (starts stage x ts mid s) (starts_then (at_stages kinds) mid next end
    (each_from_starts S f kinds starts (f stage x) xs mid next each)
    (starts_some kinds (stage_after f (f stage x) xs) next end start))
  where
    go : StartsOrNothing (kinds stage) ts mid → StartsOrNothing (at_stages kinds) mid end →
        StartsOrNothing (kinds_from kinds nulls stage) ts end
    go (inr b) q = inr (begins_left (kinds stage) (cond (nulls stage) (at_stages kinds) []) ts b)
    go (inl e) (inl e') = inl (e ∙ e')
    go (inl e) (inr b) = inr (first_both (nulls stage) (kinds stage) (at_stages kinds) ts
        (nullable_by (nulls stage) ts mid (shorter stage x ts mid s) e)
        (subst (λ (z : List Token). begins (at_stages kinds) z ≡ true) (sym e) b))

pub cut_starts : {R : Type 0} {Tree : R → Type 0} {A : Type 0} (inner : Inner R Tree) →
    Shortens inner → (beg : Begun R)
    → (g : Grammar R Tree A) (ts end : List Token) → Cut inner beg g ts end →
    StartsOrNothing (first g) ts end
cut_starts inner short beg (token kind) ts end (inl e) = inl e
cut_starts inner short beg (token kind) ts end (inr t) = inr (passes_begins kind ts end t)
cut_starts inner short beg (nested o r c) ts end (inl e) = inl e
cut_starts inner short beg (nested o r c) ts end (inr s) = inr (passes_begins o ts s.0 s.1)
cut_starts inner short beg (both g h) ts end (inl c) =
    starts_left (first g) (cond (nullable g) (first h) []) ts end
    (cut_starts inner short beg g ts end c)
cut_starts inner short beg (both g h) ts end (inr (x, next, s, c)) =
    go (spells_starts inner short g x ts next s) (cut_starts inner short beg h next end c)
  where
    go : StartsOrNothing (first g) ts next → StartsOrNothing (first h) next end →
        StartsOrNothing (first g ++ cond (nullable g) (first h) []) ts end
    go (inr b) q = inr (begins_left (first g) (cond (nullable g) (first h) []) ts b)
    go (inl e) (inl e') = inl (e ∙ e')
    go (inl e) (inr b) = inr (first_both (nullable g) (first g) (first h) ts
        (nullable_by (nullable g) ts next (spells_shorter inner short g x ts next s) e)
        (subst (λ (z : List Token). begins (first h) z ≡ true) (sym e) b))
cut_starts inner short beg (either g h) ts end (inl c) =
    starts_left (first g) (first h) ts end (cut_starts inner short beg g ts end c)
cut_starts inner short beg (either g h) ts end (inr c) =
    starts_right (first g) (first h) ts end (cut_starts inner short beg h ts end c)
cut_starts inner short beg (optional g) ts end (inl e) = inl e
cut_starts inner short beg (optional g) ts end (inr c) = cut_starts inner short beg g ts end c
cut_starts inner short beg (many g) ts end (xs, next, each, inl e) =
    starts_then (first g) ts next end (spells_starts inner short (many g) xs ts next each) (inl e)
cut_starts inner short beg (many g) ts end (xs, next, each, inr c) =
    starts_then (first g) ts next end (spells_starts inner short (many g) xs ts next each)
    (cut_starts inner short beg g next end c)
cut_starts inner short beg (staged item f stage) ts end (xs, next, each, inl e) =
    starts_then (first (staged item f stage)) ts next end
    (spells_starts inner short (staged item f stage) xs ts next each) (inl e)
cut_starts inner short beg (staged item f stage) ts end (xs, next, each, inr c) =
    from_starts_then (λ t. Spells inner (item t)) f (λ t. first (item t)) (λ t. nullable (item t))
    (λ t. spells_starts inner short (item t))
    (λ t. spells_shorter inner short (item t)) stage xs ts next end each
    (cut_starts inner short beg (item (stage_after f stage xs)) next end c)
cut_starts inner short beg (map_to f g) ts end c = cut_starts inner short beg g ts end c
