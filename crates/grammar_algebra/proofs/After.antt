-- What is left after a part is the tokens from a later place on.
use Rattle.std.proofs.Common.{◌≡◌, ℕ, zero, suc, ◌+◌, ◌-◌, ◌≤◌, List, [], ◌∷◌, length, drop, Some}
use Rattle.std.proofs.Common.{None, refl, ap, sym, ◌∙◌, subst, inl, inr, arith, length-drop}
use Rattle.std.proofs.lemmas.List.{drop-drop}
use Rattle.sql_lex.specs.declared.token.TokenKind.{TokenKind}
use Rattle.sql_lex.specs.declared.token.Token.{Token}
use Rattle.grammar_algebra.specs.declared.stage.Stage.{Stage}
use Rattle.grammar_algebra.specs.Grammar.{Grammar, token, nested, both, either, optional, many}
use Rattle.grammar_algebra.specs.Grammar.{staged, map_to, Inner, Begun, Takes, Passes, Each}
use Rattle.grammar_algebra.specs.Grammar.{EachFrom, stage_after, Spells, Cut, inside, begun}

abbrev pub After : List Token → List Token → Type 0
After ts rest = (k : ℕ) × (k ≤ length ts) × (rest ≡ drop k ts)

after_same : (ts rest : List Token) → ts ≡ rest → After ts rest
after_same ts rest e = (0, omega arith, sym e)

pub after_next : (ts mid rest : List Token) → After ts mid → After mid rest → After ts rest
after_next ts mid rest (a, la, ea) (b, lb, eb) =
    let l : length mid ≡ length ts - a = ap length ea ∙ length-drop a ts in
    (a + b, omega arith, eb ∙ ap (drop b) ea ∙ drop-drop b a ts)

after_takes : (kind : TokenKind) (t : Token) (ts rest : List Token) → Takes kind t ts rest →
    After ts rest
after_takes kind t ts rest (k, e) = subst (λ z. After z rest) (sym e) (1, omega arith, refl)

after_passes : (kind : TokenKind) (ts rest : List Token) → Passes kind ts rest → After ts rest
after_passes kind ts rest (t, p) = after_takes kind t ts rest p

each_after : {A : Type 0} (S : A → List Token → List Token → Type 0) →
    ((x : A) (ts rest : List Token) → S x ts rest → After ts rest)
    → (xs : List A) (ts rest : List Token) → Each S xs ts rest → After ts rest
each_after S h [] ts rest e = after_same ts rest e
each_after S h (x ∷ xs) ts rest (next, s, each) =
    after_next ts next rest (h x ts next s) (each_after S h xs next rest each)

each_from_after : {A : Type 0} (S : Stage → A → List Token → List Token → Type 0)
    (f : Stage → A → Stage)
    → ((stage : Stage) (x : A) (ts rest : List Token) → S stage x ts rest → After ts rest)
    → (stage : Stage) (xs : List A) (ts rest : List Token) → EachFrom S f stage xs ts rest →
    After ts rest
each_from_after S f h stage [] ts rest e = after_same ts rest e
each_from_after S f h stage (x ∷ xs) ts rest (next, s, each) =
    after_next ts next rest (h stage x ts next s)
    (each_from_after S f h (f stage x) xs next rest each)

pub spells_after : {R : Type 0} {Tree : R → Type 0} {A : Type 0} (inner : Inner R Tree) →
    ((r : R) (x : Tree r) (ts rest : List Token) → inner r x ts rest → After ts rest)
    → (g : Grammar R Tree A) (x : A) (ts rest : List Token) → Spells inner g x ts rest →
    After ts rest
spells_after inner h (token kind) x ts rest s = after_takes kind x ts rest s
spells_after inner h (nested o r c) x ts rest s =
    after_next ts s.0 rest (after_takes o x.0 ts s.0 s.2)
    (after_next s.0 s.1 rest (h r x.1 s.0 s.1 s.3) (after_passes c s.1 rest s.4))
spells_after inner h (both g k) x ts rest s =
    after_next ts s.0 rest (spells_after inner h g x.0 ts s.0 s.1)
    (spells_after inner h k x.1 s.0 rest s.2)
spells_after inner h (either g k) x ts rest (inl s) = spells_after inner h g x ts rest s
spells_after inner h (either g k) x ts rest (inr s) = spells_after inner h k x ts rest s
spells_after inner h (optional g) None ts rest s = after_same ts rest s
spells_after inner h (optional g) (Some x) ts rest s = spells_after inner h g x ts rest s
spells_after inner h (many g) xs ts rest s = each_after (Spells inner g) (spells_after inner h g) xs
    ts rest s
spells_after inner h (staged item f stage) xs ts rest s =
    each_from_after (λ t. Spells inner (item t)) f (λ t. spells_after inner h (item t)) stage xs ts
    rest s
spells_after inner h (map_to f g) y ts rest s = spells_after inner h g s.0 ts rest s.2

pub inside_after : {R : Type 0} {Tree : R → Type 0} (rules : (r : R) → Grammar R Tree (Tree r))
    (n : ℕ) (r : R) (x : Tree r) (ts rest : List Token) → inside rules n r x ts rest → After ts rest
inside_after rules zero r x ts rest s = absurd s
inside_after rules (suc n) r x ts rest s = spells_after (inside rules n) (inside_after rules n)
    (rules r) x ts rest s

pub cut_after : {R : Type 0} {Tree : R → Type 0} {A : Type 0} (inner : Inner R Tree) →
    ((r : R) (x : Tree r) (ts rest : List Token) → inner r x ts rest → After ts rest)
    → (beg : Begun R) → ((r : R) (ts end : List Token) → beg r ts end → After ts end)
    → (g : Grammar R Tree A) (ts end : List Token) → Cut inner beg g ts end → After ts end
cut_after inner h beg b (token kind) ts end (inl e) = after_same ts end e
cut_after inner h beg b (token kind) ts end (inr t) = after_passes kind ts end t
cut_after inner h beg b (nested o r c) ts end (inl e) = after_same ts end e
cut_after inner h beg b (nested o r c) ts end (inr (opened, t, inl d)) =
    after_next ts opened end (after_passes o ts opened t) (b r opened end d)
cut_after inner h beg b (nested o r c) ts end (inr (opened, t, inr (x, last, s, t'))) =
    after_next ts opened end (after_passes o ts opened t)
    (after_next opened last end (h r x opened last s) (after_passes c last end t'))
cut_after inner h beg b (both g k) ts end (inl c) = cut_after inner h beg b g ts end c
cut_after inner h beg b (both g k) ts end (inr (x, next, s, c)) =
    after_next ts next end (spells_after inner h g x ts next s)
    (cut_after inner h beg b k next end c)
cut_after inner h beg b (either g k) ts end (inl c) = cut_after inner h beg b g ts end c
cut_after inner h beg b (either g k) ts end (inr c) = cut_after inner h beg b k ts end c
cut_after inner h beg b (optional g) ts end (inl e) = after_same ts end e
cut_after inner h beg b (optional g) ts end (inr c) = cut_after inner h beg b g ts end c
cut_after inner h beg b (many g) ts end (xs, next, each, inl e) =
    after_next ts next end (each_after (Spells inner g) (spells_after inner h g) xs ts next each)
    (after_same next end e)
cut_after inner h beg b (many g) ts end (xs, next, each, inr c) =
    after_next ts next end (each_after (Spells inner g) (spells_after inner h g) xs ts next each)
    (cut_after inner h beg b g next end c)
cut_after inner h beg b (staged item f stage) ts end (xs, next, each, inl e) =
    after_next ts next end (each_from_after (λ t. Spells inner (item t)) f
    (λ t. spells_after inner h (item t)) stage xs ts next each) (after_same next end e)
cut_after inner h beg b (staged item f stage) ts end (xs, next, each, inr c) =
    after_next ts next end (each_from_after (λ t. Spells inner (item t)) f
    (λ t. spells_after inner h (item t)) stage xs ts next each)
    (cut_after inner h beg b (item (stage_after f stage xs)) next end c)
cut_after inner h beg b (map_to f g) ts end c = cut_after inner h beg b g ts end c

pub begun_after : {R : Type 0} {Tree : R → Type 0} (rules : (r : R) → Grammar R Tree (Tree r))
    (n : ℕ) (r : R) (ts end : List Token) → begun rules n r ts end → After ts end
begun_after rules zero r ts end c = absurd c
begun_after rules (suc n) r ts end c = cut_after (inside rules n) (inside_after rules n)
    (begun rules n) (begun_after rules n) (rules r) ts end c
