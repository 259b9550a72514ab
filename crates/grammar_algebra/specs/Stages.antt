-- What a repetition by stages is: repetitions one after another, whose items are read by one
-- grammar at each stage.
use Rattle.std.specs.Prelude.{◌≡◌, List, ◌++◌}
use Rattle.std.proofs.Common.{ap, ◌∙◌, inl, inr}
use Rattle.sql_lex.specs.declared.token.Token.{Token}
use Rattle.grammar_algebra.specs.declared.stage.Stage.{Stage}
use Rattle.grammar_algebra.specs.declared.stage.Stage.TheVariants.{First, Second, Third}
use Rattle.grammar_algebra.specs.Grammar.{Grammar, both, many, map_to, Inner, Begun, Spells, Cut}

-- The stage t is not before s.
abbrev pub NotBefore : Stage → Stage → Type 0
NotBefore First t = Unit {0}
NotBefore Second First = ⊥
NotBefore Second Second = Unit {0}
NotBefore Second Third = Unit {0}
NotBefore Third First = ⊥
NotBefore Third Second = ⊥
NotBefore Third Third = Unit {0}

-- `{part First} {part Second} {part Third}`
abbrev pub in_turn : {R : Type 0} {Tree : R → Type 0} {A : Type 0} → (Stage → Grammar R Tree A) →
    Grammar R Tree (List A)
in_turn part = map_to (λ p. p.0 ++ (p.1.0 ++ p.1.1))
    (both (many (part First)) (both (many (part Second)) (many (part Third))))

-- At each stage an item is what that stage's part or a later one's spells, and it moves the stage
-- on to that of the part.
pub record OfParts {R : Type 0} {Tree : R → Type 0} {A : Type 0} (inner : Inner R Tree)
    (begun : Begun R) (part item : Stage → Grammar R Tree A) (next : Stage → A → Stage) :
    Type 0 where
  pub of_part : (s : Stage) (x : A) (ts rest : List Token) → Spells inner (item s) x ts rest →
      (t : Stage) × NotBefore s t × Spells inner (part t) x ts rest × (next s x ≡ t)
  pub of_item : (s t : Stage) → NotBefore s t → (x : A) (ts rest : List Token) →
      Spells inner (part t) x ts rest → Spells inner (item s) x ts rest × (next s x ≡ t)
  pub cut_part : (s : Stage) (ts end : List Token) → Cut inner begun (item s) ts end → (t : Stage) ×
      NotBefore s t × Cut inner begun (part t) ts end
  pub cut_item : (s t : Stage) → NotBefore s t → (ts end : List Token) →
      Cut inner begun (part t) ts end → Cut inner begun (item s) ts end

-- a part between two others that leave no tree, as a declaration between DECLARE and `;`
abbrev pub between : {R : Type 0} {Tree : R → Type 0} {A B C : Type 0} → Grammar R Tree B →
    Grammar R Tree A → Grammar R Tree C → Grammar R Tree A
between before g after = map_to (λ p. p.1) (both before (map_to (λ p. p.0) (both g after)))

-- ---- parts between two others that all share: they are in stages where the parts are

-- A stage is not before itself.
not_before_self : (s : Stage) → NotBefore s s
not_before_self First = tt
not_before_self Second = tt
not_before_self Third = tt

module _ {R : Type 0} {Tree : R → Type 0} {A B C : Type 0} (inner : Inner R Tree) (begun : Begun R)
    (part item : Stage → Grammar R Tree A) (next : Stage → A → Stage)
    (before : Grammar R Tree B) (after : Grammar R Tree C) (of : OfParts inner begun part item next)
  where
    -- An item between the two parts is spelled by this stage's part or a later one's between them.
    between_part : (s : Stage) (x : A) (ts rest : List Token) →
        Spells inner (between before (item s) after) x ts rest
        → (t : Stage) × NotBefore s t × Spells inner (between before (part t) after) x ts rest ×
        (next s x ≡ t)
    between_part s x ts rest (y, e, (m, b, (z, e', (m', p, c)))) =
        let w = of.of_part s z.0 m m' p in
        (w.0, w.1, (y, e, (m, b, (z, e', (m', w.2, c)))), ap (next s) (e ∙ e') ∙ w.3)

    -- What this stage's part or a later one's spells between the two is an item between them.
    between_item : (s t : Stage) → NotBefore s t → (x : A) (ts rest : List Token) →
        Spells inner (between before (part t) after) x ts rest
        → Spells inner (between before (item s) after) x ts rest × (next s x ≡ t)
    between_item s t nb x ts rest (y, e, (m, b, (z, e', (m', p, c)))) =
        let w = of.of_item s t nb z.0 m m' p in
        ((y, e, (m, b, (z, e', (m', w.0, c)))), ap (next s) (e ∙ e') ∙ w.1)

    -- A beginning of an item between the two is one of this stage's part or a later one's.
    cut_between_part : (s : Stage) (ts end : List Token) →
        Cut inner begun (between before (item s) after) ts end
        → (t : Stage) × NotBefore s t × Cut inner begun (between before (part t) after) ts end
    cut_between_part s ts end (inl c) = (s, not_before_self s, inl c)
    cut_between_part s ts end (inr (x, m, b, inl c)) = let w = of.cut_part s m end c in
        (w.0, w.1, inr (x, m, b, inl w.2))
    cut_between_part s ts end (inr (x, m, b, inr (y, m', p, c))) = let w = of.of_part s y m m' p in
        (w.0, w.1, inr (x, m, b, inr (y, m', w.2, c)))

    -- A beginning of this stage's part or a later one's between the two is one of an item.
    cut_between_item : (s t : Stage) → NotBefore s t → (ts end : List Token) →
        Cut inner begun (between before (part t) after) ts end →
        Cut inner begun (between before (item s) after) ts end
    cut_between_item s t nb ts end (inl c) = inl c
    cut_between_item s t nb ts end (inr (x, m, b, inl c)) =
        inr (x, m, b, inl (of.cut_item s t nb m end c))
    cut_between_item s t nb ts end (inr (x, m, b, inr (y, m', p, c))) =
        inr (x, m, b, inr (y, m', (of.of_item s t nb y m m' p).0, c))

    -- Where parts are in stages, they are so between two others that all of them share.
    pub of_parts_between : OfParts inner begun (λ s. between before (part s) after)
        (λ s. between before (item s) after) next
    of_parts_between = record {
      of_part = between_part;
      of_item = between_item;
      cut_part =
          cut_between_part;
      cut_item = cut_between_item;
    }
