-- The declarations of the small language as they are printed: `{variable ';'} {cursor ';'} {handler
-- ';'}`.
use Rattle.std.specs.Prelude.{◌≡◌, List, Some, None}
use Rattle.std.proofs.Common.{refl, ap, subst, ◌∙◌, inl, inr}
use Rattle.sql_lex.specs.declared.token.Token.{Token}
use Rattle.sql_lex.specs.declared.token.TokenKind.TheVariants as kind
use Rattle.sql_lex.specs.declared.word.Word.TheVariants as w
use Rattle.sql_lex.specs.declared.sign.Sign.TheVariants as s
use Rattle.grammar_algebra.specs.declared.stage.Stage.{Stage}
use Rattle.grammar_algebra.specs.declared.stage.Stage.TheVariants.{First, Second, Third}
use Rattle.grammar_algebra.specs.Grammar.{Inner, Begun, Spells, Cut, Takes}
use Rattle.grammar_algebra.specs.Notation.{word, sign, name, ◌=>◌, name_of}
use Rattle.grammar_algebra.specs.Stages.{NotBefore, OfParts, between, of_parts_between}
use Rattle.grammar_algebra.specs.SmallLanguage.{G, Rule, Tree, Declaration, Variable, Cursor}
use Rattle.grammar_algebra.specs.SmallLanguage.{variable_or_cursor, cursor, handler, at_stage}
use Rattle.grammar_algebra.specs.SmallLanguage.{declaration, next_stage}

-- `name`: a declaration of a variable
unfoldable pub variable : G Declaration
variable = (λ t. Variable (name_of t.lexeme)) => name

-- what stands between DECLARE and `;`
abbrev pub declared_part : Stage → G Declaration
declared_part First = variable
declared_part Second = cursor
declared_part Third = handler

-- a declaration of each stage, from DECLARE to its `;`
abbrev pub printed : Stage → G Declaration
printed stage = between (word w.Declare) (declared_part stage) (sign s.Semicolon)

-- What the language reads at a stage is what the parts of that stage and of later ones spell.
module _ (inner : Inner Rule Tree) (begun : Begun Rule) where
  -- What may stand at a stage is spelled by that stage's part or a later one's.
  part_of : (t : Stage) (x : Declaration) (ts rest : List Token) →
      Spells inner (at_stage t) x ts rest
      → (u : Stage) × NotBefore t u × Spells inner (declared_part u) x ts rest ×
      (next_stage t x ≡ u)
  unfolding variable_or_cursor variable cursor handler
  part_of First x ts rest (inl ((n, None), e, (m, p, o))) = (
    First,
    tt,
    (n, e, subst (λ (z : List Token). Takes kind.Name n ts z) o p),
    ap
        (next_stage First) e,
  )
  part_of First x ts rest (inl ((n, Some c), e, (m, p, o))) =
      (Second, tt, (n, e, ((n, c), refl, (m, p, o))), ap (next_stage First) e)
  part_of First x ts rest (inr (y, e, h)) = (Third, tt, (y, e, h), ap (next_stage First) e)
  part_of Second x ts rest (inl (y, e, c)) = (Second, tt, (y, e, c), ap (next_stage Second) e)
  part_of Second x ts rest (inr (y, e, h)) = (Third, tt, (y, e, h), ap (next_stage Second) e)
  part_of Third x ts rest (y, e, h) = (Third, tt, (y, e, h), ap (next_stage Third) e)

  -- What the part of this stage or a later one spells may stand there.
  item_of : (t u : Stage) → NotBefore t u → (x : Declaration) (ts rest : List Token) →
      Spells inner (declared_part u) x ts rest
      → Spells inner (at_stage t) x ts rest × (next_stage t x ≡ u)
  unfolding variable_or_cursor variable cursor handler
  item_of First First b x ts rest (n, e, p) =
      (inl ((n, None), e, (rest, p, refl)), ap (next_stage First) e)
  item_of First Second b x ts rest (y, e, (z, e', q)) = (
    inl ((z.0, Some z.1), e ∙ ap (λ (t : Token). Cursor (name_of t.lexeme)) e', q),
    ap
        (next_stage First) e,
  )
  item_of First Third b x ts rest (y, e, h) = (inr (y, e, h), ap (next_stage First) e)
  item_of Second First b x ts rest p = absurd b
  item_of Second Second b x ts rest (y, e, c) = (inl (y, e, c), ap (next_stage Second) e)
  item_of Second Third b x ts rest (y, e, h) = (inr (y, e, h), ap (next_stage Second) e)
  item_of Third First b x ts rest p = absurd b
  item_of Third Second b x ts rest p = absurd b
  item_of Third Third b x ts rest (y, e, h) = ((y, e, h), ap (next_stage Third) e)

  -- A beginning of what may stand at a stage is one of that stage's part or a later one's.
  part_cut : (t : Stage) (ts end : List Token) → Cut inner begun (at_stage t) ts end → (u : Stage) ×
      NotBefore t u × Cut inner begun (declared_part u) ts end
  unfolding variable_or_cursor variable cursor handler
  part_cut First ts end (inl (inl c)) = (First, tt, c)
  part_cut First ts end (inl (inr (n, m, p, inl e))) =
      (First, tt, inr (n, subst (λ (z : List Token). Takes kind.Name n ts z) e p))
  part_cut First ts end (inl (inr (n, m, p, inr c))) = (Second, tt, inr (n, m, p, c))
  part_cut First ts end (inr h) = (Third, tt, h)
  part_cut Second ts end (inl c) = (Second, tt, c)
  part_cut Second ts end (inr h) = (Third, tt, h)
  part_cut Third ts end h = (Third, tt, h)

  -- A beginning of the part of this stage or a later one is one of what may stand there.
  item_cut : (t u : Stage) → NotBefore t u → (ts end : List Token) →
      Cut inner begun (declared_part u) ts end → Cut inner begun (at_stage t) ts end
  unfolding variable_or_cursor variable cursor handler
  item_cut First First b ts end c = inl (inl c)
  item_cut First Second b ts end (inl c) = inl (inl c)
  item_cut First Second b ts end (inr (n, m, p, c)) = inl (inr (n, m, p, inr c))
  item_cut First Third b ts end h = inr h
  item_cut Second First b ts end c = absurd b
  item_cut Second Second b ts end c = inl c
  item_cut Second Third b ts end h = inr h
  item_cut Third First b ts end c = absurd b
  item_cut Third Second b ts end c = absurd b
  item_cut Third Third b ts end h = h

  -- The declarations of a block stand in stages: variables, then cursors, then handlers.
  pub declarations_of_parts : OfParts inner begun printed declaration next_stage
  unfolding declaration
  declarations_of_parts = of_parts_between inner begun declared_part at_stage next_stage
      (word w.Declare) (sign s.Semicolon)
      (record { of_part = part_of; of_item = item_of; cut_part = part_cut; cut_item = item_cut })
