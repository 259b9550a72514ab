-- What comes of a statement that was read: where it is valid, its effect, or where it is an EXPLAIN,
-- its reply; else its least fault. And what comes of it where it is checked alone.
use Rattle.std.specs.Prelude.{ℕ, ◌≡◌, ◌⊎◌, true, List, [], Some}
use Rattle.syntax_trees.specs.declared.anchor.Anchor.{Anchor}
use Rattle.bind_faults.specs.declared.fault.Fault.{Fault}
use Rattle.bind_faults.specs.Faults.{Noted, least}
use Rattle.bind_direct.specs.declared.bound.Bound.TheVariants.{Explain}
use Rattle.bind_direct.specs.declared.bound.BoundStatement.{BoundStatement}
use Rattle.bound_trees.specs.declared.query.BoundQuery.{BoundQuery}
use Rattle.reply_text.specs.declared.fault.FaultText.TheVariants.{Name}
use Rattle.reply_text.specs.Texts.{fault_text}
use Rattle.psm_effects.specs.Database.{Plain}
use Rattle.psm_effects.specs.Explaining.{IsExplained}
use Rattle.psm_session.specs.Effects.{is_done, effect, checked}

-- the reply to a fault, with its place
abbrev pub reply_to : Fault → List ℕ
reply_to fault = fault_text (Name fault.kind) fault.at.line fault.at.column

-- A statement without faults has its effect, with so many turns.
pub record HasEffect (budget : ℕ) (found : Noted BoundStatement) (before : Plain)
    (reply : List ℕ) (after : Plain) : Type 0 where
  pub valid : found.faults ≡ []
  pub runs : is_done found.value.bound ≡ true
  pub replies : reply ≡ (effect budget found.value.bound before).reply
  pub leaves : after ≡ (effect budget found.value.bound before).after

-- An EXPLAIN without faults has its reply, byte by byte, and nothing changes.
pub record HasExplained (found : Noted BoundStatement) (before : Plain) (reply : List ℕ)
    (after : Plain) : Type 0 where
  pub query : BoundQuery
  pub valid : found.faults ≡ []
  pub explains : found.value.bound ≡ Explain query
  pub replies : IsExplained before.catalog query reply
  pub leaves : after ≡ before

-- The least of the faults is replied, and nothing changes.
pub record HasFault (found : Noted BoundStatement) (before : Plain) (reply : List ℕ)
    (after : Plain) : Type 0 where
  pub fault : Fault
  pub is_least : least found.faults ≡ Some fault
  pub replies : reply ≡ reply_to fault
  pub leaves : after ≡ before

-- what comes of a statement that has so many turns, by its anchor
abbrev pub Executes : ℕ → Noted BoundStatement → Anchor → Plain → List ℕ → Plain → Type 0
Executes budget found at before reply after = HasEffect budget found before reply after ⊎
    (HasExplained found before reply after ⊎ HasFault found before reply after)

-- ---- where it is checked alone

-- A statement without faults is bound, and a definition is carried out, whatever its form.
pub record IsValid (found : Noted BoundStatement) (before : Plain) (reply : List ℕ)
    (after : Plain) : Type 0 where
  pub valid : found.faults ≡ []
  pub replies : reply ≡ (checked found.value.bound before).reply
  pub leaves : after ≡ (checked found.value.bound before).after

-- what comes of a statement that is checked alone, whether it has faults or not
abbrev pub Checks : Noted BoundStatement → Anchor → Plain → List ℕ → Plain → Type 0
Checks found at before reply after = IsValid found before reply after ⊎
    HasFault found before reply after
