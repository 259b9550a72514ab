-- How a statement ends that runs in a world of its own. ISO/IEC 9075-2, 4.17 (SQL-statements and
-- atomicity).
use Rattle.std.specs.Prelude.{ℕ, ◌≡◌, List, Option, Some, None, Result, Ok, Err}
use Rattle.sql_texts.specs.declared.memory.NoMemory.{NoMemory}
use Rattle.table_store.specs.Memory.{Memory}
use Rattle.catalog_store.specs.Catalog.{Catalog}
use Rattle.reply_text.specs.Texts.{area_text, spent_text}
use Rattle.run_expressions.specs.Content.{Content, IsBackAt}
use Rattle.run_choices.specs.declared.stop.Stop.{Stop}
use Rattle.run_choices.specs.declared.stop.Stop.TheVariants.{Raised, Spent}
use Rattle.run_choices.specs.declared.stop.Stop.TheVariants.{NoMemory as WantOfMemory}
use Rattle.run_outcomes.specs.declared.outcome.Outcome.{Outcome}
use Rattle.run_outcomes.specs.declared.outcome.Outcome.TheVariants as outcome
use Rattle.psm_effects.specs.Database.{Plain}
use Rattle.psm_effects.specs.Effects.{Effect}
use Rattle.psm_effects.specs.Shapes.{shapes_of}

-- the database of a catalog and of tables in memory
abbrev pub database : Catalog → Memory → Plain
database catalog memory = record { catalog = catalog; tables = memory.tables }

-- the effect has this reply, and leaves this database
abbrev pub IsEffect : Effect → List ℕ → Plain → Type 0
IsEffect e reply after = (reply ≡ e.reply) × (after ≡ e.after)

-- The reply of a statement that stops, and what it leaves: with the conditions that it raised the
-- tables stay; without a turn left all its changes are taken back.
abbrev pub StopsWith : Stop → ℕ → Content → Content → List ℕ → Type 0
StopsWith (Raised area) mark old new reply = (reply ≡ area_text area) × (new ≡ old)
StopsWith Spent mark old new reply = (reply ≡ spent_text) × IsBackAt mark old new
StopsWith WantOfMemory mark old new reply = ⊥

-- without memory all changes are taken back too
abbrev pub IsStopped : Stop → ℕ → Content → Content → Result (List ℕ) NoMemory → Type 0
IsStopped stop mark old new (Ok reply) = StopsWith stop mark old new reply
IsStopped stop mark old new (Err e) = IsBackAt mark old new

-- what a compound statement of a script stops with, by its outcome: what no handler takes, or that no
-- turn is left
abbrev pub stop_in : Outcome → Option Stop
stop_in (outcome.Raising area) = Some (Raised area)
stop_in outcome.Spent = Some Spent
stop_in _ = None

-- only rows may differ
abbrev pub KeepsShapes : Memory → Memory → Type 0
KeepsShapes old new = shapes_of new.tables ≡ shapes_of old.tables
