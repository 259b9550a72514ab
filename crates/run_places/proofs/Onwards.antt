-- Statements that go on by what follows in them.
use Rattle.std.proofs.Common.{◌≡◌, ℕ, Bool, true, Result, Ok, Err, refl, sym, ap, ◌∙◌, subst}
use Rattle.sql_texts.specs.declared.memory.NoMemory.{NoMemory}
use Rattle.sql_conditions.specs.Conditions.{Area}
use Rattle.rel_algebra.specs.Compounds.{sealed_or}
use Rattle.rel_algebra.specs.Doing.{Outcome, Raising}
use Rattle.rel_algebra.specs.Handlers.{Scopes, failing}
use Rattle.rel_algebra.specs.World.{Frame}
use Rattle.run_choices.specs.declared.stop.Stop.{Stop}
use Rattle.run_choices.specs.declared.stop.Stop.TheVariants.{Raised, Spent, NoMemory as NoRoom}
use Rattle.run_expressions.specs.Content.{Content, IsBackAt, world_of}
use Rattle.run_expressions.proofs.Laws.{stays_same}
use Rattle.run_outcomes.specs.declared.outcome.Outcome.{Outcome as Held}
use Rattle.run_outcomes.specs.declared.outcome.Outcome.TheVariants as held
use Rattle.run_places.specs.declared.onward.Onward.{Onward}
use Rattle.run_places.specs.declared.onward.Onward.TheVariants.{Fails, Ends}
use Rattle.run_places.specs.Blocks.{IsSince}
use Rattle.run_places.specs.Onward.{IsAfterStop, IsSealed, onward}
use Rattle.run_places.specs.Ran.{GoesOnFrom, Ran}
use Rattle.run_places.proofs.BlockRuns.{stays_back, world_back}
use Rattle.run_places.proofs.Underway.{ends_with}

-- ---- after a stop

module _ (scopes : Scopes) (f : Frame) (old : Content) where
  -- what is raised goes on
  pub stop_fails : (s : Stop) (area : Area) (new : Content) (g : Frame)
      (r : Result Held NoMemory) → IsAfterStop s (Ok (Fails area)) →
      Ran old new g r (failing scopes area f (world_of old)) → GoesOnFrom s scopes old new f g r
  stop_fails (Raised raised) area new g r h d =
      subst (λ (a : Area). Ran old new g r (failing scopes a f (world_of old))) h d
  stop_fails Spent area new g r h d = absurd h
  stop_fails NoRoom area new g r h d = absurd h

  -- without a turn left it ends
  pub stop_ends : (s : Stop) (o : Held) → IsAfterStop s (Ok (Ends o)) →
      GoesOnFrom s scopes old old f f (Ok o)
  stop_ends Spent held.Spent h = record { tells = refl; stays = stays_same old }
  stop_ends Spent held.Next h = absurd h
  stop_ends Spent (held.Leaving level) h = absurd h
  stop_ends Spent (held.Iterating level) h = absurd h
  stop_ends Spent (held.Returning value) h = absurd h
  stop_ends Spent (held.Exiting level area) h = absurd h
  stop_ends Spent (held.Raising area) h = absurd h
  stop_ends (Raised area) o h = absurd h
  stop_ends NoRoom o h = absurd h

  -- memory is wanting
  pub stop_wants : (s : Stop) (e : NoMemory) → IsAfterStop s (Err e) →
      GoesOnFrom s scopes old old f f (Err e)
  stop_wants NoRoom e h = record { is = tt; stays = stays_same old }
  stop_wants Spent e h = absurd h
  stop_wants (Raised area) e h = absurd h

-- ---- at the end of a compound statement

-- an ATOMIC one raises as a whole, once it is back
pub sealed_back : (mark : ℕ) (start old new : Content) (area : Area) → IsSince mark start old →
    IsBackAt mark old new → IsSealed true (Raising area) start old new (Fails area)
sealed_back mark start old new area since back = record {
  same = λ scopes f. ap (failing scopes area f) (sym (world_back mark start old new since back));
  stays = stays_back mark start old new since back;
}

module _ (atomic : Bool) (o : Outcome) (start old mid : Content) (next : Onward)
    (scopes : Scopes) (f : Frame) (is : IsSealed atomic o start old mid next) where
  -- it raises as a whole
  pub seal_fails : (area : Area) (new : Content) (g : Frame) (r : Result Held NoMemory) →
      next ≡ Fails area → Ran mid new g r (failing scopes area f (world_of mid)) →
      Ran start new g r (sealed_or atomic scopes start.memory.tables o f (world_of old))
  seal_fails area new g r by d =
      ends_with start mid new (onward next scopes f (world_of mid))
      (sealed_or atomic scopes start.memory.tables o f (world_of old))
      (failing scopes area f (world_of mid)) g r
      (record { same = is.same scopes f; stays = is.stays })
      (ap (λ (n : Onward). onward n scopes f (world_of mid)) by) d

  -- it is at its end
  pub seal_ends : (p : Held) → next ≡ Ends p →
      Ran start mid f (Ok p) (sealed_or atomic scopes start.memory.tables o f (world_of old))
  seal_ends p by = record {
    tells = sym (is.same scopes f) ∙ ap (λ (n : Onward). onward n scopes f (world_of mid)) by;
    stays = is.stays;
  }
