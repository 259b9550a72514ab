-- What a statement does next where nothing of it is left to run. ISO/IEC 9075-4, 4.8 (conditions)
-- and 14.1 (compound statement).
use Rattle.std.specs.Prelude.{◌≡◌, Bool, Result, Ok, Err}
use Rattle.sql_texts.specs.declared.memory.NoMemory.{NoMemory as Want}
use Rattle.rel_algebra.specs.Compounds.{sealed_or}
use Rattle.rel_algebra.specs.Doing.{Doing, Outcome, ends}
use Rattle.rel_algebra.specs.Handlers.{Scopes, failing}
use Rattle.rel_algebra.specs.World.{Frame}
use Rattle.run_choices.specs.declared.stop.Stop.{Stop}
use Rattle.run_choices.specs.declared.stop.Stop.TheVariants.{Raised, Spent, NoMemory}
use Rattle.run_expressions.specs.Content.{Content, Stays, world_of}
use Rattle.run_outcomes.specs.declared.outcome.Outcome.TheVariants as held
use Rattle.run_outcomes.specs.Outcomes.{outcome_of}
use Rattle.run_places.specs.declared.onward.Onward.{Onward}
use Rattle.run_places.specs.declared.onward.Onward.TheVariants.{Fails, Ends}

-- what it does, in these scopes
abbrev pub onward : Onward → Scopes → Doing
onward (Fails area) scopes = failing scopes area
onward (Ends o) scopes = ends (outcome_of o)

-- what follows where an evaluation stopped: what is raised goes on, and without a turn left the
-- statement ends, whatever handlers there are
abbrev pub IsAfterStop : Stop → Result Onward Want → Type 0
IsAfterStop (Raised area) (Ok (Fails raised)) = raised ≡ area
IsAfterStop Spent (Ok (Ends held.Spent)) = Unit {0}
IsAfterStop NoMemory (Err e) = Unit {0}
IsAfterStop _ _ = ⊥

-- At the end of a compound statement, in whatever scopes and frame: what it does next in the world
-- that is left is what the meaning does there from its start on, and each run's marks are kept.
pub record IsSealed (atomic : Bool) (o : Outcome) (start old new : Content) (next : Onward) :
    Type 0 where
  pub same : (scopes : Scopes) (f : Frame) → onward next scopes f (world_of new) ≡
      sealed_or atomic scopes start.memory.tables o f (world_of old)
  pub stays : Stays start new
