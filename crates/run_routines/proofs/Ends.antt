-- How a statement of a script ends.
use Rattle.std.proofs.Common.{Result, Ok, Err, IfOk, ap}
use Rattle.sql_texts.specs.declared.memory.NoMemory.{NoMemory}
use Rattle.rel_algebra.specs.World.{Frame}
use Rattle.rel_algebra.specs.Doing.{End}
use Rattle.run_expressions.specs.Content.{Content}
use Rattle.run_outcomes.specs.declared.outcome.Outcome.{Outcome}
use Rattle.run_places.specs.Ran.{Ran}
use Rattle.run_routines.specs.Scripts.{IsEnd}

-- what a run tells of the end, but for its frame
pub end_told : (old new : Content) (f : Frame) (r : Result Outcome NoMemory) (e : End) →
    Ran old new f r e → IfOk r (λ o. IsEnd o new e)
end_told old new f (Ok o) e d = record {
  outcome_is = ap (λ (x : End). x.outcome) d.tells;
  world_is = ap (λ (x : End). x.world) d.tells;
}
end_told old new f (Err fault) e d = tt
