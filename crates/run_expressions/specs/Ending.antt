-- How a run's answer tells the end of an evaluation.
use Rattle.std.specs.Prelude.{Result}
use Rattle.rel_algebra.specs.World.{Ends}
use Rattle.run_choices.specs.declared.stop.Stop.{Stop}
use Rattle.run_choices.specs.Ending.{Tells}
use Rattle.run_expressions.specs.Content.{Content, world_of, Stays}

-- a run from an old world to a new one answers how the evaluation ends, and keeps what each run
-- keeps
pub record Ended {A : Type 0} (old new : Content) (answer : Result A Stop) (ends : Ends A) :
    Type 0 where
  pub tells : Tells (world_of new) answer ends
  pub stays : Stays old new
