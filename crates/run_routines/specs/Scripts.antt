-- How statements of a script end.
use Rattle.std.specs.Prelude.{◌≡◌}
use Rattle.rel_algebra.specs.Doing.{End}
use Rattle.run_expressions.specs.Content.{Content, world_of}
use Rattle.run_outcomes.specs.declared.outcome.Outcome.{Outcome}
use Rattle.run_outcomes.specs.Outcomes.{outcome_of}

-- an end, but for its frame, is this outcome, with the world that is left
pub record IsEnd (outcome : Outcome) (left : Content) (end : End) : Type 0 where
  pub outcome_is : end.outcome ≡ outcome_of outcome
  pub world_is : end.world ≡ world_of left
