-- How statements end in code. ISO/IEC 9075-4, 4.8 (conditions), 14.8 (ITERATE) and 14.9 (LEAVE).
use Rattle.std.specs.Prelude.{ℕ, Bool, true, false, List, Option, Some, None, slice_get}
use Rattle.catalog_store.specs.declared.entry.ParameterMode.{ParameterMode}
use Rattle.catalog_store.specs.declared.entry.ParameterMode.TheVariants.{In, Out, Inout}
use Rattle.rel_algebra.specs.Doing as doing
use Rattle.rel_algebra.specs.Doing.{Outcome, Doing, ends}
use Rattle.run_outcomes.specs.declared.outcome.Outcome.{Outcome as HeldOutcome}
use Rattle.run_outcomes.specs.declared.outcome.Outcome.TheVariants as held
use Rattle.run_outcomes.specs.declared.levels.AfterBody.{AfterBody}
use Rattle.run_outcomes.specs.declared.levels.AfterBody.TheVariants.{Again, Ends}

-- the outcome that one in code stands for
abbrev pub outcome_of : HeldOutcome → Outcome
outcome_of held.Next = doing.Next
outcome_of (held.Leaving level) = doing.Leaving level
outcome_of (held.Iterating level) = doing.Iterating level
outcome_of (held.Returning value) = doing.Returning value
outcome_of (held.Exiting level area) = doing.Exiting level area
outcome_of (held.Raising area) = doing.Raising area
outcome_of held.Spent = doing.Spent

-- what follows a run of a loop's body, where the loop goes on so
abbrev pub follows : AfterBody → Doing → Doing
follows Again go = go
follows (Ends o) go = ends (outcome_of o)

-- a parameter of this mode gives its value back; one without a mode is IN
abbrev pub goes_back_by : Option ParameterMode → Bool
goes_back_by None = false
goes_back_by (Some In) = false
goes_back_by (Some Out) = true
goes_back_by (Some Inout) = true

-- the parameter at a place gives its value back
abbrev pub goes_back_at : List ParameterMode → ℕ → Bool
goes_back_at modes place = goes_back_by (slice_get modes place)
