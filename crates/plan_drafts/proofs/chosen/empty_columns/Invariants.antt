use Rattle.std.proofs.Common.{◌≡◌, [], replicate}
use Rattle.plan_drafts.specs.Choosing.{all_arms_of}
use Rattle.plan_drafts.proofs.chosen.empty_columns.Given as goal

abbrev pub invariant-loop : goal.invariant-loop
invariant-loop l = all_arms_of l.columns ≡ replicate l.counter []
