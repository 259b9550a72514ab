use Rattle.std.proofs.Common.{◌≡◌, ◌++◌, drop, map}
use Rattle.rel_algebra.specs.Doing.{take_values}
use Rattle.rel_algebra.specs.World.{World, after, give}
use Rattle.routine_views.specs.Views.{target as target_of}
use Rattle.run_places.proofs.passing.taken.Given as goal

abbrev pub invariant-loop-place : goal.invariant-loop-place
invariant-loop-place l = (w : World) → after
    (take_values (map target_of (drop l.place l.targets)) (drop l.place l.values) w)
    (λ xs. give (l.taken ++ xs)) ≡ take_values (map target_of l.targets) l.values w
