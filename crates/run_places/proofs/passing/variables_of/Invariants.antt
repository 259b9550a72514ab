use Rattle.std.proofs.Common.{◌≡◌, ◌++◌, drop, map}
use Rattle.rel_algebra.specs.Calls.{targets_of}
use Rattle.routine_views.specs.Views.{Known}
use Rattle.routine_views.specs.Views.{arguments as arguments_in}
use Rattle.routine_views.specs.Views.{target as target_of}
use Rattle.run_places.proofs.passing.variables_of.Given as goal

abbrev pub invariant-loop-argument : goal.invariant-loop-argument
invariant-loop-argument l = (known : Known) → map target_of l.targets.items ++
    targets_of (arguments_in known (drop l.argument-index l.arguments)) ≡
    targets_of (arguments_in known l.arguments)
