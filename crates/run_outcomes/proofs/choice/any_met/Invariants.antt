use Rattle.std.proofs.Common.{◌≡◌, drop, map}
use Rattle.std.specs.List.{list_any}
use Rattle.routine_views.specs.Views.{condition_value}
use Rattle.run_outcomes.specs.Scopes.{met_by}
use Rattle.run_outcomes.proofs.choice.any_met.Given as goal

abbrev pub invariant-loop-value : goal.invariant-loop-value
invariant-loop-value l =
    list_any (λ v. met_by l.manner v l.state) (map condition_value (drop l.value-index l.values))
    ≡ list_any (λ v. met_by l.manner v l.state) (map condition_value l.values)
