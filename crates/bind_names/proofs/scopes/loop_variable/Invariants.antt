use Rattle.std.proofs.Common.{◌≡◌, drop, map}
use Rattle.bind_sight.specs.Scopes.{loop_variable, scope_by}
use Rattle.bind_names.proofs.scopes.loop_variable.Given as goal

abbrev pub invariant-loop-inner : goal.invariant-loop-inner
invariant-loop-inner l = loop_variable l.qualifier l.name
    (map scope_by (drop l.inner-index l.scopes)) ≡ loop_variable l.qualifier l.name
    (map scope_by l.scopes)
