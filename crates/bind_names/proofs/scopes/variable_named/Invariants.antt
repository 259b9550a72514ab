use Rattle.std.proofs.Common.{◌≡◌, drop, map}
use Rattle.bind_sight.specs.Scopes.{variable_named, scope_by}
use Rattle.bind_names.proofs.scopes.variable_named.Given as goal

abbrev pub invariant-loop-inner : goal.invariant-loop-inner
invariant-loop-inner l = variable_named l.name (map scope_by (drop l.inner-index l.scopes)) ≡
    variable_named l.name (map scope_by l.scopes)
