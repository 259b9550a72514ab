use Rattle.std.proofs.Common.{◌≡◌, drop, map}
use Rattle.bind_sight.specs.Scopes.{condition_named, scope_by}
use Rattle.bind_names.proofs.scopes.condition_named.Given as goal

abbrev pub invariant-loop-inner : goal.invariant-loop-inner
invariant-loop-inner l = condition_named l.name (map scope_by (drop l.inner-index l.scopes)) ≡
    condition_named l.name (map scope_by l.scopes)
