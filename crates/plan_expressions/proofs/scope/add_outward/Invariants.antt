use Rattle.std.proofs.Common.{◌≡◌, ◌++◌, map, take}
use Rattle.plan_expressions.specs.Scopes.{outward_span}
use Rattle.plan_expressions.proofs.scope.add_outward.Given as goal

abbrev pub invariant-loop-span : goal.invariant-loop-span
invariant-loop-span l = l.outward ≡ l.initial.outward ++ map outward_span
    (take l.span-index l.spans)
