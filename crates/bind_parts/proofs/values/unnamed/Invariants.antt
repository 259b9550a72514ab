use Rattle.std.proofs.Common.{◌≡◌, map, take}
use Rattle.bind_parts.specs.ValueRows.{unnamed}
use Rattle.bind_parts.proofs.values.unnamed.Given as goal

abbrev pub invariant-loop-kind : goal.invariant-loop-kind
invariant-loop-kind l = l.columns ≡ map unnamed (take l.kind-index l.kinds)
