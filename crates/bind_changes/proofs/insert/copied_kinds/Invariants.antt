use Rattle.std.proofs.Common.{◌≡◌, take}
use Rattle.bind_changes.proofs.insert.copied_kinds.Given as goal

abbrev pub invariant-loop-kind : goal.invariant-loop-kind
invariant-loop-kind l = l.found ≡ take l.kind-index l.kinds
