use Rattle.std.proofs.Common.{◌≡◌, drop}
use Rattle.bind_kinds.specs.declared.kind.Kind.TheVariants.{Null}
use Rattle.bind_kinds.specs.Kinds.{common}
use Rattle.bind_kinds.proofs.operands.common.Given as goal

abbrev pub invariant-loop-head : goal.invariant-loop-head
invariant-loop-head l = common l.kind (drop l.head-index l.heads) ≡ common Null l.heads
