use Rattle.std.proofs.Common.{◌≡◌, drop}
use Rattle.bind_faults.specs.Faults.{noted}
use Rattle.bind_kinds.specs.declared.kind.Kind.TheVariants.{Null}
use Rattle.bind_kinds.specs.Kinds.{alike}
use Rattle.bind_kinds.proofs.operands.alike.Given as goal

abbrev pub invariant-loop-head : goal.invariant-loop-head
invariant-loop-head l = noted l.least (alike l.before (drop l.head-index l.heads)) ≡
    noted l.initial.least (alike Null l.heads)
