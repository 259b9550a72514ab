use Rattle.std.proofs.Common.{◌≡◌, drop}
use Rattle.bind_faults.specs.Faults.{noted}
use Rattle.bind_kinds.specs.Kinds.{all_of_kind}
use Rattle.bind_kinds.proofs.operands.all_of_kind.Given as goal

abbrev pub invariant-loop-head : goal.invariant-loop-head
invariant-loop-head l = noted l.least (all_of_kind l.kind (drop l.head-index l.heads)) ≡
    noted l.initial.least (all_of_kind l.kind l.heads)
