use Rattle.std.proofs.Common.{◌≡◌, drop}
use Rattle.bind_faults.specs.Faults.{noted}
use Rattle.bind_kinds.specs.declared.kind.Kind.TheVariants.{Null}
use Rattle.bind_kinds.specs.Operations.{arms, no_test}
use Rattle.bind_kinds.proofs.cases.arms.Given as goal

abbrev pub invariant-loop-head : goal.invariant-loop-head
invariant-loop-head l = noted l.least (arms l.wanted l.kind l.waiting (drop l.head-index l.heads)) ≡
    noted l.initial.least (arms l.wanted Null no_test l.heads)
