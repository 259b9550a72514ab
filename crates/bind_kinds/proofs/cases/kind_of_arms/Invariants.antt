use Rattle.std.proofs.Common.{◌≡◌, drop}
use Rattle.bind_kinds.specs.declared.kind.Kind.TheVariants.{Null}
use Rattle.bind_kinds.specs.Operations.{kind_of_arms, no_test}
use Rattle.bind_kinds.proofs.cases.kind_of_arms.Given as goal

abbrev pub invariant-loop-head : goal.invariant-loop-head
invariant-loop-head l = kind_of_arms l.kind l.waiting (drop l.head-index l.heads) ≡
    kind_of_arms Null no_test l.heads
