use Rattle.std.proofs.Common.{◌≡◌, drop}
use Rattle.bind_faults.specs.Faults.{noted}
use Rattle.bind_kinds.specs.Operations.{no_cast_faults}
use Rattle.bind_kinds.proofs.operations.ask_operand_of_cast.Given as goal

abbrev pub invariant-loop-head : goal.invariant-loop-head
invariant-loop-head l = noted l.least (no_cast_faults l.to (drop l.head-index l.heads)) ≡
    noted l.initial.least (no_cast_faults l.to l.heads)
