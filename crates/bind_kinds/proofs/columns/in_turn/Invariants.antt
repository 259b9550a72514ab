use Rattle.std.proofs.Common.{◌≡◌, length}
use Rattle.bind_faults.specs.Faults.{noted}
use Rattle.bind_kinds.specs.Kinds.{in_turn}
use Rattle.bind_kinds.proofs.columns.in_turn.Given as goal

abbrev pub invariant-loop-kinds : goal.invariant-loop-kinds
invariant-loop-kinds l = noted l.least (in_turn l.kinds l.heads) ≡ noted l.initial.least
    (in_turn l.initial.kinds l.initial.heads)

abbrev pub decreases-loop-kinds : goal.decreases-loop-kinds
decreases-loop-kinds l = length l.kinds
