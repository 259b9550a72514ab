use Rattle.std.proofs.Common.{◌≡◌, map, length}
use Rattle.bind_faults.specs.Faults.{noted}
use Rattle.bind_kinds.specs.Kinds.{in_turn, kind_of_type}
use Rattle.bind_kinds.proofs.columns.arguments.Given as goal

abbrev pub invariant-loop-types : goal.invariant-loop-types
invariant-loop-types l = noted l.least (in_turn (map kind_of_type l.types) l.heads) ≡
    noted l.initial.least (in_turn (map kind_of_type l.initial.types) l.initial.heads)

abbrev pub decreases-loop-types : goal.decreases-loop-types
decreases-loop-types l = length l.types
