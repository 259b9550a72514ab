use Rattle.std.proofs.Common.{◌≡◌, map, take}
use Rattle.bind_kinds.specs.Kinds.{kind_of_type}
use Rattle.bind_changes.proofs.target.kinds_of.Given as goal

abbrev pub invariant-loop-column : goal.invariant-loop-column
invariant-loop-column l = l.kinds ≡ map (λ c. kind_of_type c.data_type)
    (take l.column-index l.columns)
