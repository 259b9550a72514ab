use Rattle.std.proofs.Common.{◌≡◌, ◌++◌, drop}
use Rattle.std.specs.List.{flat_map}
use Rattle.bind_definitions.specs.Tables.{key_place}
use Rattle.bind_definitions.proofs.table.add_key_constraints.Given as goal

abbrev pub invariant-loop-constraint : goal.invariant-loop-constraint
invariant-loop-constraint l = l.places ++ flat_map key_place
    (drop l.constraint-index l.column.constraints) ≡ l.initial.places ++
    flat_map key_place l.column.constraints
