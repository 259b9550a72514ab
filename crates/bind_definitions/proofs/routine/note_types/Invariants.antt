use Rattle.std.proofs.Common.{◌≡◌, drop}
use Rattle.std.specs.List.{flat_map}
use Rattle.bind_faults.specs.Faults.{noted}
use Rattle.bind_kinds.specs.Types.{type_faults}
use Rattle.bind_definitions.proofs.routine.note_types.Given as goal

abbrev pub invariant-loop-parameter : goal.invariant-loop-parameter
invariant-loop-parameter l = noted l.least (flat_map (λ c. type_faults c.data_type)
    (drop l.parameter-index l.parameters)) ≡ noted l.initial.least
    (flat_map (λ c. type_faults c.data_type) l.parameters)
