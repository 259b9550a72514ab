use Rattle.std.proofs.Common.{◌≡◌, map, take}
use Rattle.bind_kinds.specs.Types.{type_of}
use Rattle.bind_definitions.proofs.routine.parameter_types.Given as goal

abbrev pub invariant-loop-parameter : goal.invariant-loop-parameter
invariant-loop-parameter l = l.types ≡ map (λ p. type_of p.data_type)
    (take l.parameter-index l.parameters)
