use Rattle.std.proofs.Common.{◌≡◌, take}
use Rattle.bind_definitions.specs.Routines.{parameter_idents}
use Rattle.bind_definitions.proofs.routine.parameter_idents.Given as goal

abbrev pub invariant-loop-parameter : goal.invariant-loop-parameter
invariant-loop-parameter l = l.idents ≡ parameter_idents (take l.parameter-index l.parameters)
