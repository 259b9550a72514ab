use Rattle.std.proofs.Common.{◌≡◌, take}
use Rattle.bind_definitions.specs.Routines.{parameters_held}
use Rattle.bind_definitions.proofs.routine.parameters_held.Given as goal

abbrev pub invariant-loop-parameter : goal.invariant-loop-parameter
invariant-loop-parameter l = l.held ≡ parameters_held (take l.parameter-index l.parameters)
