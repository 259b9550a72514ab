use Rattle.std.proofs.Common.{◌≡◌, take}
use Rattle.bind_definitions.specs.Making.{modes_of}
use Rattle.bind_definitions.proofs.making.modes_of.Given as goal

abbrev pub invariant-loop-parameter : goal.invariant-loop-parameter
invariant-loop-parameter l = l.modes ≡ modes_of (take l.parameter-index l.parameters)
