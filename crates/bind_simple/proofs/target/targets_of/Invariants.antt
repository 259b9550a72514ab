use Rattle.std.proofs.Common.{◌≡◌, take}
use Rattle.bind_simple.specs.Values.{targets_of}
use Rattle.bind_simple.proofs.target.targets_of.Given as goal

abbrev pub invariant-loop-one : goal.invariant-loop-one
invariant-loop-one l = l.targets ≡ targets_of (take l.one-index l.stored)
