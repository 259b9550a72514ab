use Rattle.std.proofs.Common.{◌≡◌, take}
use Rattle.bind_simple.specs.Values.{kinds_of}
use Rattle.bind_simple.proofs.target.kinds_of.Given as goal

abbrev pub invariant-loop-one : goal.invariant-loop-one
invariant-loop-one l = l.kinds ≡ kinds_of (take l.one-index l.stored)
