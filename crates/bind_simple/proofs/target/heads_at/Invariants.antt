use Rattle.std.proofs.Common.{◌≡◌, take}
use Rattle.bind_simple.specs.Values.{heads_at}
use Rattle.bind_simple.proofs.target.heads_at.Given as goal

abbrev pub invariant-loop-one : goal.invariant-loop-one
invariant-loop-one l = l.heads ≡ heads_at (take l.one-index l.stored)
