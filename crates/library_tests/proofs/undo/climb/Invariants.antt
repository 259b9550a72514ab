use Rattle.std.proofs.Common.{drop}
use Rattle.atomic_undo.specs.Changes.{Climb}
use Rattle.library_tests.proofs.undo.climb.Given as goal

abbrev pub invariant-loop-at : goal.invariant-loop-at
invariant-loop-at l = Climb l.low (drop l.at-index l.places) l.high → Climb 0 l.places l.high
