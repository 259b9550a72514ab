use Rattle.std.proofs.Common.{◌↔◌, drop}
use Rattle.atomic_undo.specs.Changes.{Climb}
use Rattle.run_changes.proofs.places.climb.Given as goal

abbrev pub invariant-loop-place : goal.invariant-loop-place
invariant-loop-place l =
    Climb l.low (drop l.place-index l.places) l.most ↔ Climb 0 l.places l.most
