use Rattle.std.proofs.Common.{◌≡◌}
use Rattle.run_changes.specs.Making.{places_below}
use Rattle.run_changes.proofs.any_places.all_places.Given as goal

abbrev pub invariant-loop-place : goal.invariant-loop-place
invariant-loop-place l = l.places.items ≡ places_below l.place
