use Rattle.std.proofs.Common.{◌≡◌, ◌-◌, ◌++◌}
use Rattle.rel_algebra.specs.Joins.{places}
use Rattle.run_rows.proofs.groups.key_places.Given as goal

abbrev pub invariant-loop-place : goal.invariant-loop-place
invariant-loop-place l = l.places ++ places l.place (l.keys - l.place) ≡ places 0 l.keys
