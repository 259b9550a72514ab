use Rattle.std.proofs.Common.{◌≡◌, ◌-◌, ◌++◌}
use Rattle.rel_algebra.specs.Joins.{places}
use Rattle.plan_drafts.proofs.listing.places_between.Given as goal

abbrev pub invariant-loop-place : goal.invariant-loop-place
invariant-loop-place l = l.places ++ places l.place (l.end - l.place) ≡ places l.first
    (l.end - l.first)
