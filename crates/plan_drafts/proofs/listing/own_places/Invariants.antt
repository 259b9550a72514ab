use Rattle.std.proofs.Common.{◌≡◌, drop}
use Rattle.rel_algebra.specs.Emit.{own_places}
use Rattle.rel_algebra.specs.PlanView.{scalars_of}
use Rattle.plan_drafts.proofs.Own.{in_front}
use Rattle.plan_drafts.proofs.listing.own_places.Given as goal

abbrev pub invariant-loop-scalar : goal.invariant-loop-scalar
invariant-loop-scalar l = in_front l.places (own_places
    (scalars_of (drop l.scalar-index l.scalars))) ≡ own_places (scalars_of l.scalars)
