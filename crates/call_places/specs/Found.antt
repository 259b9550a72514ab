-- The places that are found as uses are met one after another. A number stands still at 2^64 - 1.
use Rattle.std.specs.Prelude.{ℕ, ◌+◌, Bool, true, false, not, List}
use Rattle.std.specs.List.{fold}
use Rattle.rel_algebra.specs.Applies.{counted}
use Rattle.catalog_store.specs.Uses.{Use, Uses, calls, reads}
use Rattle.block_plans.specs.Callees.{Callees}
use Rattle.call_places.specs.declared.places.CallPlaces.{CallPlaces}
use Rattle.call_places.specs.Places.{has_plan}

-- one more, where it is one
abbrev pub one_more : Bool → ℕ → ℕ
one_more true n = counted (n + 1)
one_more false n = n

-- a call is met
abbrev pub with_call : Callees → CallPlaces → List ℕ → ℕ → CallPlaces
with_call k found name arguments = record {
  inlined = one_more (has_plan k name arguments) found.inlined;
  interpreted = one_more (not (has_plan k name arguments)) found.interpreted;
}

-- a use is met; a table adds nothing
abbrev pub with_use : Callees → CallPlaces → Use → CallPlaces
with_use k found (calls name arguments) = with_call k found name arguments
with_use k found (reads name) = found

-- uses are met, the first of them first
abbrev pub with_uses : Callees → CallPlaces → Uses → CallPlaces
with_uses k found us = fold (with_use k) found us
