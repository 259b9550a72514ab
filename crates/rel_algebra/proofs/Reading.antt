-- Where an environment may read: places within rows outside, and parameters that are arguments.
use Rattle.std.proofs.Common.{◌≡◌, ℕ, Bool, true, false}
use Rattle.rel_algebra.specs.Emit.{Env, Place, at, given, nowhere}
use Rattle.rel_algebra.specs.Removal.{less}
use Rattle.rel_algebra.proofs.Moves.{NotGiven}

-- Environments.
abbrev pub PlaceIn : Place → ℕ → Type 0
PlaceIn (at level i) n = less level n ≡ true
PlaceIn (given i) n = Unit {0}
PlaceIn nowhere n = Unit {0}

-- where p is true, parameters are arguments, and else columns of rows outside
abbrev pub Given : Env → Bool → Type 0
Given e true = (i : ℕ) → PlaceIn (e.params i) 0
Given e false = (i : ℕ) → NotGiven (e.params i)
