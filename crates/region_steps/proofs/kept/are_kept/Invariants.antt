use Rattle.std.proofs.Common.{◌<◌, ℕ, get_or}
use Rattle.region_steps.specs.Idle.{IsKept}
use Rattle.region_steps.proofs.kept.are_kept.Given as goal

abbrev pub invariant-loop-at : goal.invariant-loop-at
invariant-loop-at l = (k : ℕ) → k < l.at → IsKept l.scalars l.code l.width (get_or l.places k 0) k
