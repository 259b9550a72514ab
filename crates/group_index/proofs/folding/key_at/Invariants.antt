use Rattle.std.proofs.Common.{◌≡◌, ◌++◌, drop}
use Rattle.row_types.specs.Groups.{values_at}
use Rattle.group_index.proofs.folding.key_at.Given as goal

abbrev pub invariant-loop-place : goal.invariant-loop-place
invariant-loop-place l = l.key ++ values_at l.row (drop l.place-index l.places) ≡
    values_at l.row l.places
