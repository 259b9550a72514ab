use Rattle.std.proofs.Common.{◌≡◌, ◌++◌, drop, take}
use Rattle.bind_kinds.specs.Kinds.{joined_row}
use Rattle.bind_kinds.proofs.columns.join_row.Given as goal

abbrev pub invariant-loop-place : goal.invariant-loop-place
invariant-loop-place l = take l.place l.kinds ++ joined_row (drop l.place l.kinds)
    (drop l.place l.heads) ≡ joined_row l.initial.kinds l.heads
