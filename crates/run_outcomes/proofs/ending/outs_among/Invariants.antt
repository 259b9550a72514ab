use Rattle.std.proofs.Common.{◌≡◌, ◌++◌, drop}
use Rattle.rel_algebra.specs.Calls.{outs_of}
use Rattle.routine_views.specs.Routines.{with_modes}
use Rattle.run_outcomes.proofs.ending.outs_among.Given as goal

abbrev pub invariant-loop-place : goal.invariant-loop-place
invariant-loop-place l =
    l.given ++ outs_of (with_modes (drop l.place l.modes) (drop l.place l.types))
    (drop l.place l.values)
    ≡ outs_of (with_modes l.modes l.types) l.values
