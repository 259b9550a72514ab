use Rattle.std.proofs.Common.{◌≡◌, drop, map}
use Rattle.rel_algebra.specs.Doing.{put_in}
use Rattle.routine_views.specs.Views.{target}
use Rattle.run_frames.proofs.frame.Frame.put.Given as goal

abbrev pub invariant-loop-target : goal.invariant-loop-target
invariant-loop-target l =
    put_in (map target (drop l.target-index l.targets)) l.left.items l.self
    ≡ put_in (map target l.targets) l.initial.left.items l.initial.self
