use Rattle.std.proofs.Common.{◌≡◌, take, drop}
use Rattle.data_change.specs.Writing.{put_all}
use Rattle.run_changes.proofs.targets.put_after.Given as goal

abbrev pub invariant-loop-i : goal.invariant-loop-i
invariant-loop-i l =
    put_all (drop l.i l.targets) (drop l.i (drop l.width l.row)) (take l.width l.row) ≡
    put_all l.targets (drop l.width l.fn.row) (take l.width l.fn.row)
