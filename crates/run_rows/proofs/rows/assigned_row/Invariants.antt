use Rattle.std.proofs.Common.{◌≡◌, ◌≤◌, ◌++◌, drop, take, length}
use Rattle.rel_algebra.specs.World.{World, after, give}
use Rattle.rel_algebra.specs.Writing.{assigned_row}
use Rattle.run_rows.proofs.rows.assigned_row.Given as goal

abbrev pub invariant-loop-place : goal.invariant-loop-place
invariant-loop-place l =
    record {
      tells : (w : World) → after (assigned_row (drop l.place l.columns) (drop l.place l.row) w)
          (λ more. give (take l.place l.row ++ more)) ≡ assigned_row l.columns l.fn.values w;
      narrow : length l.row ≤ length l.columns;
    }
