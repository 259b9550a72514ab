use Rattle.std.proofs.Common.{◌≡◌, ◌<◌, ◌≤◌, ℕ, get_or, length}
use Rattle.rel_algebra.specs.Plan.{cell_at}
use Rattle.region_steps.proofs.keeping.keep_forward.Given as goal

abbrev pub invariant-loop-at : goal.invariant-loop-at
invariant-loop-at l = record {
  done : (k : ℕ) → k < l.at → cell_at l.cells.items k ≡ cell_at l.fn.cells.items
      (get_or l.places k 0);
  rest : (k : ℕ) → l.at ≤ k → cell_at l.cells.items k ≡ cell_at l.fn.cells.items k;
  wide : length l.cells.items ≡ length l.fn.cells.items;
}
