use Rattle.std.proofs.Common.{◌≡◌, ◌||◌, true, length, drop}
use Rattle.row_types.specs.Rows.{Row}
use Rattle.row_types.specs.OuterRows.{outer_rows}
use Rattle.rel_algebra.specs.Plan.{shown}
use Rattle.plan_keys.specs.LeftOut.{left_out}
use Rattle.plan_keys.specs.Terms.{misses}
use Rattle.plan_keys.proofs.terms.terms_of.Given as goal

abbrev pub invariant-loop-node : goal.invariant-loop-node
invariant-loop-node l = record {
  rows : (row : Row) → (misses l.terms row || left_out (drop l.node-index l.nodes) (shown row)
      (outer_rows l.outer) l.args) ≡ true →
      left_out l.nodes (shown row) (outer_rows l.outer) l.args ≡ true;
  end : l.node-index-end ≡ length l.nodes;
}
