use Rattle.std.proofs.Common.{ℕ, ◌≡◌, ◌<◌, ◌≤◌, ◌-◌, get_or, length, Less, Greater}
use Rattle.row_types.specs.Rows.{Row, to_key}
use Rattle.table_store.proofs.search.find.Given as goal

abbrev pub invariant-loop-low : goal.invariant-loop-low
invariant-loop-low l = record {
  between : l.low ≤ l.high;
  within : l.high ≤ length l.rows.rows;
  below : (k : ℕ) (d : Row) → k < l.low → to_key l.key l.sought (get_or l.rows.rows k d) ≡ Less;
  above : (k : ℕ) (d : Row) → l.high ≤ k → k < length l.rows.rows →
      to_key l.key l.sought (get_or l.rows.rows k d) ≡ Greater;
}

abbrev pub decreases-loop-low : goal.decreases-loop-low
decreases-loop-low l = l.high - l.low
