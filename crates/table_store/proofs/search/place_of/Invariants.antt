use Rattle.std.proofs.Common.{ℕ, ◌≡◌, ◌<◌, ◌≤◌, ◌-◌, get_or, length, Less, Greater}
use Rattle.row_types.specs.Rows.{Row, by_key}
use Rattle.table_store.proofs.search.place_of.Given as goal

abbrev pub invariant-loop-low : goal.invariant-loop-low
invariant-loop-low l = record {
  between : l.low ≤ l.high;
  within : l.high ≤ length l.rows.rows;
  below : (k : ℕ) (d : Row) → k < l.low → by_key l.key (get_or l.rows.rows k d) l.row ≡ Less;
  above : (k : ℕ) (d : Row) → l.high ≤ k → k < length l.rows.rows →
      by_key l.key (get_or l.rows.rows k d) l.row ≡ Greater;
}

abbrev pub decreases-loop-low : goal.decreases-loop-low
decreases-loop-low l = l.high - l.low
