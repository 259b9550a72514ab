use Rattle.std.proofs.Common.{◌≡◌, length, take}
use Rattle.table_store.proofs.rows.Rows.truncate.Given as goal

abbrev pub invariant-loop-self : goal.invariant-loop-self
invariant-loop-self l = record {
  rows : take l.at l.self.rows ≡ take l.at l.initial.self.rows;
  capacity : l.self.capacity ≡ l.initial.self.capacity;
}

abbrev pub decreases-loop-self : goal.decreases-loop-self
decreases-loop-self l = length l.self.rows
