use Rattle.std.proofs.Common.{◌≡◌, ◌+◌, length, take}
use Rattle.table_store.proofs.rows.Rows.lengthen.Given as goal

abbrev pub invariant-loop : goal.invariant-loop
invariant-loop l = record {
  rows : take (length l.initial.self.rows) l.self.rows ≡ l.initial.self.rows;
  len : length l.self.rows ≡ length l.initial.self.rows + l.counter;
  capacity : l.self.capacity ≡ l.initial.self.capacity;
}
