use Rattle.std.proofs.Common.{◌≡◌, ◌≤◌, ◌+◌, ◌++◌, length, deque_len}
use Rattle.table_store.proofs.rows.Rows.append.Given as goal

abbrev pub invariant-loop-row : goal.invariant-loop-row
invariant-loop-row l = record {
  rows : l.self.rows ++ l.rest.items ≡ l.initial.self.rows ++ l.fn.more.items;
  capacity : l.self.capacity ≡ l.initial.self.capacity;
  room : length l.self.rows + deque_len l.rest ≤ l.self.capacity;
}

abbrev pub decreases-loop-row : goal.decreases-loop-row
decreases-loop-row l = deque_len l.rest
