use Rattle.std.proofs.Common.{◌≡◌, ◌+◌, ◌++◌, length, drop, vec_len, vec_capacity}
use Rattle.table_store.specs.Places.{removed_all, all_placed_at}
use Rattle.table_store.proofs.rows.Rows.vacate_all.Given as goal

abbrev pub invariant-loop-i : goal.invariant-loop-i
invariant-loop-i l = record {
  taken : l.taken.items ++ all_placed_at (drop l.i l.places) l.self.rows ≡ l.initial.taken.items ++
      all_placed_at l.places l.initial.self.rows;
  left : removed_all l.places l.self.rows ≡ removed_all l.places l.initial.self.rows;
  len : length l.self.rows ≡ length l.initial.self.rows;
  noted : vec_len l.taken ≡ vec_len l.initial.taken + l.i;
  memory : vec_capacity l.taken ≡ vec_capacity l.initial.taken;
  capacity : l.self.capacity ≡ l.initial.self.capacity;
}
