use Rattle.std.proofs.Common.{◌≡◌, ◌-◌}
use Rattle.table_store.specs.Places.{removed_all}
use Rattle.table_store.proofs.Closing.{Closing}
use Rattle.table_store.proofs.rows.Rows.close_up.Given as goal

abbrev pub invariant-loop-from : goal.invariant-loop-from
invariant-loop-from l = record {
  closing : Closing l.places l.self.rows (removed_all l.places l.initial.self.rows) l.from l.passed
      l.count;
  capacity : l.self.capacity ≡ l.initial.self.capacity;
}

abbrev pub decreases-loop-from : goal.decreases-loop-from
decreases-loop-from l = l.count - l.from
