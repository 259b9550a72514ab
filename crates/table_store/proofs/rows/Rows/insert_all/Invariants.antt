use Rattle.std.proofs.Common.{◌≡◌}
use Rattle.table_store.specs.Places.{inserted_all}
use Rattle.table_store.proofs.Opening.{Opening}
use Rattle.table_store.proofs.rows.Rows.insert_all.Given as goal

abbrev pub invariant-loop-to : goal.invariant-loop-to
invariant-loop-to l = record {
  opening : Opening l.left l.self.rows (inserted_all l.fn.new l.fn.self.rows) l.to;
  capacity : l.self.capacity ≡ l.fn.self.capacity;
}

abbrev pub decreases-loop-to : goal.decreases-loop-to
decreases-loop-to l = l.to
