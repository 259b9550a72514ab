use Rattle.std.proofs.Common.{◌≡◌, take, drop, map}
use Rattle.bind_faults.specs.Faults.{noted}
use Rattle.bind_simple.specs.Places.{place_by}
use Rattle.bind_simple.specs.Storing.{statement_read, statement_faults}
use Rattle.bind_simple.proofs.diagnostics.statement_reads.Given as goal

abbrev pub invariant-loop-item : goal.invariant-loop-item
invariant-loop-item l = record {
  value : l.reads ≡ map (statement_read (place_by l.place)) (take l.item-index l.items);
  faults : noted l.least (statement_faults (drop l.item-index l.items) (place_by l.place)) ≡
      noted l.initial.least (statement_faults l.items (place_by l.place));
}
