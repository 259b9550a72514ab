use Rattle.std.proofs.Common.{◌≡◌, ◌++◌, drop}
use Rattle.data_change.specs.Writing.{places_in}
use Rattle.run_changes.proofs.places.places_in.Given as goal

abbrev pub invariant-loop-row : goal.invariant-loop-row
invariant-loop-row l = l.places.items ++ places_in l.table.table (drop l.row-index l.met) ≡
    places_in l.table.table l.met
