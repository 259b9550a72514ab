use Rattle.std.proofs.Common.{◌≡◌, ◌++◌, drop, map}
use Rattle.routine_views.specs.Views.{statement_read}
use Rattle.run_places.specs.Getting.{reading_in}
use Rattle.run_places.specs.Getting.{statement_values as all_by}
use Rattle.run_places.proofs.getting.statement_values.Given as goal

abbrev pub invariant-loop-read : goal.invariant-loop-read
invariant-loop-read l =
    l.values ++ all_by (reading_in l.reading) (map statement_read (drop l.read-index l.reads)) ≡
    all_by (reading_in l.reading) (map statement_read l.reads)
