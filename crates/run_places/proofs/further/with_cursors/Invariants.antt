use Rattle.std.proofs.Common.{◌≡◌, ◌++◌, map, take}
use Rattle.routine_views.specs.Views.{Known, query_in}
use Rattle.run_places.specs.Places.{queries_in}
use Rattle.run_places.proofs.further.with_cursors.Given as goal

abbrev pub invariant-loop-query : goal.invariant-loop-query
invariant-loop-query l = (k : Known) → queries_in k l.queries.items ≡
    queries_in k l.outer ++ map (query_in k) (take l.query-index l.own)
