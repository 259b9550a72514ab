use Rattle.std.proofs.Common.{◌≡◌, take}
use Rattle.run_places.proofs.further.copied.Given as goal

abbrev pub invariant-loop-query : goal.invariant-loop-query
invariant-loop-query l = l.queries.items ≡ take l.query-index l.outer
