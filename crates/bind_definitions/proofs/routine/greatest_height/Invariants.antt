use Rattle.std.proofs.Common.{◌≡◌, drop, max}
use Rattle.bind_queries.specs.Heights.{greatest_height}
use Rattle.bind_definitions.proofs.routine.greatest_height.Given as goal

abbrev pub invariant-loop-name : goal.invariant-loop-name
invariant-loop-name l = max l.height (greatest_height l.catalog (drop l.name-index l.names)) ≡
    greatest_height l.catalog l.names
