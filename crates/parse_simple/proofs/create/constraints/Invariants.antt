use Rattle.std.proofs.Common.{◌≡◌, length}
use Rattle.grammar_algebra.specs.Reading.{reading, with_front}
use Rattle.grammar_sql.specs.Definitions as definitions
use Rattle.grammar_sql.specs.Sql as g
use Rattle.parse_simple.proofs.create.constraints.Given as goal

abbrev pub decreases-more : goal.decreases-more
decreases-more l = length l.input.rest.now

abbrev pub invariant-more : goal.invariant-more
invariant-more l =
    with_front l.found (reading g.rules l.room definitions.constraints l.input.rest.now) ≡
    reading g.rules l.room definitions.constraints l.initial.input.rest.now
