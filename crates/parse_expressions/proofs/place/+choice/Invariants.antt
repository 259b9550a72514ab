use Rattle.std.proofs.Common.{length}
use Rattle.parse_expressions.proofs.place.+choice.Given as goal

abbrev pub decreases-choice : goal.decreases-choice
decreases-choice g l = length l.more.now
