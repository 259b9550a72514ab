use Rattle.grammar_ends.proofs.Ends.{begins_elsewhere}
use Rattle.grammar_ends.proofs.statements_begin.Goals as goal

pub returns : goal.returns
returns c = begins_elsewhere
