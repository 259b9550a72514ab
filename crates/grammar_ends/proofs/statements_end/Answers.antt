use Rattle.grammar_ends.proofs.Ends.{goes_on_from, ends_in_semicolon, not_after_end}
use Rattle.grammar_ends.proofs.statements_end.Goals as goal

pub returns-clause-longer : goal.returns-clause-longer
returns-clause-longer c = goes_on_from

pub returns-clause-last : goal.returns-clause-last
returns-clause-last c = ends_in_semicolon

pub returns-clause-after : goal.returns-clause-after
returns-clause-after c = not_after_end
