use Rattle.grammar_sql.proofs.Laws.{tell_open_but_after_end, go_by_steps_but_after_end}
use Rattle.grammar_sql.proofs.Laws.{count_open_but_after_end, deep_exactly_but_after_end}
use Rattle.grammar_sql.specs.Decides.{statement_sound, statement_stands}
use Rattle.grammar_sql.specs.Sql.{statement}
use Rattle.grammar_ends.proofs.Ends.{begins_elsewhere}
use Rattle.grammar_ends.proofs.constructs_of_scripts.Goals as goal

pub returns-clause-open : goal.returns-clause-open
returns-clause-open c tokens at b = tell_open_but_after_end statement statement_sound
    statement_stands tokens at (begins_elsewhere tokens at b)

pub returns-clause-steps : goal.returns-clause-steps
returns-clause-steps c tokens at b = go_by_steps_but_after_end statement statement_sound
    statement_stands tokens at (begins_elsewhere tokens at b)

pub returns-clause-counted : goal.returns-clause-counted
returns-clause-counted c tokens at b = count_open_but_after_end statement statement_sound
    statement_stands tokens at (begins_elsewhere tokens at b)

pub returns-clause-deep : goal.returns-clause-deep
returns-clause-deep c tokens at b n answer a = deep_exactly_but_after_end statement
    statement_sound statement_stands n tokens at answer a (begins_elsewhere tokens at b)
