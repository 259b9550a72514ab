-- The parser reads as the grammar's reader does, and so its answer is the reader's at places.
use Rattle.std.proofs.Common.{subst, sym, ap, ◌∙◌, drop}
use Rattle.grammar_sql.proofs.Laws.{deep_exactly_but_after_end}
use Rattle.grammar_sql.specs.Decides.{all_decide, statement_decides, statement_ends}
use Rattle.grammar_sql.specs.Decides.{statement_sound, statement_stands}
use Rattle.grammar_sql.specs.Sql.{rules, statement}
use Rattle.grammar_algebra.specs.Statement.{Answers, most_open, place}
use Rattle.grammar_algebra.proofs.Laws.{parsed}
use Rattle.parse_statements.proofs.After.{goes_on}
use Rattle.parse_statements.proofs.parse.parse_statement.Goals as goal

answer : (c : goal.After-answered) → Answers rules most_open statement c.args.tokens.now.tokens
    c.args.at c.answered.result
answer c =
    subst (λ z. Answers rules most_open statement c.args.tokens.now.tokens c.args.at z)
    (sym c.answered.ensures)
    (parsed rules all_decide most_open statement statement_decides statement_ends
    c.args.tokens.now.tokens c.args.at c.requires
    c.from_place-input.result.rest.now (c.from_place-input.ensures ∙
    ap (drop c.args.at) c.as_slice-all.ensures)
    c.statement-read.result c.statement-read.new.input.rest.now c.statement-read.ensures
    c.place_in-place.result (c.place_in-place.ensures ∙
    ap (λ z. place z c.statement-read.new.input.rest.now) c.as_slice-all.ensures))

pub returns-clause-answers : goal.returns-clause-answers
returns-clause-answers c = answer c

pub returns-clause-deep : goal.returns-clause-deep
returns-clause-deep c = deep_exactly_but_after_end statement statement_sound statement_stands
    most_open c.args.tokens.now.tokens c.args.at c.answered.result (answer c)

pub returns-clause-goes : goal.returns-clause-goes
returns-clause-goes c = goes_on c.args.tokens.now.tokens c.args.at c.answered.result (answer c)
