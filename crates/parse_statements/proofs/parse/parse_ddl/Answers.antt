use Rattle.std.proofs.Common.{subst, sym, ap, ◌∙◌, ◌-◌, drop}
use Rattle.grammar_sql.proofs.Laws.{part_deep_exactly}
use Rattle.grammar_sql.specs.Decides.{all_decide, ddl_decides, ddl_sound, ddl_stands}
use Rattle.grammar_sql.specs.Definitions.{ddl}
use Rattle.grammar_sql.specs.Sql.{rules}
use Rattle.grammar_algebra.specs.Reading.{reading}
use Rattle.grammar_algebra.specs.Reads.{Reads}
use Rattle.grammar_algebra.specs.Statement.{PartAnswers, most_open, place}
use Rattle.grammar_algebra.proofs.Laws.{parsed_part}
use Rattle.parse_statements.proofs.parse.parse_ddl.Goals as goal

answer : (c : goal.After-answered) → PartAnswers rules (most_open - c.args.already_open) ddl
    c.args.tokens.now.tokens c.args.at c.answered.result
answer c =
    subst (λ z. PartAnswers rules (most_open - c.args.already_open) ddl c.args.tokens.now.tokens
    c.args.at z) (sym c.answered.ensures)
    (parsed_part rules all_decide (most_open - c.args.already_open) ddl ddl_decides
    c.args.tokens.now.tokens c.args.at c.requires.there
    c.from_place-input.result.rest.now (c.from_place-input.ensures ∙
    ap (drop c.args.at) c.as_slice-all.ensures)
    c.ddl-read.result c.ddl-read.new.input.rest.now
    (subst (λ n. Reads (reading rules n ddl c.from_place-input.result.rest.now)
    c.ddl-read.result c.ddl-read.new.input.rest.now) c.room_left-room.ensures
    c.ddl-read.ensures)
    c.place_in-place.result (c.place_in-place.ensures ∙
    ap (λ z. place z c.ddl-read.new.input.rest.now) c.as_slice-all.ensures))

pub returns-clause-answers : goal.returns-clause-answers
returns-clause-answers c = answer c

pub returns-clause-deep : goal.returns-clause-deep
returns-clause-deep c = part_deep_exactly ddl ddl_sound ddl_stands (most_open - c.args.already_open)
    c.args.tokens.now.tokens c.args.at c.answered.result (answer c)
