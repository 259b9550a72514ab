use Rattle.std.proofs.Common.{◌≡◌, length}
use Rattle.sql_lex.specs.declared.sign.Sign.TheVariants as s
use Rattle.grammar_algebra.specs.Grammar.{many}
use Rattle.grammar_algebra.specs.Notation.{list_by, sign, ◌~>◌}
use Rattle.grammar_algebra.specs.Reading.{reading, with_front}
use Rattle.grammar_sql.specs.Sql as g
use Rattle.parse_expressions.proofs.commas.comma_list.Given as goal

abbrev pub decreases-more : goal.decreases-more
decreases-more g l = length l.input.rest.now

abbrev pub invariant-more : goal.invariant-more
invariant-more t l =
    let item = t.I.ListItem.item in
    with_front l.found (reading g.rules l.room (many (sign s.Comma ~> item)) l.input.rest.now) ≡
    reading g.rules l.room (list_by s.Comma item) l.fn.input.rest.now
