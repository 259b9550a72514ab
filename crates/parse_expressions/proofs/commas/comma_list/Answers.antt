use Rattle.sql_lex.specs.declared.token.TokenKind.TheVariants as kind
use Rattle.sql_lex.specs.declared.sign.Sign.TheVariants as s
use Rattle.grammar_algebra.specs.Grammar.{many}
use Rattle.grammar_algebra.specs.Notation.{sign, ◌~>◌}
use Rattle.grammar_sql.specs.Sql as g
use Rattle.grammar_algebra.proofs.Laws.{after_step, after_smaller, after_err}
use Rattle.parse_expressions.proofs.FirstItem.{after_first}
use Rattle.parse_expressions.proofs.commas.comma_list.Goals as goal

pub more-init : goal.more-init
more-init t c = let item = t.I.ListItem.item in
    after_first c.args.room item (many (sign s.Comma ~> item)) c.args.input.now.rest.now _ _ _
    c.in_ok-first.ensures c.in_ok-found.ensures

pub more-preserved : goal.more-preserved
more-preserved t c = after_step g.rules c.args.room (kind.Sign s.Comma) t.I.ListItem.item
    c.more.found _ c.more.input.rest.now _ _ _ c.eat.result _ c.more.invariant c.eat.ensures.found
    c.more-test.true c.eat.ensures.after c.in-Ok.ensures c.in_ok-push-in-Ok.ensures.ok

pub more-smaller : goal.more-smaller
more-smaller t c = after_smaller g.rules c.args.room (kind.Sign s.Comma) t.I.ListItem.item
    c.more.input.rest.now _ _ _ c.eat.result c.eat.ensures.found c.more-test.true
    c.eat.ensures.after c.in-Ok.ensures

pub returns-in-Err : goal.returns-in-Err
returns-in-Err t c = after_err g.rules c.args.room (kind.Sign s.Comma) t.I.ListItem.item
    c.more.found c.more.input.rest.now _ _ c.eat.result _ _ c.more.invariant c.eat.ensures.found
    c.more-test.true c.eat.ensures.after c.in-Err.ensures
