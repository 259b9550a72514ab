use Rattle.sql_lex.specs.declared.token.TokenKind.TheVariants as kind
use Rattle.sql_lex.specs.declared.sign.Sign.TheVariants as s
use Rattle.grammar_sql.specs.Queries.{more_idents}
use Rattle.grammar_sql.specs.Trees as trees
use Rattle.grammar_sql.specs.Sql as g
use Rattle.grammar_algebra.proofs.Laws.{after_step, after_smaller, after_err}
use Rattle.parse_simple.proofs.declarations.more_names.Goals as goal

pub more-preserved : goal.more-preserved
unfolding more_idents
more-preserved c = after_step g.rules c.args.room (kind.Sign s.Comma) trees.ident c.more.found _
    c.more.input.rest.now _ _ _ c.eat.result _ c.more.invariant c.eat.ensures.found c.more-test.true
    c.eat.ensures.after c.in-Ok.ensures c.in_ok-push-in-Ok.ensures.ok

pub more-smaller : goal.more-smaller
more-smaller c = after_smaller g.rules c.args.room (kind.Sign s.Comma) trees.ident
    c.more.input.rest.now _ _ _ c.eat.result c.eat.ensures.found c.more-test.true
    c.eat.ensures.after c.in-Ok.ensures

pub returns-in-Err : goal.returns-in-Err
unfolding more_idents
returns-in-Err c = after_err g.rules c.args.room (kind.Sign s.Comma) trees.ident c.more.found
    c.more.input.rest.now _ _ c.eat.result _ _ c.more.invariant c.eat.ensures.found c.more-test.true
    c.eat.ensures.after c.in-Err.ensures
