use Rattle.std.proofs.Common.{◌≡◌, ◌∷◌, ◌++◌, [], false, refl, ap}
use Rattle.grammar_sql.specs.declared.chain_level.ChainLevel.{ChainLevel}
use Rattle.grammar_sql.specs.declared.chain_level.ChainLevel.TheVariants as level
use Rattle.sql_lex.specs.declared.token.TokenKind.TheVariants as kind
use Rattle.sql_lex.specs.declared.sign.Sign.TheVariants as s
use Rattle.syntax_trees.specs.declared.query.FromItem.TheVariants as from
use Rattle.grammar_sql.specs.Expressions as expressions
use Rattle.grammar_sql.specs.Queries as queries
use Rattle.grammar_sql.specs.Sql as g
use Rattle.grammar_sql.specs.Expressions.{operator, after, more_exprs, exprs, when_clause}
use Rattle.grammar_sql.specs.Expressions.{more_when_clauses, when_clauses}
use Rattle.grammar_sql.specs.Queries.{more_select_values, select_values, joined_on, comma_item}
use Rattle.grammar_sql.specs.Queries.{cross_join, left_join, inner_join, from_item, more_from_items}
use Rattle.grammar_sql.specs.Queries.{first_item, from_items, more_rows, rows}
use Rattle.grammar_algebra.specs.Reading.{nullable, mapped, reading}
use Rattle.grammar_sql.specs.Trees.{only}
use Rattle.parse_expressions.proofs.Laws.{after_first, after_first_list}
use Rattle.parse_reads.proofs.Laws.{was_read, put_step, put_smaller, append_step, put_after_step}
use Rattle.parse_reads.proofs.Laws.{put_after_smaller, put_after_err}
use Rattle.parse_queries.proofs.queries.+parser.Goals as goal

-- A link has an operator.
link_is_some : (l : ChainLevel) → nullable (expressions.link_at l) ≡ false
unfolding operator
link_is_some level.Or = refl
link_is_some level.And = refl
link_is_some level.Additive = refl
link_is_some level.Multiplicative = refl

pub links-more-preserved : goal.links-more-preserved
links-more-preserved t c = put_step c.args.room (expressions.link_at c.args.level) (link_is_some c.args.level)
    c.more.found _ c.more.input.rest.now _ c.begins_link.result _ c.more.invariant c.begins_link.ensures
    c.more-test.true
    (c.in_ok-found.ensures
    (reading g.rules c.args.room (expressions.link_at c.args.level) c.more.input.rest.now)
    c.link.new.input.rest.now c.link.ensures)

pub links-more-smaller : goal.links-more-smaller
links-more-smaller t c = put_smaller c.args.room (expressions.link_at c.args.level) (link_is_some c.args.level)
    (λ next. c.more.found ++ next ∷ []) c.more.input.rest.now _ _
    (c.in_ok-found.ensures
    (reading g.rules c.args.room (expressions.link_at c.args.level) c.more.input.rest.now)
    c.link.new.input.rest.now c.link.ensures)

pub exprs-more-init : goal.exprs-more-init
unfolding exprs
exprs-more-init t c =
    let p = was_read only (reading g.rules c.args.room expressions.expr c.args.input.now.rest.now)
    c.in_ok-found.found c.expr.new.input.rest.now
    (c.in_ok-found.ensures (reading g.rules c.args.room expressions.expr c.args.input.now.rest.now)
    c.expr.new.input.rest.now c.expr.ensures) in
    after_first c.args.room expressions.expr expressions.more_exprs c.args.input.now.rest.now
    _ p.0 _ p.1.0 p.1.1

pub exprs-more-preserved : goal.exprs-more-preserved
unfolding more_exprs after
exprs-more-preserved t c = put_step c.args.room (expressions.after (kind.Sign s.Comma)) refl
    c.more.found _ c.more.input.rest.now _ c.begins_more.result _ c.more.invariant c.begins_more.ensures
    c.more-test.true
    (c.in_ok-found-2.ensures
    (reading g.rules c.args.room (expressions.after (kind.Sign s.Comma)) c.more.input.rest.now)
    c.after-next.new.input.rest.now c.after-next.ensures)

pub exprs-more-smaller : goal.exprs-more-smaller
unfolding after
exprs-more-smaller t c = put_smaller c.args.room (expressions.after (kind.Sign s.Comma)) refl
    (λ next. c.more.found ++ next ∷ []) c.more.input.rest.now _ _
    (c.in_ok-found-2.ensures
    (reading g.rules c.args.room (expressions.after (kind.Sign s.Comma)) c.more.input.rest.now)
    c.after-next.new.input.rest.now c.after-next.ensures)

pub when_clauses-more-init : goal.when_clauses-more-init
unfolding when_clauses
when_clauses-more-init t c = after_first_list c.args.room expressions.when_clause
    expressions.more_when_clauses c.args.input.now.rest.now _ _ c.in_ok-found.ensures

pub when_clauses-more-preserved : goal.when_clauses-more-preserved
unfolding more_when_clauses when_clause after
when_clauses-more-preserved t c = append_step c.args.room expressions.when_clause refl
    c.more.found _ c.more.input.rest.now _ c.begins_when_clause.result _ c.more.invariant c.begins_when_clause.ensures
    c.more-test.true
    (c.in_ok-found-2.ensures
    (reading g.rules c.args.room expressions.when_clause c.more.input.rest.now)
    c.when_clause-in-more.new.input.rest.now c.when_clause-in-more.ensures)

pub when_clauses-more-smaller : goal.when_clauses-more-smaller
unfolding when_clause after
when_clauses-more-smaller t c = put_smaller c.args.room expressions.when_clause refl
    (λ next. c.more.found ++ next) c.more.input.rest.now _ _
    (c.in_ok-found-2.ensures
    (reading g.rules c.args.room expressions.when_clause c.more.input.rest.now)
    c.when_clause-in-more.new.input.rest.now c.when_clause-in-more.ensures)

pub from_items-more-init : goal.from_items-more-init
unfolding from_items first_item
from_items-more-init t c = after_first c.args.room queries.first_item queries.more_from_items
    c.args.input.now.rest.now _ _ _ (ap (mapped from.Comma) c.in_ok-table.ensures)
    c.in_ok-found.ensures

pub from_items-more-preserved : goal.from_items-more-preserved
unfolding more_from_items from_item comma_item cross_join left_join inner_join joined_on
from_items-more-preserved t c = put_step c.args.room queries.from_item refl
    c.more.found _ c.more.input.rest.now _ c.begins_from_item.result _ c.more.invariant c.begins_from_item.ensures
    c.more-test.true
    (c.in_ok-found-2.ensures
    (reading g.rules c.args.room queries.from_item c.more.input.rest.now)
    c.from_item.new.input.rest.now c.from_item.ensures)

pub from_items-more-smaller : goal.from_items-more-smaller
unfolding from_item comma_item cross_join left_join inner_join joined_on
from_items-more-smaller t c = put_smaller c.args.room queries.from_item refl
    (λ next. c.more.found ++ next ∷ []) c.more.input.rest.now _ _
    (c.in_ok-found-2.ensures
    (reading g.rules c.args.room queries.from_item c.more.input.rest.now)
    c.from_item.new.input.rest.now c.from_item.ensures)

pub select_values-more-init : goal.select_values-more-init
unfolding select_values
select_values-more-init t c =
    let p = was_read only (reading g.rules c.args.room queries.select_value c.args.input.now.rest.now)
    c.in_ok-found.found c.select_value.new.input.rest.now
    (c.in_ok-found.ensures (reading g.rules c.args.room queries.select_value c.args.input.now.rest.now)
    c.select_value.new.input.rest.now c.select_value.ensures) in
    after_first c.args.room queries.select_value queries.more_select_values c.args.input.now.rest.now
    _ p.0 _ p.1.0 p.1.1

pub select_values-more-preserved : goal.select_values-more-preserved
unfolding more_select_values
select_values-more-preserved t c = put_after_step c.args.room (kind.Sign s.Comma)
    queries.select_value
    c.more.found _ c.more.input.rest.now _ _ c.eat.result _ c.more.invariant c.eat.ensures.found
    c.more-test.true c.eat.ensures.after
    (c.in-Ok.ensures (reading g.rules c.args.room queries.select_value c.eat.new.self.rest.now)
    c.select_value-in-more.new.input.rest.now c.select_value-in-more.ensures)

pub select_values-more-smaller : goal.select_values-more-smaller
select_values-more-smaller t c = put_after_smaller c.args.room (kind.Sign s.Comma)
    queries.select_value
    (λ next. c.more.found ++ next ∷ []) c.more.input.rest.now _ _ _ c.eat.result
    c.eat.ensures.found c.more-test.true c.eat.ensures.after
    (c.in-Ok.ensures (reading g.rules c.args.room queries.select_value c.eat.new.self.rest.now)
    c.select_value-in-more.new.input.rest.now c.select_value-in-more.ensures)

pub select_values-returns-in-Err : goal.select_values-returns-in-Err
unfolding more_select_values
select_values-returns-in-Err t c = put_after_err c.args.room (kind.Sign s.Comma)
    queries.select_value
    (λ next. c.more.found ++ next ∷ []) c.more.found c.more.input.rest.now _ _ c.eat.result _ _
    c.more.invariant c.eat.ensures.found c.more-test.true c.eat.ensures.after
    (c.in-Err.ensures (reading g.rules c.args.room queries.select_value c.eat.new.self.rest.now)
    c.select_value-in-more.new.input.rest.now c.select_value-in-more.ensures)

pub rows-more-init : goal.rows-more-init
unfolding rows
rows-more-init t c =
    let p = was_read only (reading g.rules c.args.room queries.row c.args.input.now.rest.now)
    c.in_ok-found.found c.row.new.input.rest.now
    (c.in_ok-found.ensures (reading g.rules c.args.room queries.row c.args.input.now.rest.now)
    c.row.new.input.rest.now c.row.ensures) in
    after_first c.args.room queries.row queries.more_rows c.args.input.now.rest.now
    _ p.0 _ p.1.0 p.1.1

pub rows-more-preserved : goal.rows-more-preserved
unfolding more_rows
rows-more-preserved t c = put_after_step c.args.room (kind.Sign s.Comma) queries.row
    c.more.found _ c.more.input.rest.now _ _ c.eat.result _ c.more.invariant c.eat.ensures.found
    c.more-test.true c.eat.ensures.after
    (c.in-Ok.ensures (reading g.rules c.args.room queries.row c.eat.new.self.rest.now)
    c.row-in-more.new.input.rest.now c.row-in-more.ensures)

pub rows-more-smaller : goal.rows-more-smaller
rows-more-smaller t c = put_after_smaller c.args.room (kind.Sign s.Comma) queries.row
    (λ next. c.more.found ++ next ∷ []) c.more.input.rest.now _ _ _ c.eat.result
    c.eat.ensures.found c.more-test.true c.eat.ensures.after
    (c.in-Ok.ensures (reading g.rules c.args.room queries.row c.eat.new.self.rest.now)
    c.row-in-more.new.input.rest.now c.row-in-more.ensures)

pub rows-returns-in-Err : goal.rows-returns-in-Err
unfolding more_rows
rows-returns-in-Err t c = put_after_err c.args.room (kind.Sign s.Comma) queries.row
    (λ next. c.more.found ++ next ∷ []) c.more.found c.more.input.rest.now _ _ c.eat.result _ _
    c.more.invariant c.eat.ensures.found c.more-test.true c.eat.ensures.after
    (c.in-Err.ensures (reading g.rules c.args.room queries.row c.eat.new.self.rest.now)
    c.row-in-more.new.input.rest.now c.row-in-more.ensures)
