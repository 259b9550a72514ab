use Rattle.std.proofs.Common.{◌≡◌, ◌+◌, ◌*◌, length}
use Rattle.grammar_algebra.specs.Reading.{reading, with_front}
use Rattle.grammar_sql.specs.Expressions as expressions
use Rattle.grammar_sql.specs.Queries as queries
use Rattle.grammar_sql.specs.Sql as g
use Rattle.parse_queries.proofs.Ranks.{rank}
use Rattle.parse_queries.proofs.queries.+parser.Given as goal

abbrev pub decreases-operand : goal.decreases-operand
decreases-operand l = l.room * 40 + (rank l.level + 0)

abbrev pub decreases-link : goal.decreases-link
decreases-link l = l.room * 40 + (rank l.level + 1)

abbrev pub decreases-links : goal.decreases-links
decreases-links l = l.room * 40 + (rank l.level + 2)

abbrev pub decreases-chain : goal.decreases-chain
decreases-chain l = l.room * 40 + (rank l.level + 3)

abbrev pub decreases-arguments : goal.decreases-arguments
decreases-arguments l = l.room * 40 + 0

abbrev pub decreases-bracketed_operands : goal.decreases-bracketed_operands
decreases-bracketed_operands l = l.room * 40 + 0

abbrev pub decreases-in_brackets : goal.decreases-in_brackets
decreases-in_brackets l = l.room * 40 + 0

abbrev pub decreases-in_value : goal.decreases-in_value
decreases-in_value l = l.room * 40 + 0

abbrev pub decreases-case_expression : goal.decreases-case_expression
decreases-case_expression l = l.room * 40 + 0

abbrev pub decreases-bracketed_query : goal.decreases-bracketed_query
decreases-bracketed_query l = l.room * 40 + 0

abbrev pub decreases-named : goal.decreases-named
decreases-named l = l.room * 40 + 1

abbrev pub decreases-function_call : goal.decreases-function_call
decreases-function_call l = l.room * 40 + 1

abbrev pub decreases-exists : goal.decreases-exists
decreases-exists l = l.room * 40 + 1

abbrev pub decreases-row : goal.decreases-row
decreases-row l = l.room * 40 + 1

abbrev pub decreases-table_ref : goal.decreases-table_ref
decreases-table_ref l = l.room * 40 + 2

abbrev pub decreases-primary : goal.decreases-primary
decreases-primary l = l.room * 40 + 2

abbrev pub decreases-rows : goal.decreases-rows
decreases-rows l = l.room * 40 + 2

abbrev pub decreases-values : goal.decreases-values
decreases-values l = l.room * 40 + 3

abbrev pub decreases-compared : goal.decreases-compared
decreases-compared l = l.room * 40 + 11

abbrev pub decreases-predicate_part : goal.decreases-predicate_part
decreases-predicate_part l = l.room * 40 + 12

abbrev pub decreases-predicate : goal.decreases-predicate
decreases-predicate l = l.room * 40 + 13

abbrev pub decreases-expr : goal.decreases-expr
decreases-expr l = l.room * 40 + 22

abbrev pub decreases-after : goal.decreases-after
decreases-after l = l.room * 40 + 23

abbrev pub decreases-aggregate : goal.decreases-aggregate
decreases-aggregate l = l.room * 40 + 23

abbrev pub decreases-select_value : goal.decreases-select_value
decreases-select_value l = l.room * 40 + 23

abbrev pub decreases-if_expr : goal.decreases-if_expr
decreases-if_expr l = l.room * 40 + 23

abbrev pub decreases-if_after : goal.decreases-if_after
decreases-if_after l = l.room * 40 + 24

abbrev pub decreases-when_clause : goal.decreases-when_clause
decreases-when_clause l = l.room * 40 + 24

abbrev pub decreases-exprs : goal.decreases-exprs
decreases-exprs l = l.room * 40 + 24

abbrev pub decreases-select_values : goal.decreases-select_values
decreases-select_values l = l.room * 40 + 24

abbrev pub decreases-joined_after : goal.decreases-joined_after
decreases-joined_after l = l.room * 40 + 24

abbrev pub decreases-when_clauses : goal.decreases-when_clauses
decreases-when_clauses l = l.room * 40 + 25

abbrev pub decreases-modulo : goal.decreases-modulo
decreases-modulo l = l.room * 40 + 24

abbrev pub decreases-substring : goal.decreases-substring
decreases-substring l = l.room * 40 + 26

abbrev pub decreases-cast : goal.decreases-cast
decreases-cast l = l.room * 40 + 23

abbrev pub decreases-query_or_expr : goal.decreases-query_or_expr
decreases-query_or_expr l = l.room * 40 + 32

abbrev pub decreases-query_or_exprs : goal.decreases-query_or_exprs
decreases-query_or_exprs l = l.room * 40 + 32

abbrev pub decreases-operands : goal.decreases-operands
decreases-operands l = l.room * 40 + 27

abbrev pub decreases-select_list : goal.decreases-select_list
decreases-select_list l = l.room * 40 + 25

abbrev pub decreases-conditions : goal.decreases-conditions
decreases-conditions l = l.room * 40 + 26

abbrev pub decreases-from_item : goal.decreases-from_item
decreases-from_item l = l.room * 40 + 25

abbrev pub decreases-arms : goal.decreases-arms
decreases-arms l = l.room * 40 + 26

abbrev pub decreases-from_items : goal.decreases-from_items
decreases-from_items l = l.room * 40 + 26

abbrev pub decreases-cases : goal.decreases-cases
decreases-cases l = l.room * 40 + 27

abbrev pub decreases-from_clause : goal.decreases-from_clause
decreases-from_clause l = l.room * 40 + 27

abbrev pub decreases-selection : goal.decreases-selection
decreases-selection l = l.room * 40 + 29

abbrev pub decreases-if_exprs : goal.decreases-if_exprs
decreases-if_exprs l = l.room * 40 + 25

abbrev pub decreases-select : goal.decreases-select
decreases-select l = l.room * 40 + 30

abbrev pub decreases-query : goal.decreases-query
decreases-query l = l.room * 40 + 31

abbrev pub decreases-derived_table : goal.decreases-derived_table
decreases-derived_table l = l.room * 40 + 1

abbrev pub decreases-places : goal.decreases-places
decreases-places l = l.room * 40 + 25

abbrev pub decreases-grouping : goal.decreases-grouping
decreases-grouping l = l.room * 40 + 25

abbrev pub decreases-table_expression : goal.decreases-table_expression
decreases-table_expression l = l.room * 40 + 28

abbrev pub decreases-links-more : goal.decreases-links-more
decreases-links-more l = length l.input.rest.now

abbrev pub invariant-links-more : goal.invariant-links-more
invariant-links-more l =
    with_front l.found (reading g.rules l.room (expressions.links_at l.level) l.input.rest.now) ≡
    reading g.rules l.room (expressions.links_at l.level) l.initial.input.rest.now

abbrev pub decreases-exprs-more : goal.decreases-exprs-more
decreases-exprs-more l = length l.input.rest.now

abbrev pub invariant-exprs-more : goal.invariant-exprs-more
invariant-exprs-more l =
    with_front l.found (reading g.rules l.room expressions.more_exprs l.input.rest.now) ≡
    reading g.rules l.room expressions.exprs l.fn.input.rest.now

abbrev pub decreases-when_clauses-more : goal.decreases-when_clauses-more
decreases-when_clauses-more l = length l.input.rest.now

abbrev pub invariant-when_clauses-more : goal.invariant-when_clauses-more
invariant-when_clauses-more l =
    with_front l.found (reading g.rules l.room expressions.more_when_clauses l.input.rest.now) ≡
    reading g.rules l.room expressions.when_clauses l.fn.input.rest.now

abbrev pub decreases-select_values-more : goal.decreases-select_values-more
decreases-select_values-more l = length l.input.rest.now

abbrev pub invariant-select_values-more : goal.invariant-select_values-more
invariant-select_values-more l =
    with_front l.found (reading g.rules l.room queries.more_select_values l.input.rest.now) ≡
    reading g.rules l.room queries.select_values l.fn.input.rest.now

abbrev pub decreases-from_items-more : goal.decreases-from_items-more
decreases-from_items-more l = length l.input.rest.now

abbrev pub invariant-from_items-more : goal.invariant-from_items-more
invariant-from_items-more l =
    with_front l.found (reading g.rules l.room queries.more_from_items l.input.rest.now) ≡
    reading g.rules l.room queries.from_items l.fn.input.rest.now

abbrev pub decreases-rows-more : goal.decreases-rows-more
decreases-rows-more l = length l.input.rest.now

abbrev pub invariant-rows-more : goal.invariant-rows-more
invariant-rows-more l =
    with_front l.found (reading g.rules l.room queries.more_rows l.input.rest.now) ≡
    reading g.rules l.room queries.rows l.fn.input.rest.now
