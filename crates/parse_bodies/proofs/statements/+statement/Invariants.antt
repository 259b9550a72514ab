use Rattle.std.proofs.Common.{◌≡◌, ◌+◌, ◌*◌, length}
use Rattle.grammar_algebra.specs.Grammar.{staged}
use Rattle.grammar_algebra.specs.Reading.{reading, with_front}
use Rattle.grammar_algebra.specs.declared.stage.Stage.TheVariants.{First}
use Rattle.grammar_sql.specs.Declarations.{declaration, next_stage}
use Rattle.grammar_sql.specs.Statements as s
use Rattle.grammar_sql.specs.Sql as g
use Rattle.parse_bodies.proofs.statements.+statement.Given as goal

abbrev pub decreases-construct : goal.decreases-construct
decreases-construct l = l.room * 16 + 0

abbrev pub decreases-if_construct : goal.decreases-if_construct
decreases-if_construct l = l.room * 16 + 0

abbrev pub decreases-case_construct : goal.decreases-case_construct
decreases-case_construct l = l.room * 16 + 0

abbrev pub decreases-structure : goal.decreases-structure
decreases-structure l = l.room * 16 + 1

abbrev pub decreases-if_statement : goal.decreases-if_statement
decreases-if_statement l = l.room * 16 + 1

abbrev pub decreases-case_statement : goal.decreases-case_statement
decreases-case_statement l = l.room * 16 + 1

abbrev pub decreases-labelled : goal.decreases-labelled
decreases-labelled l = l.room * 16 + 2

abbrev pub decreases-stmt : goal.decreases-stmt
decreases-stmt l = l.room * 16 + 3

abbrev pub decreases-handled_action : goal.decreases-handled_action
decreases-handled_action l = l.room * 16 + 4

abbrev pub decreases-handler : goal.decreases-handler
decreases-handler l = l.room * 16 + 5

abbrev pub decreases-declared_at : goal.decreases-declared_at
decreases-declared_at l = l.room * 16 + 6

abbrev pub decreases-declaration : goal.decreases-declaration
decreases-declaration l = l.room * 16 + 7

abbrev pub decreases-declarations : goal.decreases-declarations
decreases-declarations l = l.room * 16 + 8

abbrev pub decreases-declared_statements : goal.decreases-declared_statements
decreases-declared_statements l = l.room * 16 + 9

abbrev pub decreases-block_body : goal.decreases-block_body
decreases-block_body l = l.room * 16 + 10

abbrev pub decreases-ended : goal.decreases-ended
decreases-ended l = l.room * 16 + 4

abbrev pub decreases-statements : goal.decreases-statements
decreases-statements l = l.room * 16 + 5

abbrev pub decreases-body : goal.decreases-body
decreases-body l = l.room * 16 + 6

abbrev pub decreases-body_after : goal.decreases-body_after
decreases-body_after l = l.room * 16 + 7

abbrev pub decreases-branch : goal.decreases-branch
decreases-branch l = l.room * 16 + 8

abbrev pub decreases-branch_after : goal.decreases-branch_after
decreases-branch_after l = l.room * 16 + 9

abbrev pub decreases-more_branches : goal.decreases-more_branches
decreases-more_branches l = l.room * 16 + 10

abbrev pub decreases-branches : goal.decreases-branches
decreases-branches l = l.room * 16 + 11

abbrev pub decreases-when_branches : goal.decreases-when_branches
decreases-when_branches l = l.room * 16 + 11

abbrev pub decreases-otherwise : goal.decreases-otherwise
decreases-otherwise l = l.room * 16 + 8

abbrev pub decreases-if_body : goal.decreases-if_body
decreases-if_body l = l.room * 16 + 12

abbrev pub decreases-case_branches : goal.decreases-case_branches
decreases-case_branches l = l.room * 16 + 12

abbrev pub decreases-case_body : goal.decreases-case_body
decreases-case_body l = l.room * 16 + 13

abbrev pub decreases-while_body : goal.decreases-while_body
decreases-while_body l = l.room * 16 + 8

abbrev pub decreases-repeat_body : goal.decreases-repeat_body
decreases-repeat_body l = l.room * 16 + 7

abbrev pub decreases-for_rows : goal.decreases-for_rows
decreases-for_rows l = l.room * 16 + 8

abbrev pub decreases-for_body : goal.decreases-for_body
decreases-for_body l = l.room * 16 + 9

abbrev pub decreases-structure_body : goal.decreases-structure_body
decreases-structure_body l = l.room * 16 + 13

abbrev pub decreases-declarations-more : goal.decreases-declarations-more
decreases-declarations-more l = length l.input.rest.now

abbrev pub invariant-declarations-more : goal.invariant-declarations-more
invariant-declarations-more l =
    with_front l.found (reading g.rules l.room (staged declaration next_stage l.stage)
    l.input.rest.now) ≡ reading g.rules l.room (staged declaration next_stage First)
    l.fn.input.rest.now

abbrev pub decreases-statements-more : goal.decreases-statements-more
decreases-statements-more l = length l.input.rest.now

abbrev pub invariant-statements-more : goal.invariant-statements-more
invariant-statements-more l =
    with_front l.found (reading g.rules l.room s.statements l.input.rest.now) ≡
    reading g.rules l.room s.statements l.fn.input.rest.now

abbrev pub decreases-more_branches-more : goal.decreases-more_branches-more
decreases-more_branches-more l = length l.input.rest.now

abbrev pub invariant-more_branches-more : goal.invariant-more_branches-more
invariant-more_branches-more l =
    with_front l.found (reading g.rules l.room (s.more_branches l.kind) l.input.rest.now) ≡
    reading g.rules l.room (s.more_branches l.kind) l.fn.input.rest.now
