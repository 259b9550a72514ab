use Rattle.std.proofs.Common.{◌≡◌, ◌∷◌, ◌++◌, [], false, refl}
use Rattle.sql_lex.specs.declared.token.TokenKind.{TokenKind}
use Rattle.grammar_algebra.specs.declared.stage.Stage.{Stage}
use Rattle.grammar_algebra.specs.Reading.{nullable, reading}
use Rattle.grammar_algebra.proofs.Laws.{each_smaller, staged_step}
use Rattle.grammar_sql.specs.Trees.{ident}
use Rattle.grammar_sql.specs.Queries.{select_word}
use Rattle.grammar_sql.specs.Writing.{dml, insert, insert_word, update, update_word, delete}
use Rattle.grammar_sql.specs.Writing.{delete_word, call, call_word}
use Rattle.grammar_sql.specs.Conditions.{signal, signal_word, resignal, resignal_word}
use Rattle.grammar_sql.specs.Conditions.{get_diagnostics, get_word}
use Rattle.grammar_sql.specs.Statements.{ended, stmt, labelled, if_label, label, structures}
use Rattle.grammar_sql.specs.Statements.{structure, construct, if_statement, if_construct}
use Rattle.grammar_sql.specs.Statements.{case_statement, case_construct, simple_statement, storing}
use Rattle.grammar_sql.specs.Statements.{set_statement, set_word, select_into, cursor_statement}
use Rattle.grammar_sql.specs.Statements.{open_statement, open_word, close_statement, close_word}
use Rattle.grammar_sql.specs.Statements.{fetch, fetch_word, condition_statement, leaving}
use Rattle.grammar_sql.specs.Statements.{leave_statement, leave_word, iterate_statement}
use Rattle.grammar_sql.specs.Statements.{iterate_word, return_statement, return_word, statements}
use Rattle.grammar_sql.specs.Statements.{branch_after, more_branches}
use Rattle.grammar_sql.specs.Declarations.{declaration, declarations, next_stage}
use Rattle.grammar_sql.specs.Sql as g
use Rattle.parse_reads.proofs.Laws.{put_step, put_smaller}
use Rattle.parse_bodies.proofs.statements.+statement.Goals as goal

-- A declaration has its word, a branch the word before it, and a statement its semicolon.
declaration_is_some : (stage : Stage) → nullable (declaration stage) ≡ false
unfolding declaration
declaration_is_some stage = refl

branch_is_some : (k : TokenKind) → nullable (branch_after k) ≡ false
unfolding branch_after
branch_is_some k = refl

ended_is_some : nullable ended ≡ false
unfolding ended stmt labelled if_label label structures structure construct ident if_statement
    if_construct case_statement case_construct simple_statement storing dml insert insert_word
    update update_word delete delete_word call call_word set_statement set_word select_into
    select_word cursor_statement open_statement open_word close_statement close_word fetch
    fetch_word condition_statement signal signal_word resignal resignal_word get_diagnostics
    get_word leaving leave_statement leave_word iterate_statement iterate_word return_statement
    return_word
ended_is_some = refl

pub declarations-more-preserved : goal.declarations-more-preserved
declarations-more-preserved t c = staged_step g.rules c.args.room declaration next_stage
    declaration_is_some c.more.found _ c.more.stage _ c.more.input.rest.now _ _
    c.begins_declaration.result _ c.more.invariant c.begins_declaration.ensures c.more-test.true
    c.in-Ok.ensures c.in_ok-push-in-Ok.ensures.ok c.next_stage-stage.ensures

pub declarations-more-smaller : goal.declarations-more-smaller
declarations-more-smaller t c = each_smaller g.rules c.args.room (declaration c.more.stage)
    (declaration_is_some c.more.stage) c.more.input.rest.now _ _ c.in-Ok.ensures

pub statements-more-preserved : goal.statements-more-preserved
unfolding statements
statements-more-preserved t c = put_step c.args.room ended ended_is_some
    c.more.found _ c.more.input.rest.now _ c.begins_stmt.result _ c.more.invariant c.begins_stmt.ensures
    c.more-test.true
    (c.in_ok-found.ensures
    (reading g.rules c.args.room ended c.more.input.rest.now)
    c.ended.new.input.rest.now c.ended.ensures)

pub statements-more-smaller : goal.statements-more-smaller
statements-more-smaller t c = put_smaller c.args.room ended ended_is_some
    (λ next. c.more.found ++ next ∷ []) c.more.input.rest.now _ _
    (c.in_ok-found.ensures
    (reading g.rules c.args.room ended c.more.input.rest.now)
    c.ended.new.input.rest.now c.ended.ensures)

pub more_branches-more-preserved : goal.more_branches-more-preserved
unfolding more_branches
more_branches-more-preserved t c = put_step c.args.room (branch_after c.args.kind) (branch_is_some c.args.kind)
    c.more.found _ c.more.input.rest.now _ c.begins_branch.result _ c.more.invariant c.begins_branch.ensures
    c.more-test.true
    (c.in_ok-found.ensures
    (reading g.rules c.args.room (branch_after c.args.kind) c.more.input.rest.now)
    c.branch_after.new.input.rest.now c.branch_after.ensures)

pub more_branches-more-smaller : goal.more_branches-more-smaller
more_branches-more-smaller t c = put_smaller c.args.room (branch_after c.args.kind) (branch_is_some c.args.kind)
    (λ next. c.more.found ++ next ∷ []) c.more.input.rest.now _ _
    (c.in_ok-found.ensures
    (reading g.rules c.args.room (branch_after c.args.kind) c.more.input.rest.now)
    c.branch_after.new.input.rest.now c.branch_after.ensures)
