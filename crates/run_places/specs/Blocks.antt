-- Compound statements in code, by their parts. ISO/IEC 9075-4, 14.1 (compound statement) and 14.2
-- (handler declaration).
use Rattle.std.specs.Prelude.{◌≡◌, ℕ, List, ◌++◌, map, length, Result, Ok, Err}
use Rattle.row_types.specs.Tables.{Tables}
use Rattle.bound_trees.specs.declared.statement.BoundBlock.{BoundBlock, out-BoundBlock}
use Rattle.rel_algebra.specs.Tree.{Handlers, Query}
use Rattle.rel_algebra.specs.World.{Frame}
use Rattle.rel_algebra.specs.Doing.{Doing}
use Rattle.rel_algebra.specs.Handlers.{Handling}
use Rattle.rel_algebra.specs.Compounds.{listed, scopes_in, with_closed}
use Rattle.rel_algebra.specs.Meaning.{does_all, handlings, inside_scopes}
use Rattle.routine_views.specs.Views.{Known, handlers, query_in}
use Rattle.run_choices.specs.declared.stop.Stop.{Stop}
use Rattle.run_expressions.specs.Content.{Content, Stays}
use Rattle.run_outcomes.specs.declared.choice.Scope.{Scope}
use Rattle.run_outcomes.specs.Scopes.{handling_by, scopes_by}
use Rattle.run_places.specs.declared.place.Place.{Place}
use Rattle.run_places.specs.Acting.{acts_of}
use Rattle.run_places.specs.Places.{context_of, handler_in, known_of, queries_of}
use Rattle.run_places.specs.Statements.{stmts_in}

-- from a start, at which this mark was taken, what each run keeps is kept so far
pub record IsSince (mark : ℕ) (start now : Content) : Type 0 where
  pub at : mark ≡ length start.book.entries
  pub stays : Stays start now

-- the frame that declarations leave, where they didn't stop
abbrev pub made : Result (Unit {0}) Stop → Frame → Result Frame Stop
made (Ok u) f = Ok f
made (Err stop) f = Err stop

-- the handlers of a compound statement, by those in code outside of it
abbrev pub handlings_by : Place → List Scope → Scope → List Handling
handlings_by place outer own =
    map (handling_by (acts_of place (scopes_by (acts_of place) outer) own)) own.handlers.now

-- the plain handlers of a compound statement, by the queries of the cursors that they see
abbrev pub handlers_at : Known → BoundBlock → List Query → Handlers
handlers_at k block cursors = handlers (map (handler_in k) (out-BoundBlock block).handlers) cursors

-- the statements of a compound statement with its handlers, by the queries of the cursors that they
-- see, and the tables of its start
abbrev pub body_by : Place → BoundBlock → List Query → Tables → Doing
body_by place block cursors start =
    let b = out-BoundBlock block in
    let k = known_of place in
    let c = context_of place in
    let outer = scopes_in b.atomic c.scopes in
    listed c.level start outer (handlings (handlers_at k block cursors) c outer)
    (λ scopes. does_all (stmts_in k b.statements cursors) (inside_scopes scopes c))

-- the same with its cursors, all closed
abbrev pub statements_by : Place → BoundBlock → Tables → Doing
statements_by place block start =
    let b = out-BoundBlock block in
    with_closed (length b.cursors)
    (body_by place block (queries_of place ++ map (query_in (known_of place)) b.cursors) start)
