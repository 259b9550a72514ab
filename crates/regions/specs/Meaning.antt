-- What statements and functions in form do, for given tables: what their bodies do.
use Rattle.std.specs.Prelude.{ℕ, List, Option}
use Rattle.sql_values.specs.declared.value.Value.{Value}
use Rattle.rel_algebra.specs.Endings.{Ending}
use Rattle.rel_algebra.specs.Plain.{Inputs, ev}
use Rattle.rel_algebra.specs.Tree.{Expr}
use Rattle.row_types.specs.declared.cell.Cell.{Cell}
use Rattle.rel_algebra.specs.BodyMeaning as body
pub use Rattle.rel_algebra.specs.BodyMeaning.{Context, no_context, inside_scopes, in_action, seen}
pub use Rattle.rel_algebra.specs.BodyMeaning.{one_row, with_text, signalling, resignalling, choose}
pub use Rattle.rel_algebra.specs.BodyMeaning.{or_empty, again_as, statement_item, statement_targets}
pub use Rattle.rel_algebra.specs.BodyMeaning.{statement_values, condition_targets, condition_values}
pub use Rattle.rel_algebra.specs.BodyMeaning.{reading_into, getting_area, of_condition}
pub use Rattle.rel_algebra.specs.BodyMeaning.{getting_condition, returned_or}
use Rattle.rel_algebra.specs.BodyDoing.{Frame, Doing}
use Rattle.rel_algebra.specs.BodyHandlers.{Handling, Scopes}
use Rattle.regions.specs.Tree.{Perhaps, Variables, Stmt, Stmts, Branches, Handlers, Routine}
use Rattle.regions.specs.TreeBodies.{perhaps_body, variables_body, stmt_body, stmts_body}
use Rattle.regions.specs.TreeBodies.{branches_body, handlers_body, routine_body}

-- the value of an expression in a frame
abbrev pub value_in : Inputs → Expr → Frame → Ending Value
value_in w e f = ev e w (seen f)

-- an expression that may be left out
abbrev pub perhaps_in : Inputs → Perhaps → Frame → Ending (Option Value)
perhaps_in w text = body.perhaps_in w (perhaps_body text)

-- the variables of a compound statement, after those in sight
abbrev pub declare : Variables → Inputs → Frame → Ending Frame
declare variables = body.declare (variables_body variables)

-- what a statement does
abbrev pub does : Stmt → Inputs → Context → Doing
does s = body.does (stmt_body s)

-- in their order, as long as each ends with Next
abbrev pub does_all : Stmts → Inputs → Context → Doing
does_all ss = body.does_all (stmts_body ss)

-- the statements of ELSE, without which CASE raises
abbrev pub does_else : Stmts → Inputs → Context → Doing
does_else ss = body.does_else (stmts_body ss)

-- the statements of the first test that is true
abbrev pub does_branches : Branches → Inputs → Context → Doing → Doing
does_branches branches = body.does_branches (branches_body branches)

-- the statements of the first value that is equal
abbrev pub does_matching : Branches → Value → Inputs → Context → Doing → Doing
does_matching branches = body.does_matching (branches_body branches)

-- the handlers of a compound statement at a level, by those outside it
abbrev pub handlings : Handlers → Inputs → ℕ → Scopes → List Handling
handlings handlers = body.handlings (handlers_body handlers)

-- a call, with the values that the parameters took
abbrev pub call : Routine → List Value → Inputs → Ending Value
call r = body.call (routine_body r)

-- what a call gives for cells of arguments
abbrev pub called_with : Routine → Inputs → List Cell → Ending Value
called_with r = body.called_with (routine_body r)
