-- A function as one chain: the chain of its body.
use Rattle.std.specs.Prelude.{ℕ, Bool, List, Option}
use Rattle.sql_values.specs.declared.value.SqlType.{SqlType}
use Rattle.rel_algebra.specs.Emit.{Emitted}
use Rattle.rel_algebra.specs.Plan.{PlanTree, Scalar, Scalars}
use Rattle.rel_algebra.specs.Tree.{Expr, Query}
use Rattle.rel_algebra.specs.BodyChain as body
pub use Rattle.rel_algebra.specs.BodyChain.{place_at, column_at, reading, with_column, with_columns}
pub use Rattle.rel_algebra.specs.BodyChain.{target_stores, one_step, assigns, assigns_if}
pub use Rattle.rel_algebra.specs.BodyChain.{into_folded, into_asked, into_by, raising_step}
pub use Rattle.rel_algebra.specs.BodyChain.{one_raise, push, text_of, pushing, not_active_cell}
pub use Rattle.rel_algebra.specs.BodyChain.{not_stacked_cell, case_not_found_cell}
pub use Rattle.rel_algebra.specs.BodyChain.{without_return_cell, statement_cell, statement_cells}
pub use Rattle.rel_algebra.specs.BodyChain.{emit_statement_items, item_cell, condition_cells, Rest}
pub use Rattle.rel_algebra.specs.BodyChain.{and_on, branching, not_found, tested, equal_to, set_at}
pub use Rattle.rel_algebra.specs.BodyChain.{with_variables, exits_in, out_in, inside, ending_env}
pub use Rattle.rel_algebra.specs.BodyChain.{its_own, ending, ending_width, sealed_step, whole_raise}
pub use Rattle.rel_algebra.specs.BodyChain.{compounded, null_of, assigned_as, null_scalars, top}
pub use Rattle.rel_algebra.specs.BodyChain.{raised_area, last_cell, first_cells, arguments}
pub use Rattle.rel_algebra.specs.BodyChain.{outer_columns}
use Rattle.rel_algebra.specs.BodyDispatch.{Env, Emit, Coded, Codes}
pub use Rattle.rel_algebra.specs.Leaves.{Widths}
use Rattle.rel_algebra.specs.BodySteps.{Step}
use Rattle.regions.specs.Tree.{ConditionRead, Target, Perhaps, Variables, Stmt, Stmts, Branches}
use Rattle.regions.specs.Tree.{Handlers, Routine}
use Rattle.regions.specs.TreeBodies.{value_leaf, query_leaf, perhaps_body, variables_body}
use Rattle.regions.specs.TreeBodies.{stmt_body, stmts_body, branches_body, handlers_body}
use Rattle.regions.specs.TreeBodies.{routine_body}

-- an expression, over a row of n columns
abbrev pub emitted : Expr → Widths → Env → ℕ → Emitted
emitted e = body.emitted (value_leaf e)

-- SET: the value, as its target takes it
abbrev pub emit_set : Target → Expr → Widths → Codes → Emit
emit_set t e = body.emit_set t (value_leaf e)

-- a return is at code 0
abbrev pub emit_return : Expr → Widths → Codes → Emit
emit_return e = body.emit_return (value_leaf e)

-- SELECT INTO
abbrev pub emit_into : Query → List Target → Widths → Codes → Emit
emit_into query = body.emit_into (query_leaf query)

-- an expression, and the empty text where there is none
abbrev pub perhaps_emitted : Perhaps → Widths → Env → ℕ → Emitted
perhaps_emitted text = body.perhaps_emitted (perhaps_body text)

-- SIGNAL
abbrev pub emit_signal : List ℕ → Perhaps → Widths → Codes → Emit
emit_signal state text = body.emit_signal state (perhaps_body text)

-- the handled area, in column c, again
abbrev pub again : Option (List ℕ) → Perhaps → Scalar → ℕ → Scalar
again state text = body.again state (perhaps_body text)

-- RESIGNAL, by the column of the handled area
abbrev pub emit_again : Option ℕ → Option (List ℕ) → Perhaps → Widths → Codes → Emit
emit_again stacked state text = body.emit_again stacked state (perhaps_body text)

-- GET STACKED DIAGNOSTICS of the condition with a number
abbrev pub emit_condition_items : Option ℕ → Expr → List ConditionRead → Widths → Codes → Emit
emit_condition_items stacked number = body.emit_condition_items stacked (value_leaf number)

-- CASE with an operand, which stands in column n until its end
abbrev pub compared_with : Expr → Widths → Codes → (ℕ → Rest) → Emit
compared_with e = body.compared_with (value_leaf e)

-- how many variables declarations make
abbrev pub variable_count : Variables → ℕ
variable_count variables = body.variable_count (variables_body variables)

-- whether there is an expression
abbrev pub is_given : Perhaps → Bool
is_given default = body.is_given (perhaps_body default)

-- whether one has a default, which may raise
abbrev pub has_default : Variables → Bool
has_default variables = body.has_default (variables_body variables)

-- a default is evaluated once
abbrev pub declared : Perhaps → ℕ → SqlType → Widths → Codes → Env → ℕ → ℕ → ℕ → ℕ → Step
declared default = body.declared (perhaps_body default)

-- declarations, each on the columns of those before it
abbrev pub emit_declares : Variables → Widths → Codes → Rest
emit_declares variables = body.emit_declares (variables_body variables)

-- a statement
abbrev pub emit : Stmt → Widths → Codes → Emit
emit s = body.emit (stmt_body s)

-- statements in order
abbrev pub emit_all : Stmts → Widths → Codes → Emit
emit_all ss = body.emit_all (stmts_body ss)

-- the statements of ELSE, without which CASE raises
abbrev pub emit_else : Stmts → Widths → Codes → Rest
emit_else ss = body.emit_else (stmts_body ss)

-- tests with their statements
abbrev pub emit_branches : Branches → Widths → Codes → Rest → Rest
emit_branches branches = body.emit_branches (branches_body branches)

-- what column x is compared with, with their statements
abbrev pub emit_matching : Branches → ℕ → Widths → Codes → Rest → Rest
emit_matching branches = body.emit_matching (branches_body branches)

-- the handlers of a compound statement, by those outside it
abbrev pub coded : Handlers → Widths → Codes → List Coded
coded handlers = body.coded (handlers_body handlers)

-- the parameters are read once, by these scalars
abbrev pub inline_with : Routine → Widths → Scalars → PlanTree
inline_with r = body.inline_with (routine_body r)

-- the same, its parameters the arguments of the whole plan
abbrev pub inline : Routine → Widths → PlanTree
inline r = body.inline (routine_body r)

-- the plan of a function as a region, which reads its parameters from the k columns from m on of
-- the row outside
abbrev pub region : Routine → Widths → ℕ → ℕ → PlanTree
region r = body.region (routine_body r)
