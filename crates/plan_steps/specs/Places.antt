-- What stands around a statement as the code has it, and which parts of bodies its trees stand for.
use Rattle.std.specs.Prelude.{ℕ, Bool, false, ◌||◌, List, [], ◌∷◌, map, Option}
use Rattle.bound_trees.specs.declared.expr.BoundExpr.{BoundExpr}
use Rattle.bound_trees.specs.declared.query.BoundQuery.{BoundQuery}
use Rattle.bound_trees.specs.declared.statement.BoundBlock.{BoundBlock}
use Rattle.bound_trees.specs.declared.statement.BoundBranch.{BoundBranch}
use Rattle.bound_trees.specs.declared.statement.BoundHandler.{BoundHandler, out-BoundHandler}
use Rattle.bound_trees.specs.declared.statement.BoundStmt.{BoundStmt}
use Rattle.bound_trees.specs.declared.statement.BoundVariables.{BoundVariables}
use Rattle.sql_values.specs.declared.value.SqlType.{SqlType}
use Rattle.rel_algebra.specs.Bodies as body
use Rattle.rel_algebra.specs.Bodies.{HandlerType}
use Rattle.rel_algebra.specs.BodyChain.{emit, its_own, set_at}
use Rattle.rel_algebra.specs.BodyDispatch.{Env, Coded, CodedScope, Codes, aimed, is_continue}
use Rattle.rel_algebra.specs.Leaves.{ValueLeaf, QueryLeaf, Widths}
use Rattle.block_plans.specs.Callees.{Callees, width_in}
use Rattle.block_plans.specs.View.{expr_seen, query_seen}
use Rattle.regions.specs.Tree as region
use Rattle.regions.specs.TreeBodies.{value_leaf, query_leaf, perhaps_body, variables_body, stmt_body}
use Rattle.regions.specs.TreeBodies.{stmts_body, branches_body, handlers_body, routine_body}
use Rattle.routine_views.specs.Views.{condition_value, handler_type}
use Rattle.region_trees.specs.Regions.{seen_by, perhaps, variables, stmts, branches, handlers}
use Rattle.region_trees.specs.Regions.{region_seen, region_of_block, region_of_branch}
use Rattle.region_trees.specs.Regions.{region_of_handler}
use Rattle.plan_steps.specs.declared.dispatch.Aim.{Aim}
use Rattle.plan_steps.specs.declared.dispatch.Aim.TheVariants as aim
use Rattle.plan_steps.specs.declared.place.Marks.{Marks, Mark'}
use Rattle.plan_steps.specs.declared.place.Marks.TheVariants as marks
use Rattle.plan_steps.specs.declared.place.Place.{Place}
use Rattle.plan_steps.specs.declared.sight.Scope.{Scope as ScopeCode}
use Rattle.plan_steps.specs.declared.sight.Sight.{Sight, Scope'}
use Rattle.plan_steps.specs.declared.sight.Sight.TheVariants as sight

-- ---- what trees stand for

-- an expression
abbrev pub leaf_in : Callees → BoundExpr → ValueLeaf
leaf_in k e = value_leaf (expr_seen k e)

-- a query
abbrev pub query_in : Callees → BoundQuery → QueryLeaf
query_in k q = query_leaf (query_seen k q)

-- an expression that may be left out
abbrev pub perhaps_in : Callees → Option BoundExpr → body.Perhaps
perhaps_in k e = perhaps_body (perhaps (seen_by k) e)

-- a default
abbrev pub default_in : Callees → BoundExpr → body.Perhaps
default_in k e = body.With (leaf_in k e)

-- declarations
abbrev pub variables_in : Callees → List BoundVariables → body.Variables
variables_in k vs = variables_body (variables (seen_by k) vs)

-- a statement
abbrev pub stmt_in : Callees → BoundStmt → body.Stmt
stmt_in k s = stmt_body (region_seen k s)

-- a compound statement
abbrev pub block_in : Callees → BoundBlock → body.Stmt
block_in k b = stmt_body (region_of_block (seen_by k) b)

-- statements in order
abbrev pub stmts_in : Callees → List BoundStmt → body.Stmts
stmts_in k ss = stmts_body (stmts (map (region_seen k) ss))

-- tests with their statements
abbrev pub branches_in : Callees → List BoundBranch → body.Branches
branches_in k bs = branches_body (branches (map (region_of_branch (seen_by k)) bs))

-- handlers
abbrev pub handlers_in : Callees → List BoundHandler → body.Handlers
handlers_in k hs = handlers_body (handlers (map (region_of_handler (seen_by k)) hs))

-- a function
abbrev pub function_in : Callees → List SqlType → SqlType → BoundStmt → body.Routine
function_in k types returns s = routine_body (region.Body types returns
    (region_seen k s))

-- ---- handlers in sight

-- a handler with the steps of its action, by those outside of it
abbrev pub coded_in : Callees → Codes → BoundHandler → Coded
coded_in k outer h = record {
  kind = handler_type (out-BoundHandler h).handler_type;
  takes = map condition_value (out-BoundHandler h).values;
  action = emit (stmt_in k (out-BoundHandler h).action) (width_in k) outer;
}

-- those of a compound statement
abbrev pub scope_in : Callees → Codes → ScopeCode → CodedScope
scope_in k outer s = record {
  handlers = map (coded_in k outer) s.handlers.now;
  level = s.level;
  variables = s.variables;
}

-- those of all compound statements around, the innermost first
abbrev pub codes_in : Callees → Sight → Codes
codes_in k sight.Nothing = []
codes_in k (Scope' s p outer) = scope_in k (codes_in k outer) s
    ∷ codes_in k outer

-- whether one of these goes on where the condition was raised
abbrev pub any_continues : List BoundHandler → Bool
any_continues [] = false
any_continues (h ∷ hs) = is_continue (handler_type (out-BoundHandler h).handler_type)
    || any_continues hs

-- the code of a handler, by its type and the code of its own
abbrev pub aimed_by : Aim → HandlerType → ℕ → ℕ
aimed_by (aim.Leaving exit) = aimed exit
aimed_by aim.Own = its_own

-- ---- places

-- the code of each level; 2 where none is marked
abbrev pub marked : Marks → ℕ → ℕ
marked marks.Nothing = λ l. 2
marked (Mark' level code p others) = set_at (marked others) level code

-- the environment of a place
abbrev pub env_in : Place → Env
env_in p = record {
  columns = p.columns.now;
  labels = marked p.labels.now;
  exits = marked p.exits.now;
  out = p.out;
  stacked = p.stacked;
  level = p.level;
}

-- the handlers in sight at a place
abbrev pub codes_of : Place → Codes
codes_of p = codes_in p.functions.now p.sight.now

-- how wide tables are at a place
abbrev pub widths_in : Place → Widths
widths_in p = width_in p.functions.now
