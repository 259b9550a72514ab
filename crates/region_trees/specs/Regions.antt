-- Which tree of a plan a bound statement in form stands for, by how its expressions and queries are
-- seen.
-- ISO/IEC 9075-4, 14 (control statements) and 17 (diagnostics management); ISO/IEC 9075-2, 14.7,
-- 15.2 and 23.1.
use Rattle.std.specs.Prelude.{false, List, [], ◌∷◌, map, Option, Some, None}
use Rattle.bound_trees.specs.declared.condition.BoundInformation.{BoundInformation}
use Rattle.bound_trees.specs.declared.condition.BoundInformation.TheVariants as information
use Rattle.bound_trees.specs.declared.expr.BoundExpr.{BoundExpr}
use Rattle.bound_trees.specs.declared.statement.BoundBlock.{BoundBlock, fold-BoundBlock}
use Rattle.bound_trees.specs.declared.statement.BoundBranch.{BoundBranch, fold-BoundBranch}
use Rattle.bound_trees.specs.declared.statement.BoundHandler.{BoundHandler, fold-BoundHandler}
use Rattle.bound_trees.specs.declared.statement.BoundStmt.{BoundStmt, fold-BoundStmt}
use Rattle.bound_trees.specs.declared.statement.BoundStmt.TheOpen.{BoundStmt-F, BoundBlock-F}
use Rattle.bound_trees.specs.declared.statement.BoundStmt.TheOpen.{BoundBranch-F, BoundHandler-F}
use Rattle.bound_trees.specs.declared.statement.BoundVariables.{BoundVariables}
use Rattle.bound_trees.specs.declared.query.BoundQuery.{BoundQuery}
use Rattle.rel_algebra.specs.Tree.{Expr, Query, Perhaps, With, Without, Variables, NoVariable}
use Rattle.rel_algebra.specs.Tree.{MoreVariables, HandlerType, ConditionValue}
use Rattle.regions.specs.Tree as region
use Rattle.regions.specs.Tree.{Stmt, Stmts, Branches, Handlers}
use Rattle.routine_views.specs.Views.{Known, expr_in, query_in, target, condition_value}
use Rattle.routine_views.specs.Views.{handler_type, statement_read, condition_read}
use Rattle.block_plans.specs.Callees.{Callees}
use Rattle.block_plans.specs.View.{expr_seen, query_seen}

-- how expressions and queries are seen
pub record Seeing : Type 0 where
  pub expression : BoundExpr → Expr
  pub query : BoundQuery → Query

-- as their calls are of the routines that stand around
abbrev pub seen_in : Known → Seeing
seen_in k = record { expression = expr_in k; query = query_in k }

-- as their calls run what has a plan
abbrev pub seen_by : Callees → Seeing
seen_by k = record { expression = expr_seen k; query = query_seen k }

-- ---- parts of statements

-- an expression that may be left out
abbrev pub perhaps : Seeing → Option BoundExpr → Perhaps
perhaps v None = Without
perhaps v (Some e) = With (v.expression e)

-- declarations
abbrev pub variables : Seeing → List BoundVariables → Variables
variables v [] = NoVariable
variables v (d ∷ ds) = MoreVariables d.count d.data_type (perhaps v d.default) (variables v ds)

-- a branch: its test, and its statements
pub record BranchRegion : Type 0 where
  pub test : Expr
  pub body : Stmts

-- a handler: what follows its action, what it waits for, and the action
pub record HandlerRegion : Type 0 where
  pub follows : HandlerType
  pub values : List ConditionValue
  pub action : Stmt

-- statements in order
abbrev pub stmts : List Stmt → Stmts
stmts [] = region.NoStmt
stmts (s ∷ ss) = region.MoreStmts s (stmts ss)

-- branches in order
abbrev pub branches : List BranchRegion → Branches
branches [] = region.NoBranch
branches (b ∷ bs) = region.MoreBranches b.test b.body (branches bs)

-- handlers in order
abbrev pub handlers : List HandlerRegion → Handlers
handlers [] = region.NoHandler
handlers (h ∷ hs) = region.MoreHandlers h.follows h.values h.action (handlers hs)

-- CASE, with an operand or without
abbrev pub case_region : Seeing → Option BoundExpr → Branches → Stmts → Stmt
case_region v None bs otherwise = region.SearchedCase bs otherwise
case_region v (Some e) bs otherwise = region.SimpleCase (v.expression e) bs otherwise

-- GET STACKED DIAGNOSTICS, by what it reads
abbrev pub get_region : Seeing → BoundInformation → Stmt
get_region v (information.Statement rs) = region.GetStatementItems (map statement_read rs)
get_region v (information.Condition n rs) =
    region.GetConditionItems (v.expression n) (map condition_read rs)

-- what stands for a statement that isn't in form
abbrev pub nothing : Stmt
nothing = region.Compound false NoVariable region.NoHandler region.NoStmt

-- ---- one level, with what stands inside already seen

-- a statement
abbrev pub stmt_region : Seeing → BoundStmt-F Stmt Stmt BranchRegion HandlerRegion → Stmt
stmt_region v (BoundStmt-F.Block b) = b
stmt_region v (BoundStmt-F.If bs ss) = region.If (branches bs) (stmts ss)
stmt_region v (BoundStmt-F.Case operand bs ss) = case_region v operand (branches bs) (stmts ss)
stmt_region v (BoundStmt-F.Set t e) = region.Set (target t) (v.expression e)
stmt_region v (BoundStmt-F.SelectInto q ts) = region.SelectInto (v.query q) (map target ts)
stmt_region v (BoundStmt-F.Signal s) = region.Signal s.state (perhaps v s.message)
stmt_region v (BoundStmt-F.Resignal s) = region.Resignal s.state (perhaps v s.message)
stmt_region v (BoundStmt-F.GetDiagnostics d) = get_region v d.information
stmt_region v (BoundStmt-F.Leave level) = region.Leave level
stmt_region v (BoundStmt-F.Return e) = region.Return (v.expression e)
stmt_region v _ = nothing

-- a compound statement: its variables, its handlers and its statements
abbrev pub block_region : Seeing → BoundBlock-F Stmt Stmt BranchRegion HandlerRegion → Stmt
block_region v b = region.Compound b.atomic (variables v b.variables) (handlers b.handlers)
    (stmts b.statements)

-- a branch
abbrev pub branch_region : Seeing → BoundBranch-F Stmt Stmt BranchRegion HandlerRegion →
    BranchRegion
branch_region v b = record { test = v.expression b.test; body = stmts b.body }

-- a handler
abbrev pub handler_region : BoundHandler-F Stmt Stmt BranchRegion HandlerRegion → HandlerRegion
handler_region h = record {
  follows = handler_type h.handler_type;
  values = map condition_value h.values;
  action = h.action;
}

-- ---- whole trees

-- a statement
abbrev pub region_by : Seeing → BoundStmt → Stmt
region_by v = fold-BoundStmt Stmt Stmt BranchRegion HandlerRegion (stmt_region v) (block_region v)
    (branch_region v) handler_region

-- a compound statement
abbrev pub region_of_block : Seeing → BoundBlock → Stmt
region_of_block v = fold-BoundBlock Stmt Stmt BranchRegion HandlerRegion (stmt_region v)
    (block_region v) (branch_region v) handler_region

-- a test with its statements
abbrev pub region_of_branch : Seeing → BoundBranch → BranchRegion
region_of_branch v = fold-BoundBranch Stmt Stmt BranchRegion HandlerRegion (stmt_region v)
    (block_region v) (branch_region v) handler_region

-- a handler with its action
abbrev pub region_of_handler : Seeing → BoundHandler → HandlerRegion
region_of_handler v = fold-BoundHandler Stmt Stmt BranchRegion HandlerRegion (stmt_region v)
    (block_region v) (branch_region v) handler_region

-- a statement where its calls are of these routines
abbrev pub region_in : Known → BoundStmt → Stmt
region_in k = region_by (seen_in k)

-- a statement where its calls run what has a plan
abbrev pub region_seen : Callees → BoundStmt → Stmt
region_seen k = region_by (seen_by k)
