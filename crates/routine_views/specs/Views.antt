-- Which plain statement a bound statement stands for, where its calls are of these routines. OPEN
-- holds the query of its cursor, so that what a statement stands for depends on the cursors in
-- sight. ISO/IEC 9075-2, 14 and 23.1; ISO/IEC 9075-4, 14 and 17.
use Rattle.std.specs.Prelude.{ℕ, List, [], ◌∷◌, ◌++◌, map, length, if◌then◌else◌, get_or}
use Rattle.std.specs.Prelude.{Option, Some, None}
use Rattle.std.specs.Str.{bytes_eq}
use Rattle.sql_values.specs.declared.value.SqlType.{SqlType}
use Rattle.bound_trees.specs.declared.condition.BoundArea.{BoundArea}
use Rattle.bound_trees.specs.declared.condition.BoundArea.TheVariants as area
use Rattle.bound_trees.specs.declared.condition.BoundConditionItem.{BoundConditionItem}
use Rattle.bound_trees.specs.declared.condition.BoundConditionItem.TheVariants as condition_item
use Rattle.bound_trees.specs.declared.condition.BoundConditionRead.{BoundConditionRead}
use Rattle.bound_trees.specs.declared.condition.BoundConditionValue.{BoundConditionValue}
use Rattle.bound_trees.specs.declared.condition.BoundConditionValue.TheVariants as waited
use Rattle.bound_trees.specs.declared.condition.BoundHandlerType.{BoundHandlerType}
use Rattle.bound_trees.specs.declared.condition.BoundHandlerType.TheVariants as follows
use Rattle.bound_trees.specs.declared.condition.BoundInformation.{BoundInformation}
use Rattle.bound_trees.specs.declared.condition.BoundInformation.TheVariants as information
use Rattle.bound_trees.specs.declared.condition.BoundStatementItem.{BoundStatementItem}
use Rattle.bound_trees.specs.declared.condition.BoundStatementItem.TheVariants as statement_item
use Rattle.bound_trees.specs.declared.condition.BoundStatementRead.{BoundStatementRead}
use Rattle.bound_trees.specs.declared.expr.BoundExpr.{BoundExpr, fold-BoundExpr}
use Rattle.bound_trees.specs.declared.expr.BoundExpr.TheOpen.{BoundExpr-F}
use Rattle.bound_trees.specs.declared.query.BoundQuery.{BoundQuery, fold-BoundQuery}
use Rattle.bound_trees.specs.declared.statement.BoundArgument.{BoundArgument}
use Rattle.bound_trees.specs.declared.statement.BoundArgument.TheVariants as argument
use Rattle.bound_trees.specs.declared.statement.BoundBlock.{BoundBlock, fold-BoundBlock}
use Rattle.bound_trees.specs.declared.statement.BoundStmt.{BoundStmt, fold-BoundStmt}
use Rattle.bound_trees.specs.declared.statement.BoundStmt.TheOpen.{BoundStmt-F, BoundBlock-F}
use Rattle.bound_trees.specs.declared.statement.BoundStmt.TheOpen.{BoundBranch-F, BoundHandler-F}
use Rattle.bound_trees.specs.declared.statement.BoundTarget.{BoundTarget}
use Rattle.bound_trees.specs.declared.statement.BoundVariables.{BoundVariables}
use Rattle.rel_algebra.specs.Tree as tree
use Rattle.rel_algebra.specs.Tree.{Expr, Exprs, Perhaps, Routine, From, Query}
use Rattle.rel_algebra.specs.Tree.{Stmt, Stmts, Branches}
use Rattle.rel_algebra.specs.Tree.{Variables, Handlers, Arguments, Parameter, Target}
use Rattle.rel_algebra.specs.Tree.{HandlerType, ConditionValue, WhichArea, StatementItem}
use Rattle.rel_algebra.specs.Tree.{ConditionItem, StatementRead, ConditionRead}
use Rattle.catalog_store.specs.View.{Link, Grouping, Joining, exprs, links, operated, item_step}
use Rattle.catalog_store.specs.View.{query_step, row_step, source_step, link_step, grouping_step}
use Rattle.catalog_store.specs.View.{select_step}

-- the routine in which a statement stands, by its name and its parameters
pub record Own : Type 0 where
  pub name : List ℕ
  pub parameters : List Parameter

-- what stands around a tree: what each name of a routine stands for, and the routine of which the
-- tree is a part, if it is one of any
pub record Known : Type 0 where
  pub routines : List ℕ → Routine
  pub own : Option Own

-- ---- expressions and queries

-- the types of parameters
abbrev pub types_of : List Parameter → List SqlType
types_of parameters = map (λ p. p.data_type) parameters

-- a call of a function: of the one in which it stands, or of another
abbrev pub called : Known → List ℕ → Exprs → Expr
called k name args = by k.own
  where
    by : Option Own → Expr
    by None = tree.Call name (k.routines name) args
    by (Some own) = if bytes_eq own.name name then tree.CallSelf (types_of own.parameters) args
        else tree.Call name (k.routines name) args

-- a node of an expression, once its operands and queries are plain trees
abbrev pub expr_node : Known → BoundExpr-F Expr Joining Query Exprs From Link Grouping Query → Expr
expr_node k (BoundExpr-F.Literal v) = tree.Literal v
expr_node k (BoundExpr-F.Column level i) = tree.Column level i
expr_node k (BoundExpr-F.Variable i) = tree.Variable i
expr_node k (BoundExpr-F.Operation word operands) = operated word operands
expr_node k (BoundExpr-F.Chain first rest) = tree.Chain first (links rest)
expr_node k (BoundExpr-F.Call name args) = called k name (exprs args)
expr_node k (BoundExpr-F.Single query) = tree.Single query
expr_node k (BoundExpr-F.Exists query) = tree.Exists query
expr_node k (BoundExpr-F.In e query) = tree.In e query

-- an expression
abbrev pub expr_in : Known → BoundExpr → Expr
expr_in k = fold-BoundExpr Expr Joining Query Exprs From Link Grouping Query (expr_node k) item_step
    query_step row_step source_step link_step grouping_step select_step

-- a query
abbrev pub query_in : Known → BoundQuery → Query
query_in k = fold-BoundQuery Expr Joining Query Exprs From Link Grouping Query (expr_node k)
    item_step query_step row_step source_step link_step grouping_step select_step

-- an expression that may be left out
abbrev pub perhaps : Known → Option BoundExpr → Perhaps
perhaps k None = tree.Without
perhaps k (Some e) = tree.With (expr_in k e)

-- ---- parts of statements that hold no statement

-- a target
abbrev pub target : BoundTarget → Target
target t = record { slot = t.slot; data_type = t.data_type }

-- the arguments of CALL, from the first on
abbrev pub arguments : Known → List BoundArgument → Arguments
arguments k [] = tree.NoArgument
arguments k (argument.Value e ∷ more) = tree.MoreValues (expr_in k e) (arguments k more)
arguments k (argument.Variable t ∷ more) = tree.MoreTargets (target t) (arguments k more)
arguments k (argument.Given ∷ more) = tree.MoreGiven (arguments k more)

-- a call of a procedure: of the one in which it stands, or of another
abbrev pub performed : Known → List ℕ → Arguments → Stmt
performed k name args = by k.own
  where
    by : Option Own → Stmt
    by None = tree.CallProcedure name (k.routines name) args
    by (Some own) = if bytes_eq own.name name then tree.CallItself own.parameters args
        else tree.CallProcedure name (k.routines name) args

-- declarations of variables, from the first on
abbrev pub variables : Known → List BoundVariables → Variables
variables k [] = tree.NoVariable
variables k (v ∷ vs) =
    tree.MoreVariables v.count v.data_type (perhaps k v.default) (variables k vs)

-- what a handler waits for
abbrev pub condition_value : BoundConditionValue → ConditionValue
condition_value (waited.State state) = tree.State state
condition_value waited.SqlException = tree.SqlException
condition_value waited.SqlWarning = tree.SqlWarning
condition_value waited.NotFound = tree.NotFound

-- what follows a handler's action
abbrev pub handler_type : BoundHandlerType → HandlerType
handler_type follows.Continue = tree.Continue
handler_type follows.Exit = tree.Exit
handler_type follows.Undo = tree.Undo

-- which area is read
abbrev pub which_area : BoundArea → WhichArea
which_area area.Current = tree.Current
which_area area.Stacked = tree.Stacked

-- what is read of the area as a whole
abbrev pub statement_item_of : BoundStatementItem → StatementItem
statement_item_of statement_item.Number = tree.Number
statement_item_of statement_item.RowCount = tree.RowCount

-- what is read of a condition
abbrev pub condition_item_of : BoundConditionItem → ConditionItem
condition_item_of condition_item.ReturnedSqlstate = tree.ReturnedSqlstate
condition_item_of condition_item.MessageText = tree.MessageText

-- an item of the area as a whole, and where it is stored
abbrev pub statement_read : BoundStatementRead → StatementRead
statement_read r = record { item = statement_item_of r.item; target = target r.target }

-- an item of a condition, and where it is stored
abbrev pub condition_read : BoundConditionRead → ConditionRead
condition_read r = record { item = condition_item_of r.item; target = target r.target }

-- GET DIAGNOSTICS, by what it reads
abbrev pub diagnostics : Known → WhichArea → BoundInformation → Stmt
diagnostics k a (information.Statement rs) = tree.GetStatementItems a (map statement_read rs)
diagnostics k a (information.Condition n rs) =
    tree.GetConditionItems a (expr_in k n) (map condition_read rs)

-- ---- statements that hold statements

-- what a statement stands for, by the queries of the cursors in sight, each at its slot
abbrev pub View : Type 0
View = List Query → Stmt

-- a branch: its test, and its statements
pub record BranchView : Type 0 where
  pub test : Expr
  pub body : List View

-- a handler: what follows its action, what it waits for, and the action
pub record HandlerView : Type 0 where
  pub follows : HandlerType
  pub values : List ConditionValue
  pub action : View

-- statements in order
abbrev pub stmts : List View → List Query → Stmts
stmts [] cursors = tree.NoStmt
stmts (s ∷ ss) cursors = tree.MoreStmts (s cursors) (stmts ss cursors)

-- branches in order
abbrev pub branches : List BranchView → List Query → Branches
branches [] cursors = tree.NoBranch
branches (b ∷ bs) cursors = tree.MoreBranches b.test (stmts b.body cursors) (branches bs cursors)

-- handlers in order
abbrev pub handlers : List HandlerView → List Query → Handlers
handlers [] cursors = tree.NoHandler
handlers (h ∷ hs) cursors =
    tree.MoreHandlers h.follows h.values (h.action cursors) (handlers hs cursors)

-- CASE, with an operand or without
abbrev pub case_view : Known → Option BoundExpr → Branches → Stmts → Stmt
case_view k None bs otherwise = tree.SearchedCase bs otherwise
case_view k (Some e) bs otherwise = tree.SimpleCase (expr_in k e) bs otherwise

-- the query of the cursor in a slot; where no cursor is, one without rows
abbrev pub cursor_in : List Query → ℕ → Query
cursor_in cursors slot = get_or cursors slot (tree.Values tree.NoRow)

-- a statement, once those in it are seen
abbrev pub stmt_view : Known → BoundStmt-F View View BranchView HandlerView → View
stmt_view k (BoundStmt-F.Insert b places) cursors = tree.Insert b.table places (query_in k b.source)
stmt_view k (BoundStmt-F.Update b) cursors = tree.Update b.table b.targets (query_in k b.rows)
stmt_view k (BoundStmt-F.Delete b) cursors = tree.Delete b.table (query_in k b.rows)
stmt_view k (BoundStmt-F.Call c) cursors = performed k c.procedure (arguments k c.arguments)
stmt_view k (BoundStmt-F.Block b) cursors = b cursors
stmt_view k (BoundStmt-F.If bs ss) cursors = tree.If (branches bs cursors) (stmts ss cursors)
stmt_view k (BoundStmt-F.Case operand bs ss) cursors =
    case_view k operand (branches bs cursors) (stmts ss cursors)
stmt_view k (BoundStmt-F.Set t e) cursors = tree.Set (target t) (expr_in k e)
stmt_view k (BoundStmt-F.SelectInto q ts) cursors = tree.SelectInto (query_in k q) (map target ts)
stmt_view k (BoundStmt-F.Loop body) cursors = tree.Loop (stmts body cursors)
stmt_view k (BoundStmt-F.While test body) cursors = tree.While (expr_in k test) (stmts body cursors)
stmt_view k (BoundStmt-F.Repeat body test) cursors =
    tree.Repeat (stmts body cursors) (expr_in k test)
stmt_view k (BoundStmt-F.For q slot body) cursors = tree.For (query_in k q) (stmts body cursors)
stmt_view k (BoundStmt-F.Open slot) cursors = tree.Open slot (cursor_in cursors slot)
stmt_view k (BoundStmt-F.Close slot) cursors = tree.Close slot
stmt_view k (BoundStmt-F.Fetch slot ts) cursors = tree.Fetch slot (map target ts)
stmt_view k (BoundStmt-F.Signal s) cursors = tree.Signal s.state (perhaps k s.message)
stmt_view k (BoundStmt-F.Resignal s) cursors = tree.Resignal s.state (perhaps k s.message)
stmt_view k (BoundStmt-F.GetDiagnostics d) cursors = diagnostics k (which_area d.area) d.information
stmt_view k (BoundStmt-F.Leave level) cursors = tree.Leave level
stmt_view k (BoundStmt-F.Iterate level) cursors = tree.Iterate level
stmt_view k (BoundStmt-F.Return e) cursors = tree.Return (expr_in k e)

-- A compound statement: its handlers and statements see its cursors after those in sight.
abbrev pub block_view : Known → BoundBlock-F View View BranchView HandlerView → View
block_view k b cursors =
    let now = cursors ++ map (query_in k) b.cursors in
    tree.Compound b.atomic (variables k b.variables) (length b.cursors) (handlers b.handlers now)
    (stmts b.statements now)

-- a branch
abbrev pub branch_view : Known → BoundBranch-F View View BranchView HandlerView → BranchView
branch_view k b = record { test = expr_in k b.test; body = b.body }

-- a handler
abbrev pub handler_view : BoundHandler-F View View BranchView HandlerView → HandlerView
handler_view h = record {
  follows = handler_type h.handler_type;
  values = map condition_value h.values;
  action = h.action;
}

-- ---- whole trees

-- a statement
abbrev pub stmt_in : Known → BoundStmt → View
stmt_in k = fold-BoundStmt View View BranchView HandlerView (stmt_view k) (block_view k)
    (branch_view k) handler_view

-- a compound statement
abbrev pub block_in : Known → BoundBlock → View
block_in k = fold-BoundBlock View View BranchView HandlerView (stmt_view k) (block_view k)
    (branch_view k) handler_view
