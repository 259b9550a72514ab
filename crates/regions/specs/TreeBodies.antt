-- The trees among all statements that trees over expressions and queries are, and so the bodies
-- that they are: each leaf is what it means by the tables alone, and its plan.
use Rattle.std.specs.Prelude.{false}
use Rattle.rel_algebra.specs.Tree as whole
use Rattle.rel_algebra.specs.Emit as plans
pub use Rattle.rel_algebra.specs.Emit.{value_leaf, query_leaf, perhaps_body, variables_body}
use Rattle.rel_algebra.specs.Bodies as body
use Rattle.regions.specs.Tree.{Stmt, Compound, If, SearchedCase, SimpleCase, Set, SelectInto}
use Rattle.regions.specs.Tree.{Signal, Resignal, GetStatementItems, GetConditionItems, Leave}
use Rattle.regions.specs.Tree.{Return, Stmts, NoStmt, MoreStmts, Branches, NoBranch, MoreBranches}
use Rattle.regions.specs.Tree.{Handlers, NoHandler, MoreHandlers, Routine, Body}

-- Each tree in form as a tree of all statements. What is read of diagnostics is the stacked area,
-- and no compound statement declares a cursor.
abbrev mutual
  -- a statement
  pub stmt_of : Stmt → whole.Stmt
  stmt_of (Compound atomic variables handlers body) =
      whole.Compound atomic variables 0 (handlers_of handlers) (stmts_of body)
  stmt_of (If branches otherwise) = whole.If (branches_of branches) (stmts_of otherwise)
  stmt_of (SearchedCase branches otherwise) =
      whole.SearchedCase (branches_of branches) (stmts_of otherwise)
  stmt_of (SimpleCase e branches otherwise) =
      whole.SimpleCase e (branches_of branches) (stmts_of otherwise)
  stmt_of (Set t e) = whole.Set t e
  stmt_of (SelectInto query targets) = whole.SelectInto query targets
  stmt_of (Signal state text) = whole.Signal state text
  stmt_of (Resignal state text) = whole.Resignal state text
  stmt_of (GetStatementItems reads) = whole.GetStatementItems whole.Stacked reads
  stmt_of (GetConditionItems number reads) = whole.GetConditionItems whole.Stacked number reads
  stmt_of (Leave outwards) = whole.Leave outwards
  stmt_of (Return e) = whole.Return e

  -- statements in order
  pub stmts_of : Stmts → whole.Stmts
  stmts_of NoStmt = whole.NoStmt
  stmts_of (MoreStmts s ss) = whole.MoreStmts (stmt_of s) (stmts_of ss)

  -- tests or values with their statements
  pub branches_of : Branches → whole.Branches
  branches_of NoBranch = whole.NoBranch
  branches_of (MoreBranches test body others) =
      whole.MoreBranches test (stmts_of body) (branches_of others)

  -- the handlers of a compound statement
  pub handlers_of : Handlers → whole.Handlers
  handlers_of NoHandler = whole.NoHandler
  handlers_of (MoreHandlers kind takes action others) =
      whole.MoreHandlers kind takes (stmt_of action) (handlers_of others)

-- a function that doesn't call itself, and is called on NULL too
abbrev pub routine_of : Routine → whole.Routine
routine_of (Body types returns body) = whole.Function false types returns false (stmt_of body)

-- a statement as a body
abbrev pub stmt_body : Stmt → body.Stmt
stmt_body s = plans.stmt_body (stmt_of s)

-- statements in order
abbrev pub stmts_body : Stmts → body.Stmts
stmts_body ss = plans.stmts_body (stmts_of ss)

-- tests or values with their statements
abbrev pub branches_body : Branches → body.Branches
branches_body branches = plans.branches_body (branches_of branches)

-- the handlers of a compound statement
abbrev pub handlers_body : Handlers → body.Handlers
handlers_body handlers = plans.handlers_body (handlers_of handlers)

-- a function
abbrev pub routine_body : Routine → body.Routine
routine_body (Body types returns statement) = body.Body types returns (stmt_body statement)
