-- Each tree counts at least one.
use Rattle.std.proofs.Common.{◌≤◌, arith}
use Rattle.rel_algebra.specs.Tree as tree
use Rattle.rel_algebra.specs.Tree.{Stmt, Stmts, Branches, Variables, Handlers}
use Rattle.run_places.specs.Cost.{stmt_cost, stmts_cost, branches_cost, variables_cost}
use Rattle.run_places.specs.Cost.{handlers_cost}

-- a statement
pub stmt_some : (s : Stmt) → 1 ≤ stmt_cost s
stmt_some (tree.Insert name listed query) = omega arith
stmt_some (tree.Update name targets query) = omega arith
stmt_some (tree.Delete name query) = omega arith
stmt_some (tree.CallProcedure name routine args) = omega arith
stmt_some (tree.CallItself parameters args) = omega arith
stmt_some (tree.Compound atomic variables cursors handlers body) = omega arith
stmt_some (tree.If branches otherwise) = omega arith
stmt_some (tree.SearchedCase branches otherwise) = omega arith
stmt_some (tree.SimpleCase e branches otherwise) = omega arith
stmt_some (tree.Set t e) = omega arith
stmt_some (tree.SelectInto query targets) = omega arith
stmt_some (tree.Loop body) = omega arith
stmt_some (tree.While test body) = omega arith
stmt_some (tree.Repeat body test) = omega arith
stmt_some (tree.For query body) = omega arith
stmt_some (tree.Open slot query) = omega arith
stmt_some (tree.Fetch slot targets) = omega arith
stmt_some (tree.Close slot) = omega arith
stmt_some (tree.Signal state text) = omega arith
stmt_some (tree.Resignal state text) = omega arith
stmt_some (tree.GetStatementItems which reads) = omega arith
stmt_some (tree.GetConditionItems which number reads) = omega arith
stmt_some (tree.Leave outwards) = omega arith
stmt_some (tree.Iterate outwards) = omega arith
stmt_some (tree.Return e) = omega arith

-- statements
pub stmts_some : (ss : Stmts) → 1 ≤ stmts_cost ss
stmts_some tree.NoStmt = omega arith
stmts_some (tree.MoreStmts s ss) = omega arith

-- branches
pub branches_some : (bs : Branches) → 1 ≤ branches_cost bs
branches_some tree.NoBranch = omega arith
branches_some (tree.MoreBranches test body more) = omega arith

-- declarations of variables
pub variables_some : (vs : Variables) → 1 ≤ variables_cost vs
variables_some tree.NoVariable = omega arith
variables_some (tree.MoreVariables n t default more) = omega arith

-- handlers
pub handlers_some : (hs : Handlers) → 1 ≤ handlers_cost hs
handlers_some tree.NoHandler = omega arith
handlers_some (tree.MoreHandlers kind takes action more) = omega arith
