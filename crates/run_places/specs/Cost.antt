-- How deep a run can nest: what falls at each call of the interpreter. A self-call counts as little
-- as a variable: what it runs is counted by the room that is left (`own_cost` of Places).
use Rattle.std.specs.Prelude.{ℕ, ◌+◌, ◌*◌}
use Rattle.rel_algebra.specs.Tree.{Expr, Literal, Column, Variable, Chain, Operate, And, Or, Case}
use Rattle.rel_algebra.specs.Tree.{CaseOf, Coalesce, In, Exists, Single, Call, CallSelf, Links}
use Rattle.rel_algebra.specs.Tree.{NoLink, MoreLinks, Exprs, NoExpr, MoreExprs, Perhaps, Without}
use Rattle.rel_algebra.specs.Tree.{With, Routine, Function, Procedure, Rows, NoRow, MoreRows, From}
use Rattle.rel_algebra.specs.Tree.{Table, Derived, Cross, Inner, LeftOuter, Query, Select, Grouped}
use Rattle.rel_algebra.specs.Tree.{Values, Ordered, Stmt, Insert, Update, Delete, CallProcedure}
use Rattle.rel_algebra.specs.Tree.{CallItself, Compound, If, SearchedCase, SimpleCase, Set}
use Rattle.rel_algebra.specs.Tree.{SelectInto, Loop, While, Repeat, For, Open, Fetch, Close, Signal}
use Rattle.rel_algebra.specs.Tree.{Resignal, GetStatementItems, GetConditionItems, Leave, Iterate}
use Rattle.rel_algebra.specs.Tree.{Return, Stmts, NoStmt, MoreStmts, Branches, NoBranch}
use Rattle.rel_algebra.specs.Tree.{MoreBranches, Variables, NoVariable, MoreVariables, Handlers}
use Rattle.rel_algebra.specs.Tree.{NoHandler, MoreHandlers, Arguments, NoArgument, MoreValues}
use Rattle.rel_algebra.specs.Tree.{MoreTargets, MoreGiven}

-- Each counts at least one for itself, and what its parts count. A call counts two and its routine,
-- and CASE with an operand three.
abbrev mutual
  -- of an expression
  pub cost : Expr → ℕ
  cost (Literal v) = 1
  cost (Column level i) = 1
  cost (Variable i) = 1
  cost (Chain e links) = cost e + links_cost links + 1
  cost (Operate operation es) = costs es + 1
  cost (And es) = costs es + 1
  cost (Or es) = costs es + 1
  cost (Case arms) = costs arms + 1
  cost (CaseOf e test result arms) = cost e + cost test + cost result + costs arms + 3
  cost (Coalesce es) = costs es + 1
  cost (In e query) = cost e + query_cost query + 1
  cost (Exists query) = query_cost query + 1
  cost (Single query) = query_cost query + 1
  cost (Call name routine args) = costs args + routine_cost routine + 2
  cost (CallSelf parameters args) = costs args + 2

  -- of the operators of a chain, each with what stands to its right
  pub links_cost : Links → ℕ
  links_cost NoLink = 1
  links_cost (MoreLinks operator e links) = cost e + links_cost links + 1

  -- of several expressions
  pub costs : Exprs → ℕ
  costs NoExpr = 1
  costs (MoreExprs e es) = cost e + costs es + 1

  -- of a routine: its body once for each activation that may come, and once more
  pub routine_cost : Routine → ℕ
  routine_cost (Function calls_itself parameters returns null_call body) =
      25 * (stmt_cost body + 2)
  routine_cost (Procedure calls_itself parameters body) = 25 * (stmt_cost body + 2)

  -- of the rows of VALUES
  pub rows_cost : Rows → ℕ
  rows_cost NoRow = 1
  rows_cost (MoreRows r rs) = costs r + rows_cost rs + 1

  -- of FROM, or a part of it
  pub from_cost : From → ℕ
  from_cost (Table name) = 1
  from_cost (Derived query) = query_cost query + 1
  from_cost (Cross a b) = from_cost a + from_cost b + 1
  from_cost (Inner a b on) = from_cost a + from_cost b + costs on + 1
  from_cost (LeftOuter a b on) = from_cost a + from_cost b + costs on + 1

  -- of a query; an order adds one, since its keys are columns of the list
  pub query_cost : Query → ℕ
  query_cost (Select items from conjuncts) = costs items + from_cost from + costs conjuncts + 1
  query_cost (Grouped from conjuncts k items ags having list) =
      from_cost from + costs conjuncts + costs items + costs having + costs list + 1
  query_cost (Values rows) = rows_cost rows + 1
  query_cost (Ordered query keys) = query_cost query + 1

  -- of an expression that may be left out
  pub perhaps_cost : Perhaps → ℕ
  perhaps_cost Without = 1
  perhaps_cost (With e) = cost e + 1

  -- of the arguments of CALL
  pub arguments_cost : Arguments → ℕ
  arguments_cost NoArgument = 1
  arguments_cost (MoreValues e more) = cost e + arguments_cost more + 1
  arguments_cost (MoreTargets t more) = arguments_cost more + 1
  arguments_cost (MoreGiven more) = arguments_cost more + 1

  -- of a statement; OPEN counts its cursor's query
  pub stmt_cost : Stmt → ℕ
  stmt_cost (Insert name listed query) = query_cost query + 1
  stmt_cost (Update name targets query) = query_cost query + 1
  stmt_cost (Delete name query) = query_cost query + 1
  stmt_cost (CallProcedure name routine args) = arguments_cost args + routine_cost routine + 2
  stmt_cost (CallItself parameters args) = arguments_cost args + 2
  stmt_cost (Compound atomic variables cursors handlers body) =
      variables_cost variables + handlers_cost handlers + stmts_cost body + 2
  stmt_cost (If branches otherwise) = branches_cost branches + stmts_cost otherwise + 1
  stmt_cost (SearchedCase branches otherwise) = branches_cost branches + stmts_cost otherwise + 1
  stmt_cost (SimpleCase e branches otherwise) =
      cost e + branches_cost branches + stmts_cost otherwise + 1
  stmt_cost (Set t e) = cost e + 1
  stmt_cost (SelectInto query targets) = query_cost query + 1
  stmt_cost (Loop body) = stmts_cost body + 1
  stmt_cost (While test body) = cost test + stmts_cost body + 1
  stmt_cost (Repeat body test) = stmts_cost body + cost test + 1
  stmt_cost (For query body) = query_cost query + stmts_cost body + 1
  stmt_cost (Open slot query) = query_cost query + 1
  stmt_cost (Fetch slot targets) = 1
  stmt_cost (Close slot) = 1
  stmt_cost (Signal state text) = perhaps_cost text + 1
  stmt_cost (Resignal state text) = perhaps_cost text + 1
  stmt_cost (GetStatementItems which reads) = 1
  stmt_cost (GetConditionItems which number reads) = cost number + 1
  stmt_cost (Leave outwards) = 1
  stmt_cost (Iterate outwards) = 1
  stmt_cost (Return e) = cost e + 1

  -- of statements in order
  pub stmts_cost : Stmts → ℕ
  stmts_cost NoStmt = 1
  stmts_cost (MoreStmts s ss) = stmt_cost s + stmts_cost ss + 1

  -- of branches
  pub branches_cost : Branches → ℕ
  branches_cost NoBranch = 1
  branches_cost (MoreBranches test body more) =
      cost test + stmts_cost body + branches_cost more + 1

  -- of the declarations of variables
  pub variables_cost : Variables → ℕ
  variables_cost NoVariable = 1
  variables_cost (MoreVariables n t default more) = perhaps_cost default + variables_cost more + 1

  -- of handlers: an action is reached by two calls
  pub handlers_cost : Handlers → ℕ
  handlers_cost NoHandler = 1
  handlers_cost (MoreHandlers kind takes action more) = stmt_cost action + handlers_cost more + 3
