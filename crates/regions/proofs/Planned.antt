-- A function in form is planned among all routines.
use Rattle.std.proofs.Common.{◌≡◌, true, false, ◌&&◌, List, refl}
use Rattle.sql_values.specs.declared.value.SqlType.{SqlType}
use Rattle.rel_algebra.specs.Plain.{fills, planned, planned_branches, planned_expr}
use Rattle.rel_algebra.specs.Plain.{planned_handlers, planned_perhaps, planned_routine}
use Rattle.rel_algebra.specs.Plain.{planned_stmt, planned_stmts, planned_variables}
use Rattle.rel_algebra.specs.Tree as whole
use Rattle.rel_algebra.proofs.Laws.{and_true}
use Rattle.regions.specs.Inline.{Widths}
use Rattle.regions.specs.Theorem.{AllFormed, BranchesFormed, Formed, HandlersFormed, Planned}
use Rattle.regions.specs.Theorem.{VariablesFormed}
use Rattle.regions.specs.Tree.{Perhaps, Without, With, Variables, NoVariable, MoreVariables}
use Rattle.regions.specs.Tree.{Stmt, Compound, If, SearchedCase, SimpleCase, Set, SelectInto}
use Rattle.regions.specs.Tree.{Signal, Resignal, GetStatementItems, GetConditionItems, Leave}
use Rattle.regions.specs.Tree.{Return, Stmts, NoStmt, MoreStmts, Branches, NoBranch, MoreBranches}
use Rattle.regions.specs.Tree.{Handlers, NoHandler, MoreHandlers, Body}
use Rattle.regions.specs.TreeBodies.{branches_of, handlers_of, stmt_of, stmts_of}
use Rattle.regions.specs.Worlds.{FormIsPlanned}
use Rattle.regions.proofs.Trees.{filling}

perhaps_plans : (text : Perhaps) → Planned text → planned_perhaps text ≡ true
perhaps_plans Without h = refl
perhaps_plans (With e) h = h

variables_plan : (vs : Variables) → VariablesFormed vs → planned_variables vs ≡ true
variables_plan NoVariable h = refl
variables_plan (MoreVariables k t default others) h =
    and_true (planned_perhaps default) (planned_variables others) (perhaps_plans default h.0)
    (variables_plan others h.1)

mutual
  stmt_plans : (s : Stmt) (S : Widths) → Formed s S → planned_stmt (stmt_of s) ≡ true
  stmt_plans (Compound atomic variables handlers statements) S h =
      and_true (planned_variables variables)
      (planned_handlers (handlers_of handlers) && planned_stmts (stmts_of statements))
      (variables_plan variables h.0)
      (and_true (planned_handlers (handlers_of handlers)) (planned_stmts (stmts_of statements))
      (handlers_plan handlers S h.1) (stmts_plan statements S h.2))
  stmt_plans (If branches otherwise) S h =
      and_true (planned_branches (branches_of branches)) (planned_stmts (stmts_of otherwise))
      (branches_plan branches S h.0) (stmts_plan otherwise S h.1)
  stmt_plans (SearchedCase branches otherwise) S h =
      and_true (planned_branches (branches_of branches)) (planned_stmts (stmts_of otherwise))
      (branches_plan branches S h.0) (stmts_plan otherwise S h.1)
  stmt_plans (SimpleCase e branches otherwise) S h =
      and_true (planned_expr e)
      (planned_branches (branches_of branches) && planned_stmts (stmts_of otherwise)) h.0
      (and_true (planned_branches (branches_of branches)) (planned_stmts (stmts_of otherwise))
      (branches_plan branches S h.1) (stmts_plan otherwise S h.2))
  stmt_plans (Set t e) S h = h
  stmt_plans (SelectInto q targets) S h =
      and_true (planned q) (fills q targets) h.0 (filling q targets S h.1 h.2)
  stmt_plans (Signal state text) S h = perhaps_plans text h
  stmt_plans (Resignal state text) S h = perhaps_plans text h
  stmt_plans (GetStatementItems reads) S h = refl
  stmt_plans (GetConditionItems number reads) S h = h
  stmt_plans (Leave outwards) S h = refl
  stmt_plans (Return e) S h = h

  stmts_plan : (ss : Stmts) (S : Widths) → AllFormed ss S → planned_stmts (stmts_of ss) ≡ true
  stmts_plan NoStmt S h = refl
  stmts_plan (MoreStmts s ss) S h =
      and_true (planned_stmt (stmt_of s)) (planned_stmts (stmts_of ss)) (stmt_plans s S h.0)
      (stmts_plan ss S h.1)

  branches_plan : (bs : Branches) (S : Widths) → BranchesFormed bs S →
      planned_branches (branches_of bs) ≡ true
  branches_plan NoBranch S h = refl
  branches_plan (MoreBranches test statements others) S h =
      and_true (planned_expr test)
      (planned_stmts (stmts_of statements) && planned_branches (branches_of others)) h.0
      (and_true (planned_stmts (stmts_of statements)) (planned_branches (branches_of others))
      (stmts_plan statements S h.1) (branches_plan others S h.2))

  handlers_plan : (hs : Handlers) (S : Widths) → HandlersFormed hs S →
      planned_handlers (handlers_of hs) ≡ true
  handlers_plan NoHandler S h = refl
  handlers_plan (MoreHandlers kind takes action others) S h =
      and_true (planned_stmt (stmt_of action)) (planned_handlers (handlers_of others))
      (stmt_plans action S h.0) (handlers_plan others S h.1)

-- a body of one RETURN is planned as its expression is
by_body : (types : List SqlType) (returns : SqlType) (s : whole.Stmt) → planned_stmt s ≡ true →
    planned_routine (whole.Function false types returns false s) ≡ true
by_body types returns (whole.Return e) h = h
by_body types returns _ h = h

pub form_is_planned : FormIsPlanned
form_is_planned (Body types returns s) S h = by_body types returns (stmt_of s) (stmt_plans s S h)
