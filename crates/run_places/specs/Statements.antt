-- Which plain trees the parts of bound statements stand for, where calls are of the routines that
-- are known: `stmt_in` and `block_in` of routine_views, for the other kinds of trees and for lists.
use Rattle.std.specs.Prelude.{List, map}
use Rattle.bound_trees.specs.declared.statement.BoundBranch.{BoundBranch, fold-BoundBranch}
use Rattle.bound_trees.specs.declared.statement.BoundStmt.{BoundStmt}
use Rattle.rel_algebra.specs.Tree.{Query, Stmts, Branches}
use Rattle.routine_views.specs.Views.{Known, View, BranchView, HandlerView, stmt_view, block_view}
use Rattle.routine_views.specs.Views.{branch_view, handler_view, stmt_in, stmts, branches}

-- a branch
abbrev pub branch_in : Known → BoundBranch → BranchView
branch_in k = fold-BoundBranch View View BranchView HandlerView (stmt_view k) (block_view k)
    (branch_view k) handler_view

-- statements in order, by the queries of the cursors in sight
abbrev pub stmts_in : Known → List BoundStmt → List Query → Stmts
stmts_in k ss cursors = stmts (map (stmt_in k) ss) cursors

-- branches in order
abbrev pub branches_in : Known → List BoundBranch → List Query → Branches
branches_in k bs cursors = branches (map (branch_in k) bs) cursors
