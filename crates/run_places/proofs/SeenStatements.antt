-- Which plain trees bound statements stand for, where calls are of the routines that are known.
use Rattle.std.proofs.Common.{◌≡◌, ℕ, List, map, sym, ap, ◌∙◌}
use Rattle.bound_trees.specs.declared.expr.BoundExpr.{BoundExpr}
use Rattle.bound_trees.specs.declared.query.BoundQuery.{BoundQuery}
use Rattle.bound_trees.specs.declared.statement.BoundBlock.{BoundBlock}
use Rattle.bound_trees.specs.declared.statement.BoundBranch.{BoundBranch, roll-BoundBranch}
use Rattle.bound_trees.specs.declared.statement.BoundBranch.{out-BoundBranch}
use Rattle.bound_trees.specs.declared.statement.BoundHandler.{BoundHandler}
use Rattle.bound_trees.specs.declared.statement.BoundStmt.{BoundStmt, roll-BoundStmt}
use Rattle.bound_trees.specs.declared.statement.BoundTarget.{BoundTarget}
use Rattle.bound_trees.specs.declared.statement.BoundStmt.TheFolds.{map-BoundStmt}
use Rattle.bound_trees.specs.declared.statement.BoundStmt.TheFolds.{map-BoundBranch}
use Rattle.bound_trees.specs.declared.statement.BoundStmt.TheFolds.{fold-roll-BoundStmt}
use Rattle.bound_trees.specs.declared.statement.BoundStmt.TheFolds.{fold-roll-BoundBranch}
use Rattle.bound_trees.specs.declared.statement.BoundStmt.TheOpen.{BoundStmt-F, BoundBlock-F}
use Rattle.bound_trees.specs.declared.statement.BoundStmt.TheOpen.{BoundBranch-F}
use Rattle.bound_trees.specs.declared.statement.BoundStmt.TheViews.{roll-out-BoundBranch}
use Rattle.bound_trees.specs.declared.statement.BoundStmt.TheVariants as bound
use Rattle.bound_trees.specs.declared.statement.BoundStmt.TheVariants.{rolls-Block, rolls-If}
use Rattle.bound_trees.specs.declared.statement.BoundStmt.TheVariants.{rolls-Case, rolls-Loop}
use Rattle.bound_trees.specs.declared.statement.BoundStmt.TheVariants.{rolls-While, rolls-Repeat}
use Rattle.bound_trees.specs.declared.statement.BoundStmt.TheVariants.{rolls-For, rolls-Leave}
use Rattle.bound_trees.specs.declared.statement.BoundStmt.TheVariants.{rolls-Iterate, rolls-Return}
use Rattle.bound_trees.specs.declared.statement.BoundStmt.TheVariants.{rolls-SelectInto, rolls-Set}
use Rattle.rel_algebra.specs.Tree as tree
use Rattle.rel_algebra.specs.Tree.{Query}
use Rattle.routine_views.specs.Views.{Known, View, BranchView, HandlerView, expr_in, query_in}
use Rattle.routine_views.specs.Views.{stmt_view, block_view, branch_view, handler_view, stmt_in}
use Rattle.routine_views.specs.Views.{block_in, target}
use Rattle.run_places.specs.Places.{handler_in}
use Rattle.run_places.specs.Statements.{branch_in, stmts_in, branches_in}

abbrev pub StmtLayer : Type 0
StmtLayer = BoundStmt-F BoundStmt BoundBlock BoundBranch BoundHandler

abbrev pub BlockLayer : Type 0
BlockLayer = BoundBlock-F BoundStmt BoundBlock BoundBranch BoundHandler

abbrev pub BranchLayer : Type 0
BranchLayer = BoundBranch-F BoundStmt BoundBlock BoundBranch BoundHandler

module _ (k : Known) where
  abbrev pub stmt_seen : StmtLayer → BoundStmt-F View View BranchView HandlerView
  stmt_seen x = map-BoundStmt BoundStmt BoundBlock BoundBranch BoundHandler View View BranchView
      HandlerView (stmt_in k) (block_in k) (branch_in k) (handler_in k) x

  pub stmt_in-at : (x : StmtLayer) → stmt_in k (roll-BoundStmt x) ≡ stmt_view k (stmt_seen x)
  stmt_in-at x = fold-roll-BoundStmt View View BranchView HandlerView (stmt_view k) (block_view k)
      (branch_view k) handler_view x

  abbrev pub branch_seen : BranchLayer → BoundBranch-F View View BranchView HandlerView
  branch_seen x = map-BoundBranch BoundStmt BoundBlock BoundBranch BoundHandler View View
      BranchView HandlerView (stmt_in k) (block_in k) (branch_in k) (handler_in k) x

  pub branch_in-at : (x : BranchLayer) →
      branch_in k (roll-BoundBranch x) ≡ branch_view k (branch_seen x)
  branch_in-at x = fold-roll-BoundBranch View View BranchView HandlerView (stmt_view k)
      (block_view k) (branch_view k) handler_view x

  -- a branch by its parts
  pub branch_in-parts : (b : BoundBranch) → branch_in k b ≡ record {
    test = expr_in k (out-BoundBranch b).test;
    body = map (stmt_in k) (out-BoundBranch b).body;
  }
  branch_in-parts b = ap (branch_in k) (sym (roll-out-BoundBranch b)) ∙
      branch_in-at (out-BoundBranch b)

  pub stmt_in-Block : (b : BoundBlock) → stmt_in k (bound.Block b) ≡ block_in k b
  stmt_in-Block b = ap (stmt_in k) (sym (rolls-Block b)) ∙ stmt_in-at (BoundStmt-F.Block b)

  pub stmt_in-If : (bs : List BoundBranch) (ss : List BoundStmt) → stmt_in k (bound.If bs ss) ≡
      (λ (cursors : List Query). tree.If (branches_in k bs cursors) (stmts_in k ss cursors))
  stmt_in-If bs ss = ap (stmt_in k) (sym (rolls-If bs ss)) ∙ stmt_in-at (BoundStmt-F.If bs ss)

  pub stmt_in-Loop : (ss : List BoundStmt) → stmt_in k (bound.Loop ss) ≡
      (λ (cursors : List Query). tree.Loop (stmts_in k ss cursors))
  stmt_in-Loop ss = ap (stmt_in k) (sym (rolls-Loop ss)) ∙ stmt_in-at (BoundStmt-F.Loop ss)

  pub stmt_in-While : (e : BoundExpr) (ss : List BoundStmt) → stmt_in k (bound.While e ss) ≡
      (λ (cursors : List Query). tree.While (expr_in k e) (stmts_in k ss cursors))
  stmt_in-While e ss = ap (stmt_in k) (sym (rolls-While e ss)) ∙
      stmt_in-at (BoundStmt-F.While e ss)

  pub stmt_in-Repeat : (ss : List BoundStmt) (e : BoundExpr) → stmt_in k (bound.Repeat ss e) ≡
      (λ (cursors : List Query). tree.Repeat (stmts_in k ss cursors) (expr_in k e))
  stmt_in-Repeat ss e = ap (stmt_in k) (sym (rolls-Repeat ss e)) ∙
      stmt_in-at (BoundStmt-F.Repeat ss e)

  pub stmt_in-For : (q : BoundQuery) (slot : ℕ) (ss : List BoundStmt) →
      stmt_in k (bound.For q slot ss) ≡
      (λ (cursors : List Query). tree.For (query_in k q) (stmts_in k ss cursors))
  stmt_in-For q slot ss = ap (stmt_in k) (sym (rolls-For q slot ss)) ∙
      stmt_in-at (BoundStmt-F.For q slot ss)

  pub stmt_in-Leave : (outwards : ℕ) → stmt_in k (bound.Leave outwards) ≡
      (λ (cursors : List Query). tree.Leave outwards)
  stmt_in-Leave outwards = ap (stmt_in k) (sym (rolls-Leave outwards)) ∙
      stmt_in-at (BoundStmt-F.Leave outwards)

  pub stmt_in-Iterate : (outwards : ℕ) → stmt_in k (bound.Iterate outwards) ≡
      (λ (cursors : List Query). tree.Iterate outwards)
  stmt_in-Iterate outwards = ap (stmt_in k) (sym (rolls-Iterate outwards)) ∙
      stmt_in-at (BoundStmt-F.Iterate outwards)

  pub stmt_in-Return : (e : BoundExpr) → stmt_in k (bound.Return e) ≡
      (λ (cursors : List Query). tree.Return (expr_in k e))
  stmt_in-Return e = ap (stmt_in k) (sym (rolls-Return e)) ∙ stmt_in-at (BoundStmt-F.Return e)

  pub stmt_in-Set : (t : BoundTarget) (e : BoundExpr) → stmt_in k (bound.Set t e) ≡
      (λ (cursors : List Query). tree.Set (target t) (expr_in k e))
  stmt_in-Set t e = ap (stmt_in k) (sym (rolls-Set t e)) ∙ stmt_in-at (BoundStmt-F.Set t e)

  pub stmt_in-SelectInto : (q : BoundQuery) (ts : List BoundTarget) →
      stmt_in k (bound.SelectInto q ts) ≡
      (λ (cursors : List Query). tree.SelectInto (query_in k q) (map target ts))
  stmt_in-SelectInto q ts = ap (stmt_in k) (sym (rolls-SelectInto q ts)) ∙
      stmt_in-at (BoundStmt-F.SelectInto q ts)
