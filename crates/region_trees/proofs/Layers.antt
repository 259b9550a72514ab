-- One layer of a statement: whether it is in form, its tree and its view, from those of the trees
-- in it.
use Rattle.std.proofs.Common.{◌≡◌, Bool}
use Rattle.bound_trees.specs.declared.statement.BoundBlock.{BoundBlock, roll-BoundBlock}
use Rattle.bound_trees.specs.declared.statement.BoundBranch.{BoundBranch, roll-BoundBranch}
use Rattle.bound_trees.specs.declared.statement.BoundBranch.{fold-BoundBranch}
use Rattle.bound_trees.specs.declared.statement.BoundHandler.{BoundHandler, roll-BoundHandler}
use Rattle.bound_trees.specs.declared.statement.BoundHandler.{fold-BoundHandler}
use Rattle.bound_trees.specs.declared.statement.BoundStmt.{BoundStmt, roll-BoundStmt}
use Rattle.bound_trees.specs.declared.statement.BoundStmt.TheFolds.{map-BoundStmt, map-BoundBlock}
use Rattle.bound_trees.specs.declared.statement.BoundStmt.TheFolds.{map-BoundBranch}
use Rattle.bound_trees.specs.declared.statement.BoundStmt.TheFolds.{map-BoundHandler}
use Rattle.bound_trees.specs.declared.statement.BoundStmt.TheFolds.{fold-roll-BoundStmt}
use Rattle.bound_trees.specs.declared.statement.BoundStmt.TheFolds.{fold-roll-BoundBlock}
use Rattle.bound_trees.specs.declared.statement.BoundStmt.TheFolds.{fold-roll-BoundBranch}
use Rattle.bound_trees.specs.declared.statement.BoundStmt.TheFolds.{fold-roll-BoundHandler}
use Rattle.bound_trees.specs.declared.statement.BoundStmt.TheOpen.{BoundStmt-F, BoundBlock-F}
use Rattle.bound_trees.specs.declared.statement.BoundStmt.TheOpen.{BoundBranch-F, BoundHandler-F}
use Rattle.regions.specs.Tree.{Stmt}
use Rattle.routine_views.specs.Views.{Known, View, BranchView, HandlerView, stmt_view, block_view}
use Rattle.routine_views.specs.Views.{branch_view, handler_view, stmt_in, block_in}
use Rattle.viewing_laws.proofs.Laws.{StmtLayer, BlockLayer, BranchLayer, HandlerLayer}
use Rattle.block_plans.specs.Callees.{Callees}
use Rattle.region_trees.specs.Form.{stmt_formed, block_formed, branch_formed, handler_formed}
use Rattle.region_trees.specs.Form.{formed, formed_block, formed_branch, formed_handler}
use Rattle.region_trees.specs.Regions.{Seeing, BranchRegion, HandlerRegion, stmt_region, block_region}
use Rattle.region_trees.specs.Regions.{branch_region, handler_region, region_by, region_of_block}
use Rattle.region_trees.specs.Regions.{region_of_branch, region_of_handler}

module _ (c : Callees) where
  -- ---- whether it is in form

  abbrev pub stmt_formed_at : StmtLayer → BoundStmt-F Bool Bool Bool Bool
  stmt_formed_at x = map-BoundStmt BoundStmt BoundBlock BoundBranch BoundHandler Bool Bool Bool
      Bool (formed c) (formed_block c) (formed_branch c) (formed_handler c) x

  pub stmt_formed_at-at : (x : StmtLayer) → formed c (roll-BoundStmt x) ≡ stmt_formed c
      (stmt_formed_at x)
  stmt_formed_at-at x = fold-roll-BoundStmt Bool Bool Bool Bool (stmt_formed c) (block_formed
      c) (branch_formed c) handler_formed x

  abbrev pub block_formed_at : BlockLayer → BoundBlock-F Bool Bool Bool Bool
  block_formed_at x = map-BoundBlock BoundStmt BoundBlock BoundBranch BoundHandler Bool Bool Bool
      Bool (formed c) (formed_block c) (formed_branch c) (formed_handler c) x

  pub block_formed_at-at : (x : BlockLayer) → formed_block c (roll-BoundBlock x) ≡ block_formed
      c (block_formed_at x)
  block_formed_at-at x = fold-roll-BoundBlock Bool Bool Bool Bool (stmt_formed c) (block_formed
      c) (branch_formed c) handler_formed x

  abbrev pub branch_formed_at : BranchLayer → BoundBranch-F Bool Bool Bool Bool
  branch_formed_at x = map-BoundBranch BoundStmt BoundBlock BoundBranch BoundHandler Bool Bool Bool
      Bool (formed c) (formed_block c) (formed_branch c) (formed_handler c) x

  pub branch_formed_at-at : (x : BranchLayer) → formed_branch c (roll-BoundBranch x) ≡
      branch_formed c (branch_formed_at x)
  branch_formed_at-at x = fold-roll-BoundBranch Bool Bool Bool Bool (stmt_formed c)
      (block_formed c) (branch_formed c) handler_formed x

  abbrev pub handler_formed_at : HandlerLayer → BoundHandler-F Bool Bool Bool Bool
  handler_formed_at x = map-BoundHandler BoundStmt BoundBlock BoundBranch BoundHandler Bool Bool
      Bool Bool (formed c) (formed_block c) (formed_branch c) (formed_handler c) x

  pub handler_formed_at-at : (x : HandlerLayer) → formed_handler c (roll-BoundHandler x) ≡
      handler_formed (handler_formed_at x)
  handler_formed_at-at x = fold-roll-BoundHandler Bool Bool Bool Bool (stmt_formed c)
      (block_formed c) (branch_formed c) handler_formed x

module _ (v : Seeing) where
  -- ---- its tree

  abbrev pub stmt_region_at : StmtLayer → BoundStmt-F Stmt Stmt BranchRegion HandlerRegion
  stmt_region_at x = map-BoundStmt BoundStmt BoundBlock BoundBranch BoundHandler Stmt Stmt
      BranchRegion HandlerRegion (region_by v) (region_of_block v) (region_of_branch v)
      (region_of_handler v) x

  pub stmt_region_at-at : (x : StmtLayer) → region_by v (roll-BoundStmt x) ≡ stmt_region v
      (stmt_region_at x)
  stmt_region_at-at x = fold-roll-BoundStmt Stmt Stmt BranchRegion HandlerRegion (stmt_region v)
      (block_region v) (branch_region v) handler_region x

  abbrev pub block_region_at : BlockLayer → BoundBlock-F Stmt Stmt BranchRegion HandlerRegion
  block_region_at x = map-BoundBlock BoundStmt BoundBlock BoundBranch BoundHandler Stmt Stmt
      BranchRegion HandlerRegion (region_by v) (region_of_block v) (region_of_branch v)
      (region_of_handler v) x

  pub block_region_at-at : (x : BlockLayer) → region_of_block v (roll-BoundBlock x) ≡ block_region
      v (block_region_at x)
  block_region_at-at x = fold-roll-BoundBlock Stmt Stmt BranchRegion HandlerRegion (stmt_region v)
      (block_region v) (branch_region v) handler_region x

  abbrev pub branch_region_at : BranchLayer → BoundBranch-F Stmt Stmt BranchRegion HandlerRegion
  branch_region_at x = map-BoundBranch BoundStmt BoundBlock BoundBranch BoundHandler Stmt Stmt
      BranchRegion HandlerRegion (region_by v) (region_of_block v) (region_of_branch v)
      (region_of_handler v) x

  pub branch_region_at-at : (x : BranchLayer) → region_of_branch v (roll-BoundBranch x) ≡
      branch_region v (branch_region_at x)
  branch_region_at-at x = fold-roll-BoundBranch Stmt Stmt BranchRegion HandlerRegion (stmt_region
      v) (block_region v) (branch_region v) handler_region x

  abbrev pub handler_region_at : HandlerLayer → BoundHandler-F Stmt Stmt BranchRegion HandlerRegion
  handler_region_at x = map-BoundHandler BoundStmt BoundBlock BoundBranch BoundHandler Stmt Stmt
      BranchRegion HandlerRegion (region_by v) (region_of_block v) (region_of_branch v)
      (region_of_handler v) x

  pub handler_region_at-at : (x : HandlerLayer) → region_of_handler v (roll-BoundHandler x) ≡
      handler_region (handler_region_at x)
  handler_region_at-at x = fold-roll-BoundHandler Stmt Stmt BranchRegion HandlerRegion (stmt_region
      v) (block_region v) (branch_region v) handler_region x

module _ (k : Known) where
  -- ---- its view

  -- a branch
  abbrev pub branch_in : BoundBranch → BranchView
  branch_in = fold-BoundBranch View View BranchView HandlerView (stmt_view k) (block_view k)
      (branch_view k) handler_view

  -- a handler
  abbrev pub handler_in : BoundHandler → HandlerView
  handler_in = fold-BoundHandler View View BranchView HandlerView (stmt_view k) (block_view k)
      (branch_view k) handler_view

  abbrev pub stmt_view_at : StmtLayer → BoundStmt-F View View BranchView HandlerView
  stmt_view_at x = map-BoundStmt BoundStmt BoundBlock BoundBranch BoundHandler View View BranchView
      HandlerView (stmt_in k) (block_in k) branch_in handler_in x

  pub stmt_view_at-at : (x : StmtLayer) → stmt_in k (roll-BoundStmt x) ≡ stmt_view k (stmt_view_at
      x)
  stmt_view_at-at x = fold-roll-BoundStmt View View BranchView HandlerView (stmt_view k)
      (block_view k) (branch_view k) handler_view x

  abbrev pub block_view_at : BlockLayer → BoundBlock-F View View BranchView HandlerView
  block_view_at x = map-BoundBlock BoundStmt BoundBlock BoundBranch BoundHandler View View
      BranchView HandlerView (stmt_in k) (block_in k) branch_in handler_in x

  pub block_view_at-at : (x : BlockLayer) → block_in k (roll-BoundBlock x) ≡ block_view k
      (block_view_at x)
  block_view_at-at x = fold-roll-BoundBlock View View BranchView HandlerView (stmt_view k)
      (block_view k) (branch_view k) handler_view x

  abbrev pub branch_view_at : BranchLayer → BoundBranch-F View View BranchView HandlerView
  branch_view_at x = map-BoundBranch BoundStmt BoundBlock BoundBranch BoundHandler View View
      BranchView HandlerView (stmt_in k) (block_in k) branch_in handler_in x

  pub branch_view_at-at : (x : BranchLayer) → branch_in (roll-BoundBranch x) ≡ branch_view k
      (branch_view_at x)
  branch_view_at-at x = fold-roll-BoundBranch View View BranchView HandlerView (stmt_view k)
      (block_view k) (branch_view k) handler_view x

  abbrev pub handler_view_at : HandlerLayer → BoundHandler-F View View BranchView HandlerView
  handler_view_at x = map-BoundHandler BoundStmt BoundBlock BoundBranch BoundHandler View View
      BranchView HandlerView (stmt_in k) (block_in k) branch_in handler_in x

  pub handler_view_at-at : (x : HandlerLayer) → handler_in (roll-BoundHandler x) ≡ handler_view
      (handler_view_at x)
  handler_view_at-at x = fold-roll-BoundHandler View View BranchView HandlerView (stmt_view k)
      (block_view k) (branch_view k) handler_view x
