-- One layer of a statement: whether it is filled, from that of the trees in it.
use Rattle.std.proofs.Common.{◌≡◌, Bool}
use Rattle.bound_trees.specs.declared.statement.BoundBlock.{BoundBlock, roll-BoundBlock}
use Rattle.bound_trees.specs.declared.statement.BoundBranch.{BoundBranch, roll-BoundBranch}
use Rattle.bound_trees.specs.declared.statement.BoundHandler.{BoundHandler, roll-BoundHandler}
use Rattle.bound_trees.specs.declared.statement.BoundStmt.{BoundStmt, roll-BoundStmt}
use Rattle.bound_trees.specs.declared.statement.BoundStmt.TheFolds.{map-BoundStmt, map-BoundBlock}
use Rattle.bound_trees.specs.declared.statement.BoundStmt.TheFolds.{map-BoundBranch}
use Rattle.bound_trees.specs.declared.statement.BoundStmt.TheFolds.{map-BoundHandler}
use Rattle.bound_trees.specs.declared.statement.BoundStmt.TheFolds.{fold-roll-BoundStmt}
use Rattle.bound_trees.specs.declared.statement.BoundStmt.TheFolds.{fold-roll-BoundBlock}
use Rattle.bound_trees.specs.declared.statement.BoundStmt.TheFolds.{fold-roll-BoundBranch}
use Rattle.bound_trees.specs.declared.statement.BoundStmt.TheFolds.{fold-roll-BoundHandler}
use Rattle.bound_trees.specs.declared.statement.BoundStmt.TheOpen.{BoundStmt-F, BoundBlock-F}
use Rattle.bound_trees.specs.declared.statement.BoundStmt.TheOpen.{BoundBranch-F, BoundHandler-F}
use Rattle.viewing_laws.proofs.Laws.{StmtLayer, BlockLayer, BranchLayer, HandlerLayer}
use Rattle.block_plans.specs.Callees.{Callees}
use Rattle.block_forms.specs.Filled.{stmt_filled, block_filled, branch_filled, handler_filled}
use Rattle.block_forms.specs.Filled.{filled, filled_block, filled_branch, filled_handler}

module _ (k : Callees) where
  -- ---- whether it is filled

  abbrev pub stmt_filled_at : StmtLayer → BoundStmt-F Bool Bool Bool Bool
  stmt_filled_at x = map-BoundStmt BoundStmt BoundBlock BoundBranch BoundHandler Bool Bool Bool
      Bool (filled k) (filled_block k) (filled_branch k) (filled_handler k) x

  pub stmt_filled_at-at : (x : StmtLayer) → filled k (roll-BoundStmt x) ≡ stmt_filled k
      (stmt_filled_at x)
  stmt_filled_at-at x = fold-roll-BoundStmt Bool Bool Bool Bool (stmt_filled k) block_filled
      branch_filled handler_filled x

  abbrev pub block_filled_at : BlockLayer → BoundBlock-F Bool Bool Bool Bool
  block_filled_at x = map-BoundBlock BoundStmt BoundBlock BoundBranch BoundHandler Bool Bool Bool
      Bool (filled k) (filled_block k) (filled_branch k) (filled_handler k) x

  pub block_filled_at-at : (x : BlockLayer) → filled_block k (roll-BoundBlock x) ≡ block_filled
      (block_filled_at x)
  block_filled_at-at x = fold-roll-BoundBlock Bool Bool Bool Bool (stmt_filled k) block_filled
      branch_filled handler_filled x

  abbrev pub branch_filled_at : BranchLayer → BoundBranch-F Bool Bool Bool Bool
  branch_filled_at x = map-BoundBranch BoundStmt BoundBlock BoundBranch BoundHandler Bool Bool Bool
      Bool (filled k) (filled_block k) (filled_branch k) (filled_handler k) x

  pub branch_filled_at-at : (x : BranchLayer) → filled_branch k (roll-BoundBranch x) ≡
      branch_filled (branch_filled_at x)
  branch_filled_at-at x = fold-roll-BoundBranch Bool Bool Bool Bool (stmt_filled k)
      block_filled branch_filled handler_filled x

  abbrev pub handler_filled_at : HandlerLayer → BoundHandler-F Bool Bool Bool Bool
  handler_filled_at x = map-BoundHandler BoundStmt BoundBlock BoundBranch BoundHandler Bool Bool
      Bool Bool (filled k) (filled_block k) (filled_branch k) (filled_handler k) x

  pub handler_filled_at-at : (x : HandlerLayer) → filled_handler k (roll-BoundHandler x) ≡
      handler_filled (handler_filled_at x)
  handler_filled_at-at x = fold-roll-BoundHandler Bool Bool Bool Bool (stmt_filled k)
      block_filled branch_filled handler_filled x
