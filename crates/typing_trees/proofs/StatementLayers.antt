-- One layer of each sort of bound statement: whether it is well typed, by the trees in it.
use Rattle.std.proofs.Common.{◌≡◌}
use Rattle.bound_trees.specs.declared.statement.BoundBlock.{BoundBlock, roll-BoundBlock}
use Rattle.bound_trees.specs.declared.statement.BoundBranch.{BoundBranch, roll-BoundBranch}
use Rattle.bound_trees.specs.declared.statement.BoundHandler.{BoundHandler, roll-BoundHandler}
use Rattle.bound_trees.specs.declared.statement.BoundStmt.{BoundStmt, roll-BoundStmt}
use Rattle.bound_trees.specs.declared.statement.BoundStmt.TheFolds.{map-BoundStmt, map-BoundBlock}
use Rattle.bound_trees.specs.declared.statement.BoundStmt.TheFolds.{map-BoundBranch}
use Rattle.bound_trees.specs.declared.statement.BoundStmt.TheFolds.{map-BoundHandler}
use Rattle.bound_trees.specs.declared.statement.BoundStmt.TheFolds.{fold-roll-BoundStmt}
use Rattle.bound_trees.specs.declared.statement.BoundStmt.TheFolds.{fold-roll-BoundBlock}
use Rattle.bound_trees.specs.declared.statement.BoundStmt.TheFolds.{fold-roll-BoundBranch}
use Rattle.bound_trees.specs.declared.statement.BoundStmt.TheFolds.{fold-roll-BoundHandler}
use Rattle.bound_trees.specs.declared.statement.BoundStmt.TheOpen.{BoundStmt-F, BoundBlock-F}
use Rattle.bound_trees.specs.declared.statement.BoundStmt.TheOpen.{BoundBranch-F, BoundHandler-F}
use Rattle.typing_trees.specs.Statements.{Typed, TypedBranch, TypedHandler, stmt_typed, block_typed}
use Rattle.typing_trees.specs.Statements.{branch_parts, handler_parts, is_typed, block_is_typed}
use Rattle.typing_trees.specs.Statements.{branch_of, handler_of}

abbrev pub StmtLayer : Type 0
StmtLayer = BoundStmt-F BoundStmt BoundBlock BoundBranch BoundHandler

abbrev pub BlockLayer : Type 0
BlockLayer = BoundBlock-F BoundStmt BoundBlock BoundBranch BoundHandler

abbrev pub BranchLayer : Type 0
BranchLayer = BoundBranch-F BoundStmt BoundBlock BoundBranch BoundHandler

abbrev pub HandlerLayer : Type 0
HandlerLayer = BoundHandler-F BoundStmt BoundBlock BoundBranch BoundHandler

abbrev pub stmt_seen : StmtLayer → BoundStmt-F Typed Typed TypedBranch TypedHandler
stmt_seen x = map-BoundStmt BoundStmt BoundBlock BoundBranch BoundHandler Typed Typed TypedBranch
    TypedHandler is_typed block_is_typed branch_of handler_of x

pub is_typed-at : (x : StmtLayer) → is_typed (roll-BoundStmt x) ≡ stmt_typed (stmt_seen x)
is_typed-at x = fold-roll-BoundStmt Typed Typed TypedBranch TypedHandler stmt_typed block_typed
    branch_parts handler_parts x

abbrev pub block_seen : BlockLayer → BoundBlock-F Typed Typed TypedBranch TypedHandler
block_seen x = map-BoundBlock BoundStmt BoundBlock BoundBranch BoundHandler Typed Typed TypedBranch
    TypedHandler is_typed block_is_typed branch_of handler_of x

pub block_is_typed-at : (x : BlockLayer) →
    block_is_typed (roll-BoundBlock x) ≡ block_typed (block_seen x)
block_is_typed-at x =
    fold-roll-BoundBlock Typed Typed TypedBranch TypedHandler stmt_typed block_typed
    branch_parts handler_parts x

abbrev pub branch_seen : BranchLayer → BoundBranch-F Typed Typed TypedBranch TypedHandler
branch_seen x =
    map-BoundBranch BoundStmt BoundBlock BoundBranch BoundHandler Typed Typed TypedBranch
    TypedHandler is_typed block_is_typed branch_of handler_of x

pub branch_of-at : (x : BranchLayer) → branch_of (roll-BoundBranch x) ≡ branch_parts (branch_seen x)
branch_of-at x = fold-roll-BoundBranch Typed Typed TypedBranch TypedHandler stmt_typed block_typed
    branch_parts handler_parts x

abbrev pub handler_seen : HandlerLayer → BoundHandler-F Typed Typed TypedBranch TypedHandler
handler_seen x =
    map-BoundHandler BoundStmt BoundBlock BoundBranch BoundHandler Typed Typed TypedBranch
    TypedHandler is_typed block_is_typed branch_of handler_of x

pub handler_of-at : (x : HandlerLayer) →
    handler_of (roll-BoundHandler x) ≡ handler_parts (handler_seen x)
handler_of-at x = fold-roll-BoundHandler Typed Typed TypedBranch TypedHandler stmt_typed block_typed
    branch_parts handler_parts x
