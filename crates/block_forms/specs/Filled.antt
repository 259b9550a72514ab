-- Whether each SELECT INTO of a statement in form has as many columns as targets. ISO/IEC 9075-2,
-- 14.7 (select statement: single row).
use Rattle.std.specs.Prelude.{Bool, true, ◌&&◌, List, length, nat_eq}
use Rattle.bound_trees.specs.declared.query.BoundQuery.{BoundQuery}
use Rattle.bound_trees.specs.declared.statement.BoundBlock.{BoundBlock, fold-BoundBlock}
use Rattle.bound_trees.specs.declared.statement.BoundBranch.{BoundBranch, fold-BoundBranch}
use Rattle.bound_trees.specs.declared.statement.BoundHandler.{BoundHandler, fold-BoundHandler}
use Rattle.bound_trees.specs.declared.statement.BoundStmt.{BoundStmt, fold-BoundStmt}
use Rattle.bound_trees.specs.declared.statement.BoundStmt.TheOpen.{BoundStmt-F, BoundBlock-F}
use Rattle.bound_trees.specs.declared.statement.BoundStmt.TheOpen.{BoundBranch-F, BoundHandler-F}
use Rattle.bound_trees.specs.declared.statement.BoundTarget.{BoundTarget}
use Rattle.rel_algebra.specs.Joins.{query_width}
use Rattle.block_plans.specs.Callees.{Callees}
use Rattle.block_plans.specs.View.{query_seen}
use Rattle.region_trees.specs.Form.{all}

-- a query has as many columns as there are targets; no table tells how many
abbrev pub fills : Callees → BoundQuery → List BoundTarget → Bool
fills k q ts = nat_eq (query_width (query_seen k q) (λ name. 0)) (length ts)

-- ---- one level, with what stands inside already judged

-- a statement; loops are in no form
abbrev pub stmt_filled : Callees → BoundStmt-F Bool Bool Bool Bool → Bool
stmt_filled k (BoundStmt-F.Block b) = b
stmt_filled k (BoundStmt-F.If bs ss) = all bs && all ss
stmt_filled k (BoundStmt-F.Case operand bs ss) = all bs && all ss
stmt_filled k (BoundStmt-F.SelectInto q ts) = fills k q ts
stmt_filled k _ = true

-- a compound statement
abbrev pub block_filled : BoundBlock-F Bool Bool Bool Bool → Bool
block_filled b = all b.handlers && all b.statements

-- the statements after a test
abbrev pub branch_filled : BoundBranch-F Bool Bool Bool Bool → Bool
branch_filled b = all b.body

-- a handler by its action
abbrev pub handler_filled : BoundHandler-F Bool Bool Bool Bool → Bool
handler_filled h = h.action

-- ---- whole trees

-- a statement
abbrev pub filled : Callees → BoundStmt → Bool
filled k = fold-BoundStmt Bool Bool Bool Bool (stmt_filled k) block_filled branch_filled
    handler_filled

-- a compound statement
abbrev pub filled_block : Callees → BoundBlock → Bool
filled_block k = fold-BoundBlock Bool Bool Bool Bool (stmt_filled k) block_filled
    branch_filled handler_filled

-- a test with its statements
abbrev pub filled_branch : Callees → BoundBranch → Bool
filled_branch k = fold-BoundBranch Bool Bool Bool Bool (stmt_filled k) block_filled
    branch_filled handler_filled

-- a handler's action
abbrev pub filled_handler : Callees → BoundHandler → Bool
filled_handler k = fold-BoundHandler Bool Bool Bool Bool (stmt_filled k) block_filled
    branch_filled handler_filled
