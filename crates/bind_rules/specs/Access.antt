-- Whether a bound statement writes tables: whether an INSERT, UPDATE or DELETE stands in it, in its
-- handlers too. ISO/IEC 9075-2, 11.60 (SQL-invoked routine: SQL-data access indication).
use Rattle.std.specs.Prelude.{Bool, true, false, ◌||◌, List}
use Rattle.std.specs.List.{list_any}
use Rattle.bound_trees.specs.declared.statement.BoundBranch.{BoundBranch, fold-BoundBranch}
use Rattle.bound_trees.specs.declared.statement.BoundHandler.{BoundHandler, fold-BoundHandler}
use Rattle.bound_trees.specs.declared.statement.BoundStmt.{BoundStmt, fold-BoundStmt}
use Rattle.bound_trees.specs.declared.statement.BoundBlock.{BoundBlock, fold-BoundBlock}
use Rattle.bound_trees.specs.declared.statement.BoundStmt.TheOpen.{BoundStmt-F, BoundBlock-F}
use Rattle.bound_trees.specs.declared.statement.BoundStmt.TheOpen.{BoundBranch-F, BoundHandler-F}

-- whether one of them is true
abbrev pub any : List Bool → Bool
any bs = list_any (λ b. b) bs

-- a statement writes that changes a table, or holds one that does
abbrev pub stmt_writes : BoundStmt-F Bool Bool Bool Bool → Bool
stmt_writes (BoundStmt-F.Insert s listed) = true
stmt_writes (BoundStmt-F.Update s) = true
stmt_writes (BoundStmt-F.Delete s) = true
stmt_writes (BoundStmt-F.Block b) = b
stmt_writes (BoundStmt-F.If branches otherwise) = any branches || any otherwise
stmt_writes (BoundStmt-F.Case operand branches otherwise) = any branches || any otherwise
stmt_writes (BoundStmt-F.Loop body) = any body
stmt_writes (BoundStmt-F.While test body) = any body
stmt_writes (BoundStmt-F.Repeat body test) = any body
stmt_writes (BoundStmt-F.For query slot body) = any body
stmt_writes _ = false

-- a compound statement writes where an action or a statement of it does
abbrev pub block_writes : BoundBlock-F Bool Bool Bool Bool → Bool
block_writes b = any b.handlers || any b.statements

-- a branch writes where a statement of it does
abbrev pub branch_writes : BoundBranch-F Bool Bool Bool Bool → Bool
branch_writes b = any b.body

-- a handler writes where its action does
abbrev pub handler_writes : BoundHandler-F Bool Bool Bool Bool → Bool
handler_writes h = h.action

-- whether an INSERT, UPDATE or DELETE stands in a statement
abbrev pub writes : BoundStmt → Bool
writes = fold-BoundStmt Bool Bool Bool Bool stmt_writes block_writes branch_writes handler_writes

-- or in a compound statement
abbrev pub writes_in_block : BoundBlock → Bool
writes_in_block = fold-BoundBlock Bool Bool Bool Bool stmt_writes block_writes branch_writes
    handler_writes

-- or in a branch
abbrev pub writes_in_branch : BoundBranch → Bool
writes_in_branch = fold-BoundBranch Bool Bool Bool Bool stmt_writes block_writes branch_writes
    handler_writes

-- or in a handler's action
abbrev pub writes_in_handler : BoundHandler → Bool
writes_in_handler = fold-BoundHandler Bool Bool Bool Bool stmt_writes block_writes branch_writes
    handler_writes
