-- Plain trees of functions in form: statements over expressions and queries, with their names
-- resolved.
use Rattle.std.specs.Prelude.{ℕ, Bool, List, Option}
use Rattle.sql_values.specs.declared.value.SqlType.{SqlType}
use Rattle.rel_algebra.specs.Tree.{Expr, Query, ConditionValue}
pub use Rattle.rel_algebra.specs.Tree.{Target, HandlerType, Continue, Exit, Undo, Perhaps, Without}
pub use Rattle.rel_algebra.specs.Tree.{With, StatementItem, Number, RowCount, StatementRead}
pub use Rattle.rel_algebra.specs.Tree.{Variables, NoVariable, MoreVariables, ConditionItem}
pub use Rattle.rel_algebra.specs.Tree.{ReturnedSqlstate, MessageText, ConditionRead}
pub use Rattle.rel_algebra.specs.Bodies.{word_of}

mutual
  -- A label stands by how many compound statements outwards it is; an action stands inside its
  -- compound statement.
  pub data Stmt : Type 0 where
    -- whether it is ATOMIC, its variables, its handlers and its statements
    Compound : Bool → Variables → Handlers → Stmts → Stmt
    -- tests with their statements, and the statements of ELSE
    If : Branches → Stmts → Stmt
    -- CASE with tests, and with an operand; no statements of ELSE where there is no ELSE
    SearchedCase : Branches → Stmts → Stmt
    SimpleCase : Expr → Branches → Stmts → Stmt
    Set : Target → Expr → Stmt
    SelectInto : Query → List Target → Stmt
    -- the state and the text
    Signal : List ℕ → Perhaps → Stmt
    Resignal : Option (List ℕ) → Perhaps → Stmt
    -- GET STACKED DIAGNOSTICS, and of the condition with a number
    GetStatementItems : List StatementRead → Stmt
    GetConditionItems : Expr → List ConditionRead → Stmt
    Leave : ℕ → Stmt
    Return : Expr → Stmt

  -- statements in order
  pub data Stmts : Type 0 where
    NoStmt : Stmts
    MoreStmts : Stmt → Stmts → Stmts

  -- a test, or what the operand of CASE is compared with, and the statements that it chooses
  pub data Branches : Type 0 where
    NoBranch : Branches
    MoreBranches : Expr → Stmts → Branches → Branches

  -- the handlers of a compound statement: what follows the action, what it waits for, and the
  -- action
  pub data Handlers : Type 0 where
    NoHandler : Handlers
    MoreHandlers : HandlerType → List ConditionValue → Stmt → Handlers → Handlers

-- the types of the parameters, that of the result, and the body
pub data Routine : Type 0 where
  Body : List SqlType → SqlType → Stmt → Routine
