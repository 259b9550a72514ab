-- Bodies of functions in form: statements over leaves, with their names resolved. What their leaves
-- are trees of is left open.
use Rattle.std.specs.Prelude.{ℕ, Bool, List, [], ◌∷◌, Option}
use Rattle.sql_values.specs.declared.value.SqlType.{SqlType}
use Rattle.rel_algebra.specs.Tree.{ConditionValue}
pub use Rattle.rel_algebra.specs.Tree.{Target, HandlerType, Continue, Exit, Undo, StatementItem}
pub use Rattle.rel_algebra.specs.Tree.{Number, RowCount, StatementRead, ConditionItem}
pub use Rattle.rel_algebra.specs.Tree.{ReturnedSqlstate, MessageText, ConditionRead}
use Rattle.rel_algebra.specs.OnConditions.{ItemWord, state_item, text_item}
use Rattle.rel_algebra.specs.Leaves.{ValueLeaf, QueryLeaf}

-- the word that reads an item of a condition
abbrev pub word_of : ConditionItem → ItemWord
word_of ReturnedSqlstate = state_item
word_of MessageText = text_item

-- an expression that may be left out
pub data Perhaps : Type 0 where
  Without : Perhaps
  With : ValueLeaf → Perhaps

-- how many variables one declaration makes, their type and their default
pub data Variables : Type 0 where
  NoVariable : Variables
  MoreVariables : ℕ → SqlType → Perhaps → Variables → Variables

mutual
  -- A label stands by how many compound statements outwards it is; an action stands inside its
  -- compound statement.
  pub data Stmt : Type 0 where
    -- whether it is ATOMIC, its variables, its handlers and its statements
    Compound : Bool → Variables → Handlers → Stmts → Stmt
    -- tests with their statements, and the statements of ELSE
    If : Branches → Stmts → Stmt
    -- CASE with tests, and with an operand; no statements of ELSE where there is no ELSE
    SearchedCase : Branches → Stmts → Stmt
    SimpleCase : ValueLeaf → Branches → Stmts → Stmt
    Set : Target → ValueLeaf → Stmt
    SelectInto : QueryLeaf → List Target → Stmt
    -- the state and the text
    Signal : List ℕ → Perhaps → Stmt
    Resignal : Option (List ℕ) → Perhaps → Stmt
    -- GET STACKED DIAGNOSTICS, and of the condition with a number
    GetStatementItems : List StatementRead → Stmt
    GetConditionItems : ValueLeaf → List ConditionRead → Stmt
    Leave : ℕ → Stmt
    Return : ValueLeaf → Stmt

  -- statements in order
  pub data Stmts : Type 0 where
    NoStmt : Stmts
    MoreStmts : Stmt → Stmts → Stmts

  -- a test, or what the operand of CASE is compared with, and the statements that it chooses
  pub data Branches : Type 0 where
    NoBranch : Branches
    MoreBranches : ValueLeaf → Stmts → Branches → Branches

  -- the handlers of a compound statement: what follows the action, what it waits for, and the
  -- action
  pub data Handlers : Type 0 where
    NoHandler : Handlers
    MoreHandlers : HandlerType → List ConditionValue → Stmt → Handlers → Handlers

-- the types of the parameters, that of the result, and the body
pub data Routine : Type 0 where
  Body : List SqlType → SqlType → Stmt → Routine

-- the types of a function's parameters
abbrev pub parameters_of : Routine → List SqlType
parameters_of (Body types returns body) = types

-- at least one target
abbrev pub HasTarget : List Target → Type 0
HasTarget [] = ⊥
HasTarget (t ∷ ts) = Unit {0}
