-- Plain trees: statements with their names resolved. A call holds the tree of the routine that it
-- calls, and OPEN the cursor's query.
use Rattle.std.specs.Prelude.{ℕ, suc, Bool, false, List, [], Option}
use Rattle.sql_values.specs.declared.value.Value.{Value}
use Rattle.sql_values.specs.declared.value.SqlType.{SqlType}
use Rattle.sql_values.specs.declared.operators.Operator.{Operator}
use Rattle.sql_values.specs.declared.operators.Comparison.{Comparison}
use Rattle.sql_values.specs.declared.fold.FoldKind.{FoldKind}
pub use Rattle.sql_values.specs.declared.fold.FoldKind.TheVariants.{Count, Sum, Avg, Min, Max}
use Rattle.row_types.specs.declared.sort_key.SortKey.{SortKey}

-- The operations that take all their operands, from left to right. ISO/IEC 9075-2, 6.13, 6.27,
-- 6.28, 6.32, 8.2, 8.4, 8.8, 6.39 and 9.2.
pub data Operation : Type 0 where
  -- the number with the other sign
  Negation : Operation
  Arithmetic : Operator → Operation
  Comparing : Comparison → Operation
  -- MOD
  Modulo : Operation
  -- CHAR_LENGTH
  CharLength : Operation
  -- SUBSTRING: the text, the place, and perhaps the length
  Substring : Operation
  -- CAST
  Cast : SqlType → Operation
  -- the value that a target of the type takes
  Assign : SqlType → Operation
  -- NOT
  Opposite : Operation
  -- IS NULL, IS TRUE, IS FALSE
  NullTest : Operation
  TrueTest : Operation
  FalseTest : Operation
  -- the first among the others: x IN (a, b)
  AnyOf : Operation

-- ISO/IEC 9075-2, 10.9 (aggregate function). COUNT of all rows is that of a column of TRUE.
abbrev pub Aggregate : Type 0
Aggregate = FoldKind

-- a variable into which a value is stored: its slot, and its type
pub record Target : Type 0 where
  -- its place in the frame
  pub slot : ℕ
  -- to which values are assigned
  pub data_type : SqlType

-- which way the value of a parameter goes. ISO/IEC 9075-2, 11.60 (SQL-invoked routine).
pub data Mode : Type 0 where
  InMode : Mode
  OutMode : Mode
  InoutMode : Mode

-- a parameter of a procedure
pub record Parameter : Type 0 where
  pub mode : Mode
  pub data_type : SqlType

-- what follows a handler's action. ISO/IEC 9075-4, 14.2 (handler declaration).
pub data HandlerType : Type 0 where
  Continue : HandlerType
  Exit : HandlerType
  Undo : HandlerType

-- what a handler waits for: an SQLSTATE, or a class of conditions
pub data ConditionValue : Type 0 where
  State : List ℕ → ConditionValue
  SqlException : ConditionValue
  SqlWarning : ConditionValue
  NotFound : ConditionValue

-- which diagnostics area is read, and what of it. ISO/IEC 9075-2, 23.1 (get diagnostics statement).
pub data WhichArea : Type 0 where
  Current : WhichArea
  Stacked : WhichArea

-- what is read of the area as a whole. 23.1 (get diagnostics statement)
pub data StatementItem : Type 0 where
  Number : StatementItem
  RowCount : StatementItem

-- what is read of one condition. 23.1 (get diagnostics statement)
pub data ConditionItem : Type 0 where
  ReturnedSqlstate : ConditionItem
  MessageText : ConditionItem

-- an item and where it is stored
pub record StatementRead : Type 0 where
  pub item : StatementItem
  pub target : Target

-- an item of a condition, and where it is stored
pub record ConditionRead : Type 0 where
  pub item : ConditionItem
  pub target : Target

mutual
  -- an expression. 6.25 (value expression)
  pub data Expr : Type 0 where
    Literal : Value → Expr
    -- a column: how many queries outwards it stands, and its place in that row
    Column : ℕ → ℕ → Expr
    -- a variable, a parameter or a column of FOR, by its slot in the frame
    Variable : ℕ → Expr
    -- a chain of operators, read from the left
    Chain : Expr → Links → Expr
    -- an operation over its operands
    Operate : Operation → Exprs → Expr
    -- chains of AND and of OR
    And : Exprs → Expr
    Or : Exprs → Expr
    -- tests and results in turn, and perhaps a last result
    Case : Exprs → Expr
    -- an operand, what it is compared with first and that result, and so on
    CaseOf : Expr → Expr → Expr → Exprs → Expr
    Coalesce : Exprs → Expr
    -- x IN a query
    In : Expr → Query → Expr
    Exists : Query → Expr
    -- a scalar subquery
    Single : Query → Expr
    -- a call: the function's name, of which the meaning knows nothing, its tree, and the arguments
    Call : List ℕ → Routine → Exprs → Expr
    -- a call of the function in which it stands, with the types of its parameters
    CallSelf : List SqlType → Exprs → Expr

  -- the operators of a chain, each with what stands right of it
  pub data Links : Type 0 where
    NoLink : Links
    MoreLinks : Operator → Expr → Links → Links

  -- expressions in order
  pub data Exprs : Type 0 where
    NoExpr : Exprs
    MoreExprs : Expr → Exprs → Exprs

  -- an expression that may be left out
  pub data Perhaps : Type 0 where
    Without : Perhaps
    With : Expr → Perhaps

  -- a function: whether it calls itself, the types of its parameters, that of its result, RETURNS
  -- NULL ON NULL INPUT, and its body; a procedure: whether it calls itself, its parameters and its
  -- body
  pub data Routine : Type 0 where
    Function : Bool → List SqlType → SqlType → Bool → Stmt → Routine
    Procedure : Bool → List Parameter → Stmt → Routine

  -- the rows of VALUES
  pub data Rows : Type 0 where
    NoRow : Rows
    MoreRows : Exprs → Rows → Rows

  -- what stands after FROM
  pub data From : Type 0 where
    Table : List ℕ → From
    -- a derived table
    Derived : Query → From
    Cross : From → From → From
    -- joins with the conjuncts of ON, which see the pair as their row
    Inner : From → From → Exprs → From
    LeftOuter : From → From → Exprs → From

  -- a query. 7.16 (query specification) and 7.17 (query expression)
  pub data Query : Type 0 where
    -- the select list, FROM, and the top conjuncts of WHERE
    Select : Exprs → From → Exprs → Query
    -- FROM, the conjuncts of WHERE, how many grouping columns, these and then the arguments of the
    -- aggregates, the aggregates, the conjuncts of HAVING and the list. Both of these see the row
    -- of a group: its grouping columns, and then its finished aggregates.
    Grouped : From → Exprs → ℕ → Exprs → List Aggregate → Exprs → Exprs → Query
    Values : Rows → Query
    Ordered : Query → List SortKey → Query

  -- Statements of routines and blocks. A label stands by how many compound statements and loops
  -- outwards it is; an action stands inside its compound statement.
  pub data Stmt : Type 0 where
    -- the table, the places of the listed columns, where some are listed, and the new rows
    Insert : List ℕ → Option (List ℕ) → Query → Stmt
    -- the table, the places of the columns that are assigned, and the rows that are met, each with
    -- its new values after it
    Update : List ℕ → List ℕ → Query → Stmt
    -- the table, and the rows that are met
    Delete : List ℕ → Query → Stmt
    -- CALL: the procedure's name, of which the meaning knows nothing, its tree, and the arguments
    CallProcedure : List ℕ → Routine → Arguments → Stmt
    -- CALL of the procedure in which it stands, with its parameters
    CallItself : List Parameter → Arguments → Stmt
    -- a compound statement: whether it is ATOMIC, its variables, how many cursors it declares, its
    -- handlers and its statements
    Compound : Bool → Variables → ℕ → Handlers → Stmts → Stmt
    -- tests with their statements, and the statements of ELSE
    If : Branches → Stmts → Stmt
    -- CASE with tests, and with an operand; no statements of ELSE where there is no ELSE
    SearchedCase : Branches → Stmts → Stmt
    SimpleCase : Expr → Branches → Stmts → Stmt
    Set : Target → Expr → Stmt
    SelectInto : Query → List Target → Stmt
    Loop : Stmts → Stmt
    While : Expr → Stmts → Stmt
    Repeat : Stmts → Expr → Stmt
    -- the statements see the columns of the query as the slots after those in sight
    For : Query → Stmts → Stmt
    -- a cursor stands by its slot
    Open : ℕ → Query → Stmt
    Fetch : ℕ → List Target → Stmt
    Close : ℕ → Stmt
    -- the state and the text
    Signal : List ℕ → Perhaps → Stmt
    Resignal : Option (List ℕ) → Perhaps → Stmt
    GetStatementItems : WhichArea → List StatementRead → Stmt
    -- of the condition with a number
    GetConditionItems : WhichArea → Expr → List ConditionRead → Stmt
    Leave : ℕ → Stmt
    Iterate : ℕ → Stmt
    Return : Expr → Stmt

  -- statements in order
  pub data Stmts : Type 0 where
    NoStmt : Stmts
    MoreStmts : Stmt → Stmts → Stmts

  -- a test, or what the operand of CASE is compared with, and the statements that it chooses
  pub data Branches : Type 0 where
    NoBranch : Branches
    MoreBranches : Expr → Stmts → Branches → Branches

  -- how many variables one declaration makes, their type and their default
  pub data Variables : Type 0 where
    NoVariable : Variables
    MoreVariables : ℕ → SqlType → Perhaps → Variables → Variables

  -- the handlers of a compound statement: what follows the action, what it waits for, and the
  -- action. ISO/IEC 9075-4, 14.2
  pub data Handlers : Type 0 where
    NoHandler : Handlers
    MoreHandlers : HandlerType → List ConditionValue → Stmt → Handlers → Handlers

  -- An argument of CALL and more of them: the value of an IN parameter, or of an INOUT one that is
  -- given back to the script; the variable of an OUT or INOUT parameter; an OUT value that is given
  -- back to the script.
  pub data Arguments : Type 0 where
    NoArgument : Arguments
    MoreValues : Expr → Arguments → Arguments
    MoreTargets : Target → Arguments → Arguments
    MoreGiven : Arguments → Arguments

-- a function that only returns an expression: it is no part of itself, and is called on NULL too
pattern abbrev pub Returned : List SqlType → SqlType → Expr → Routine
Returned parameters returns e = Function false parameters returns false (Return e)

-- the types of a function's parameters
abbrev pub parameters_of : Routine → List SqlType
parameters_of (Function calls_itself parameters returns null_call body) = parameters
parameters_of (Procedure calls_itself parameters body) = []

-- the parameters of a procedure
abbrev pub modes_of : Routine → List Parameter
modes_of (Function calls_itself parameters returns null_call body) = []
modes_of (Procedure calls_itself parameters body) = parameters

-- how many expressions there are
abbrev pub count : Exprs → ℕ
count NoExpr = 0
count (MoreExprs e es) = suc (count es)
