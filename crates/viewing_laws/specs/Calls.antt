-- The names that a bound tree calls: of functions in its expressions, and of procedures. The tables
-- that it reads and writes are none of them. ISO/IEC 9075-2, 10.4 (routine invocation) and 15.1
-- (call statement).
use Rattle.std.specs.Prelude.{ℕ, List, [], ◌∷◌, ◌++◌, Option, Some, None}
use Rattle.std.specs.List.{flat_map}
use Rattle.bound_trees.specs.declared.condition.BoundInformation.{BoundInformation}
use Rattle.bound_trees.specs.declared.condition.BoundInformation.TheVariants as information
use Rattle.bound_trees.specs.declared.expr.BoundExpr.{BoundExpr}
use Rattle.bound_trees.specs.declared.query.BoundQuery.{BoundQuery}
use Rattle.bound_trees.specs.declared.statement.BoundArgument.{BoundArgument}
use Rattle.bound_trees.specs.declared.statement.BoundArgument.TheVariants as argument
use Rattle.bound_trees.specs.declared.statement.BoundBlock.{BoundBlock, fold-BoundBlock}
use Rattle.bound_trees.specs.declared.statement.BoundBranch.{BoundBranch, fold-BoundBranch}
use Rattle.bound_trees.specs.declared.statement.BoundHandler.{BoundHandler, fold-BoundHandler}
use Rattle.bound_trees.specs.declared.statement.BoundStmt.{BoundStmt, fold-BoundStmt}
use Rattle.bound_trees.specs.declared.statement.BoundStmt.TheOpen.{BoundStmt-F, BoundBlock-F}
use Rattle.bound_trees.specs.declared.statement.BoundStmt.TheOpen.{BoundBranch-F, BoundHandler-F}
use Rattle.bound_trees.specs.declared.statement.BoundVariables.{BoundVariables}
use Rattle.catalog_store.specs.Uses.{Use, Uses, calls, reads, uses_in, uses_in_query}

-- names in the order in which they stand in the text, with repetitions
abbrev pub CalledNames : Type 0
CalledNames = List (List ℕ)

-- the name of a call; a table is not called
abbrev pub name_called : Use → CalledNames
name_called (calls name arguments) = name ∷ []
name_called (reads name) = []

-- those of uses in their order
abbrev pub names_called : Uses → CalledNames
names_called us = flat_map name_called us

-- the names of several parts, one after another
abbrev pub all_calls : List CalledNames → CalledNames
all_calls parts = flat_map (λ names. names) parts

-- ---- what holds no statement

-- the functions that an expression calls
abbrev pub expr_calls : BoundExpr → CalledNames
expr_calls e = names_called (uses_in e)

-- those of a query
abbrev pub query_calls : BoundQuery → CalledNames
query_calls q = names_called (uses_in_query q)

-- those of an expression that may be left out
abbrev pub calls_if_there : Option BoundExpr → CalledNames
calls_if_there None = []
calls_if_there (Some e) = expr_calls e

-- an argument's value; a variable and `?` call nothing
abbrev pub argument_calls : BoundArgument → CalledNames
argument_calls (argument.Value e) = expr_calls e
argument_calls (argument.Variable t) = []
argument_calls argument.Given = []

-- each argument, in turn
abbrev pub arguments_calls : List BoundArgument → CalledNames
arguments_calls xs = flat_map argument_calls xs

-- the number of a condition
abbrev pub information_calls : BoundInformation → CalledNames
information_calls (information.Statement rs) = []
information_calls (information.Condition n rs) = expr_calls n

-- the defaults of variables
abbrev pub variables_calls : List BoundVariables → CalledNames
variables_calls vs = flat_map (λ v. calls_if_there v.default) vs

-- the queries of cursors
abbrev pub cursors_calls : List BoundQuery → CalledNames
cursors_calls qs = flat_map query_calls qs

-- ---- one level, with what stands inside already seen as its names

-- CALL calls its procedure, and what its arguments call.
abbrev pub stmt_calls : BoundStmt-F CalledNames CalledNames CalledNames CalledNames → CalledNames
stmt_calls (BoundStmt-F.Insert b places) = query_calls b.source
stmt_calls (BoundStmt-F.Update b) = query_calls b.rows
stmt_calls (BoundStmt-F.Delete b) = query_calls b.rows
stmt_calls (BoundStmt-F.Call c) = c.procedure ∷ arguments_calls c.arguments
stmt_calls (BoundStmt-F.Block b) = b
stmt_calls (BoundStmt-F.If bs ss) = all_calls bs ++ all_calls ss
stmt_calls (BoundStmt-F.Case operand bs ss) =
    calls_if_there operand ++ (all_calls bs ++ all_calls ss)
stmt_calls (BoundStmt-F.Set t e) = expr_calls e
stmt_calls (BoundStmt-F.SelectInto q ts) = query_calls q
stmt_calls (BoundStmt-F.Loop body) = all_calls body
stmt_calls (BoundStmt-F.While test body) = expr_calls test ++ all_calls body
stmt_calls (BoundStmt-F.Repeat body test) = all_calls body ++ expr_calls test
stmt_calls (BoundStmt-F.For q slot body) = query_calls q ++ all_calls body
stmt_calls (BoundStmt-F.Open slot) = []
stmt_calls (BoundStmt-F.Close slot) = []
stmt_calls (BoundStmt-F.Fetch slot ts) = []
stmt_calls (BoundStmt-F.Signal s) = calls_if_there s.message
stmt_calls (BoundStmt-F.Resignal s) = calls_if_there s.message
stmt_calls (BoundStmt-F.GetDiagnostics d) = information_calls d.information
stmt_calls (BoundStmt-F.Leave level) = []
stmt_calls (BoundStmt-F.Iterate level) = []
stmt_calls (BoundStmt-F.Return e) = expr_calls e

-- a compound statement: defaults, cursors, handlers and statements
abbrev pub block_calls : BoundBlock-F CalledNames CalledNames CalledNames CalledNames → CalledNames
block_calls b = variables_calls b.variables ++
    (cursors_calls b.cursors ++ (all_calls b.handlers ++ all_calls b.statements))

-- a branch: its test and its statements
abbrev pub branch_calls : BoundBranch-F CalledNames CalledNames CalledNames CalledNames →
    CalledNames
branch_calls b = expr_calls b.test ++ all_calls b.body

-- a handler: its action
abbrev pub handler_calls : BoundHandler-F CalledNames CalledNames CalledNames CalledNames →
    CalledNames
handler_calls h = h.action

-- ---- whole trees

-- what a statement calls
abbrev pub statement_calls : BoundStmt → CalledNames
statement_calls = fold-BoundStmt CalledNames CalledNames CalledNames CalledNames stmt_calls
    block_calls branch_calls handler_calls

-- what a compound statement calls
abbrev pub calls_of_block : BoundBlock → CalledNames
calls_of_block = fold-BoundBlock CalledNames CalledNames CalledNames CalledNames stmt_calls
    block_calls branch_calls handler_calls

-- what a branch calls
abbrev pub calls_of_branch : BoundBranch → CalledNames
calls_of_branch = fold-BoundBranch CalledNames CalledNames CalledNames CalledNames stmt_calls
    block_calls branch_calls handler_calls

-- what a handler calls
abbrev pub calls_of_handler : BoundHandler → CalledNames
calls_of_handler = fold-BoundHandler CalledNames CalledNames CalledNames CalledNames stmt_calls
    block_calls branch_calls handler_calls
