-- The names that a bound statement uses of a catalog: the tables that it reads and writes, and the
-- functions and procedures that it calls. ISO/IEC 9075-2, 7.6 (table reference), 10.4 (routine
-- invocation), 14.9 (delete), 14.11 (insert), 14.14 (update) and 15.1 (call statement).
use Rattle.std.specs.Prelude.{ℕ, List, [], ◌∷◌, ◌++◌, Option, Some, None}
use Rattle.std.specs.List.{flat_map}
use Rattle.bound_trees.specs.declared.condition.BoundInformation.{BoundInformation}
use Rattle.bound_trees.specs.declared.condition.BoundInformation.TheVariants as information
use Rattle.bound_trees.specs.declared.expr.BoundExpr.{BoundExpr}
use Rattle.bound_trees.specs.declared.query.BoundQuery.{BoundQuery}
use Rattle.bound_trees.specs.declared.statement.BoundArgument.{BoundArgument}
use Rattle.bound_trees.specs.declared.statement.BoundArgument.TheVariants as argument
use Rattle.bound_trees.specs.declared.statement.BoundBlock.{BoundBlock, fold-BoundBlock}
use Rattle.bound_trees.specs.declared.statement.BoundBranch.{BoundBranch, fold-BoundBranch}
use Rattle.bound_trees.specs.declared.statement.BoundHandler.{BoundHandler, fold-BoundHandler}
use Rattle.bound_trees.specs.declared.statement.BoundStmt.{BoundStmt, fold-BoundStmt}
use Rattle.bound_trees.specs.declared.statement.BoundStmt.TheOpen.{BoundStmt-F, BoundBlock-F}
use Rattle.bound_trees.specs.declared.statement.BoundStmt.TheOpen.{BoundBranch-F, BoundHandler-F}
use Rattle.bound_trees.specs.declared.statement.BoundVariables.{BoundVariables}
use Rattle.catalog_store.specs.Uses.{uses_in, uses_in_query, names_used}

-- names in the order in which they stand in the text, with repetitions
abbrev pub UsedNames : Type 0
UsedNames = List (List ℕ)

-- the names of several parts, one after another
abbrev pub all_names : List UsedNames → UsedNames
all_names parts = flat_map (λ names. names) parts

-- ---- what holds no statement

-- the tables that an expression reads, and the functions that it calls
abbrev pub expr_names : BoundExpr → UsedNames
expr_names e = names_used (uses_in e)

-- those of a query
abbrev pub query_names : BoundQuery → UsedNames
query_names q = names_used (uses_in_query q)

-- those of an expression that may be left out
abbrev pub names_if_there : Option BoundExpr → UsedNames
names_if_there None = []
names_if_there (Some e) = expr_names e

-- an argument's value; a variable and `?` use no name
abbrev pub argument_names : BoundArgument → UsedNames
argument_names (argument.Value e) = expr_names e
argument_names (argument.Variable t) = []
argument_names argument.Given = []

-- each argument, in turn
abbrev pub arguments_names : List BoundArgument → UsedNames
arguments_names xs = flat_map argument_names xs

-- the number of a condition
abbrev pub information_names : BoundInformation → UsedNames
information_names (information.Statement rs) = []
information_names (information.Condition n rs) = expr_names n

-- the defaults of variables
abbrev pub variables_names : List BoundVariables → UsedNames
variables_names vs = flat_map (λ v. names_if_there v.default) vs

-- the queries of cursors
abbrev pub cursors_names : List BoundQuery → UsedNames
cursors_names qs = flat_map query_names qs

-- ---- one level, with what stands inside already seen as its names

-- A statement that writes uses its table, CALL its procedure.
abbrev pub stmt_names : BoundStmt-F UsedNames UsedNames UsedNames UsedNames → UsedNames
stmt_names (BoundStmt-F.Insert b places) = b.table ∷ query_names b.source
stmt_names (BoundStmt-F.Update b) = b.table ∷ query_names b.rows
stmt_names (BoundStmt-F.Delete b) = b.table ∷ query_names b.rows
stmt_names (BoundStmt-F.Call c) = c.procedure ∷ arguments_names c.arguments
stmt_names (BoundStmt-F.Block b) = b
stmt_names (BoundStmt-F.If bs ss) = all_names bs ++ all_names ss
stmt_names (BoundStmt-F.Case operand bs ss) =
    names_if_there operand ++ (all_names bs ++ all_names ss)
stmt_names (BoundStmt-F.Set t e) = expr_names e
stmt_names (BoundStmt-F.SelectInto q ts) = query_names q
stmt_names (BoundStmt-F.Loop body) = all_names body
stmt_names (BoundStmt-F.While test body) = expr_names test ++ all_names body
stmt_names (BoundStmt-F.Repeat body test) = all_names body ++ expr_names test
stmt_names (BoundStmt-F.For q slot body) = query_names q ++ all_names body
stmt_names (BoundStmt-F.Open slot) = []
stmt_names (BoundStmt-F.Close slot) = []
stmt_names (BoundStmt-F.Fetch slot ts) = []
stmt_names (BoundStmt-F.Signal s) = names_if_there s.message
stmt_names (BoundStmt-F.Resignal s) = names_if_there s.message
stmt_names (BoundStmt-F.GetDiagnostics d) = information_names d.information
stmt_names (BoundStmt-F.Leave level) = []
stmt_names (BoundStmt-F.Iterate level) = []
stmt_names (BoundStmt-F.Return e) = expr_names e

-- a compound statement: defaults, cursors, handlers and statements
abbrev pub block_names : BoundBlock-F UsedNames UsedNames UsedNames UsedNames → UsedNames
block_names b = variables_names b.variables ++
    (cursors_names b.cursors ++ (all_names b.handlers ++ all_names b.statements))

-- a branch: its test and its statements
abbrev pub branch_names : BoundBranch-F UsedNames UsedNames UsedNames UsedNames → UsedNames
branch_names b = expr_names b.test ++ all_names b.body

-- a handler: its action
abbrev pub handler_names : BoundHandler-F UsedNames UsedNames UsedNames UsedNames → UsedNames
handler_names h = h.action

-- ---- whole trees

-- what a statement uses
abbrev pub statement_names : BoundStmt → UsedNames
statement_names = fold-BoundStmt UsedNames UsedNames UsedNames UsedNames stmt_names block_names
    branch_names handler_names

-- what a compound statement uses
abbrev pub names_of_block : BoundBlock → UsedNames
names_of_block = fold-BoundBlock UsedNames UsedNames UsedNames UsedNames stmt_names block_names
    branch_names handler_names

-- what a branch uses
abbrev pub names_of_branch : BoundBranch → UsedNames
names_of_branch = fold-BoundBranch UsedNames UsedNames UsedNames UsedNames stmt_names block_names
    branch_names handler_names

-- what a handler uses
abbrev pub names_of_handler : BoundHandler → UsedNames
names_of_handler = fold-BoundHandler UsedNames UsedNames UsedNames UsedNames stmt_names block_names
    branch_names handler_names
