-- CREATE FUNCTION and CREATE PROCEDURE as they are written, and which functions are of the form
-- that is run. ISO/IEC 9075-4, 9.20 (SQL-invoked function); ISO/IEC 9075-2, 11.60 (SQL-invoked
-- routine).
use Rattle.std.specs.Prelude.{List, [], ◌∷◌, Option, Some, None}
use Rattle.syntax_trees.specs.declared.expr.Expr.{Expr}
use Rattle.statement_trees.specs.declared.definition.Characteristic.{Characteristic}
use Rattle.statement_trees.specs.declared.statement.Block.{Block}
use Rattle.statement_trees.specs.declared.statement.Branch.{Branch}
use Rattle.statement_trees.specs.declared.statement.Case.{Case}
use Rattle.statement_trees.specs.declared.statement.CreateFunction.{CreateFunction}
use Rattle.statement_trees.specs.declared.statement.CreateProcedure.{CreateProcedure}
use Rattle.statement_trees.specs.declared.statement.Declaration.{Declaration}
use Rattle.statement_trees.specs.declared.statement.Declaration.TheOpen.{Stmt-F, CreateFunction-F}
use Rattle.statement_trees.specs.declared.statement.Declaration.TheOpen.{CreateProcedure-F}
use Rattle.statement_trees.specs.declared.statement.Handler.{Handler}
use Rattle.statement_trees.specs.declared.statement.If.{If}
use Rattle.statement_trees.specs.declared.statement.Labelled.{Labelled}
use Rattle.statement_trees.specs.declared.statement.Stmt.{Stmt, out-Stmt}
use Rattle.statement_trees.specs.declared.statement.Structure.{Structure}

-- a CREATE FUNCTION, opened one layer
abbrev pub Definition : Type 0
Definition = CreateFunction-F Declaration Stmt Structure Block Branch Case CreateFunction
    CreateProcedure Handler If Labelled

-- a CREATE PROCEDURE, opened one layer
abbrev pub ProcedureDefinition : Type 0
ProcedureDefinition = CreateProcedure-F Declaration Stmt Structure Block Branch Case CreateFunction
    CreateProcedure Handler If Labelled

-- a statement, opened one layer
abbrev pub Form : Type 0
Form = Stmt-F Declaration Stmt Structure Block Branch Case CreateFunction CreateProcedure Handler If
    Labelled

-- the value that a body gives, where it is RETURN
abbrev pub value_returned : Form → Option Expr
value_returned (Stmt-F.Return anchor value) = Some value
value_returned _ = None

-- where there are no characteristics
abbrev pub if_bare : List Characteristic → Option Expr → Option Expr
if_bare [] result = result
if_bare (c ∷ cs) result = None

-- A function of the form that is run has no characteristics, and its body is RETURN: its result.
abbrev pub result_of : Definition → Option Expr
result_of s = if_bare s.characteristics (value_returned (out-Stmt s.body))
