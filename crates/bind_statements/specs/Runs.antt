-- Which statements plans answer where all functions have plans.
use Rattle.std.specs.Prelude.{ℕ, ◌≡◌, Bool, true, false, List, [], Option, Some, None, is_some}
use Rattle.syntax_trees.specs.declared.expr.Expr.{Expr}
use Rattle.statement_trees.specs.declared.statement.CreateFunction.{out-CreateFunction}
use Rattle.statement_trees.specs.declared.statement.Declaration.TheOpen.{Stmt-F}
use Rattle.statement_trees.specs.declared.statement.Stmt.{Stmt, out-Stmt}
use Rattle.catalog_store.specs.Catalog.{Object, TableObject, FunctionObject, InterpretedObject}
use Rattle.catalog_store.specs.Catalog.{ProcedureObject, Catalog, object_named}
use Rattle.catalog_store.specs.Planning.{AllPlanned}
use Rattle.bind_rules.specs.Definitions.{Definition}
use Rattle.bind_direct.specs.Returning.{judged_result}
use Rattle.bind_definitions.specs.Making.{is_light}
use Rattle.bind_definitions.specs.Routines.{parameters_of, calls}
use Rattle.bind_rules.specs.Definitions.{Form, result_of}
use Rattle.bind_statements.specs.Statements.{judged_statement}

-- a function without a plan
abbrev pub lacks_plan : Option Object → Bool
lacks_plan None = false
lacks_plan (Some (TableObject t)) = false
lacks_plan (Some (FunctionObject f)) = false
lacks_plan (Some (InterpretedObject f)) = true
lacks_plan (Some (ProcedureObject p)) = false

-- no name stands for a function without a plan
abbrev pub FunctionsPlanned : Catalog → Type 0
FunctionsPlanned catalog = (name : List ℕ) → lacks_plan (object_named name catalog) ≡ false

-- ---- the planned forms

-- whether a statement is of a planned form, opened one layer
abbrev pub has_run_form : Form → Bool
has_run_form (Stmt-F.CreateTable s) = true
has_run_form (Stmt-F.CreateFunction s) = is_some (result_of (out-CreateFunction s))
has_run_form (Stmt-F.Drop s) = true
has_run_form (Stmt-F.Insert s) = true
has_run_form (Stmt-F.Update s) = true
has_run_form (Stmt-F.Delete s) = true
has_run_form (Stmt-F.Query q) = true
has_run_form _ = false

-- CREATE TABLE, CREATE FUNCTION without characteristics whose body is RETURN, DROP, INSERT, UPDATE,
-- DELETE or a query
abbrev pub is_run_form : Stmt → Bool
is_run_form s = has_run_form (out-Stmt s)

-- ---- functions that call themselves

-- the value that a function returns calls it
abbrev pub calls_back : Definition → Option Expr → Catalog → Bool
calls_back s None catalog = false
calls_back s (Some result) catalog = calls s.name.name
    (judged_result s result (parameters_of s.parameters) catalog).uses

-- whether what it makes calls itself
abbrev pub form_calls_itself : Form → Catalog → Bool
form_calls_itself (Stmt-F.CreateFunction s) catalog =
    calls_back (out-CreateFunction s) (result_of (out-CreateFunction s)) catalog
form_calls_itself _ catalog = false

-- a function that only returns a value, and calls itself
abbrev pub calls_itself : Stmt → Catalog → Bool
calls_itself s catalog = form_calls_itself (out-Stmt s) catalog

-- ---- functions that are light

-- the value that a function returns is light
abbrev pub returns_light : Definition → Option Expr → Catalog → Bool
returns_light s None catalog = true
returns_light s (Some result) catalog = is_light catalog
    (judged_result s result (parameters_of s.parameters) catalog).value

-- whether what it makes is light
abbrev pub form_is_light : Form → Catalog → Bool
form_is_light (Stmt-F.CreateFunction s) catalog =
    returns_light (out-CreateFunction s) (result_of (out-CreateFunction s)) catalog
form_is_light _ catalog = true

-- no function that only returns a value, and is heavier than a plan may be
abbrev pub makes_light : Stmt → Catalog → Bool
makes_light s catalog = form_is_light (out-Stmt s) catalog

-- ---- the law

-- Plans answer a statement without faults that is of a planned form, where all functions have plans.
-- A function that calls itself has no plan, and neither has one that is too heavy.
abbrev pub FaultlessRuns : Type 0
FaultlessRuns = (s : Stmt) (catalog : Catalog) → AllPlanned catalog → FunctionsPlanned catalog →
    is_run_form s ≡ true → calls_itself s catalog ≡ false → makes_light s catalog ≡ true
    → (judged_statement s catalog).faults ≡ [] → (judged_statement s catalog).value.by_plan ≡ true
