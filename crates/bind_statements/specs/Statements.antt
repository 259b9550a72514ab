-- Statements: the bound statement that each stands for, the name faults in it, one clause for each
-- rule that it can break, and whether plans answer it. ISO/IEC 9075-2, 11.60
-- (SQL-invoked routine), 13.5 (SQL procedure statement) and 22.1 (direct SQL statement).
use Rattle.std.specs.Prelude.{Option, Some, None}
use Rattle.syntax_trees.specs.declared.anchor.Anchor.{Anchor}
use Rattle.syntax_trees.specs.declared.expr.Expr.{Expr}
use Rattle.statement_trees.specs.declared.statement.Case.{out-Case}
use Rattle.statement_trees.specs.declared.statement.CreateFunction.{out-CreateFunction}
use Rattle.statement_trees.specs.declared.statement.CreateProcedure.{out-CreateProcedure}
use Rattle.statement_trees.specs.declared.statement.Declaration.TheOpen.{Stmt-F}
use Rattle.statement_trees.specs.declared.statement.If.{out-If}
use Rattle.statement_trees.specs.declared.statement.Labelled.{out-Labelled}
use Rattle.statement_trees.specs.declared.statement.Stmt.{Stmt, out-Stmt}
use Rattle.catalog_store.specs.Catalog.{Catalog}
use Rattle.catalog_store.specs.declared.entry.Object.{Object as NewObject}
use Rattle.bind_faults.specs.Faults.{Noted, as_value}
use Rattle.bind_rules.specs.Definitions.{Definition, ProcedureDefinition, Form}
use Rattle.bind_rules.specs.Definitions.{value_returned}
use Rattle.bind_simple.specs.Anchors.{standing_of}
use Rattle.bind_routines.specs.Statements.{judge_stmt}
use Rattle.bind_direct.specs.declared.bound.BoundStatement.{BoundStatement}
use Rattle.bind_direct.specs.declared.bound.Bound.TheVariants as bound
use Rattle.bind_direct.specs.Direct.{not_planned, created, created_function, explained, at_script}
use Rattle.bind_direct.specs.Direct.{direct_table}
use Rattle.bind_direct.specs.Direct.{direct_drop, direct_query, direct_insert, direct_update}
use Rattle.bind_direct.specs.Direct.{direct_delete, direct_call}
use Rattle.bind_direct.specs.Returning.{judged_returning}
use Rattle.bind_statements.specs.Functions.{judged_function, judged_procedure}

-- ---- CREATE FUNCTION and CREATE PROCEDURE

-- a function whose body is RETURN, or another statement
abbrev pub judged_object : Definition → Option Expr → Catalog → Noted NewObject
judged_object s None catalog = judged_function s catalog
judged_object s (Some result) catalog = judged_returning s result catalog

-- CREATE FUNCTION: the new function, with its faults
abbrev pub judged_new : Definition → Catalog → Noted NewObject
judged_new s catalog = judged_object s (value_returned (out-Stmt s.body)) catalog

-- CREATE FUNCTION as a statement
abbrev pub judged_definition : Definition → Catalog → Noted BoundStatement
judged_definition s catalog = as_value (created_function s) (judged_new s catalog)

-- CREATE PROCEDURE as a statement
abbrev pub judged_procedure_definition : ProcedureDefinition → Catalog → Noted BoundStatement
judged_procedure_definition s catalog = as_value (created s.name) (judged_procedure s catalog)

-- ---- what the script does as a routine would

-- a compound statement of the script's
abbrev pub judged_routine : Stmt → Catalog → Noted BoundStatement
judged_routine s catalog = not_planned (λ b. bound.Routine b) (judge_stmt s (at_script catalog))

-- ---- statements

-- a clause for each form
abbrev pub judged_form : Form → Stmt → Catalog → Noted BoundStatement
judged_form (Stmt-F.CreateTable s) whole catalog = direct_table s catalog
judged_form (Stmt-F.CreateFunction s) whole catalog =
    judged_definition (out-CreateFunction s) catalog
judged_form (Stmt-F.CreateProcedure s) whole catalog =
    judged_procedure_definition (out-CreateProcedure s) catalog
judged_form (Stmt-F.Drop s) whole catalog = direct_drop s catalog
judged_form (Stmt-F.Insert s) whole catalog = direct_insert s catalog
judged_form (Stmt-F.Update s) whole catalog = direct_update s catalog
judged_form (Stmt-F.Delete s) whole catalog = direct_delete s catalog
judged_form (Stmt-F.Query q) whole catalog = direct_query q catalog
judged_form (Stmt-F.Explain anchor q) whole catalog = explained q catalog
judged_form (Stmt-F.Call s) whole catalog = direct_call s catalog
judged_form _ whole catalog = judged_routine whole catalog

-- a statement of a script: what it is bound to, its faults and what it uses
abbrev pub judged_statement : Stmt → Catalog → Noted BoundStatement
judged_statement s catalog = judged_form (out-Stmt s) s catalog

-- ---- anchors

-- the first token of a statement after a label
abbrev pub anchor_of_form : Form → Anchor
anchor_of_form (Stmt-F.CreateTable s) = s.anchor
anchor_of_form (Stmt-F.CreateFunction s) = (out-CreateFunction s).anchor
anchor_of_form (Stmt-F.CreateProcedure s) = (out-CreateProcedure s).anchor
anchor_of_form (Stmt-F.Drop s) = s.anchor
anchor_of_form (Stmt-F.Insert s) = s.anchor
anchor_of_form (Stmt-F.Update s) = s.anchor
anchor_of_form (Stmt-F.Delete s) = s.anchor
anchor_of_form (Stmt-F.Query q) = (standing_of q.query).at
anchor_of_form (Stmt-F.Explain anchor q) = anchor
anchor_of_form (Stmt-F.Call s) = s.anchor
anchor_of_form (Stmt-F.Labelled s) = (out-Labelled s).anchor
anchor_of_form (Stmt-F.If s) = (out-If s).anchor
anchor_of_form (Stmt-F.Case s) = (out-Case s).anchor
anchor_of_form (Stmt-F.Set anchor a) = anchor
anchor_of_form (Stmt-F.SelectInto s) = s.anchor
anchor_of_form (Stmt-F.Open anchor i) = anchor
anchor_of_form (Stmt-F.Close anchor i) = anchor
anchor_of_form (Stmt-F.Fetch s) = s.anchor
anchor_of_form (Stmt-F.Signal s) = s.anchor
anchor_of_form (Stmt-F.Resignal s) = s.anchor
anchor_of_form (Stmt-F.GetDiagnostics s) = s.anchor
anchor_of_form (Stmt-F.Leave anchor i) = anchor
anchor_of_form (Stmt-F.Iterate anchor i) = anchor
anchor_of_form (Stmt-F.Return anchor value) = anchor

-- the first token of a statement after a label
abbrev pub anchor_of : Stmt → Anchor
anchor_of s = anchor_of_form (out-Stmt s)
