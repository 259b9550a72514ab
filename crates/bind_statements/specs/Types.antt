-- When a statement with its names resolved is well typed over a catalog. ISO/IEC 9075-2, 11.60
-- (SQL-invoked routine), 14.11 to 14.15 (statements that write) and 15.1 (call statement).
use Rattle.std.specs.Prelude.{◌≡◌, ℕ, Bool, true, false, ◌||◌, List, [], map, Option, Some, None}
use Rattle.std.specs.Prelude.{if◌then◌else◌, is_some}
use Rattle.sql_values.specs.declared.value.SqlType.{SqlType}
use Rattle.statement_trees.specs.declared.statement.Stmt.{Stmt}
use Rattle.grammar_order.specs.Ordered.{is_ordered}
use Rattle.bound_trees.specs.declared.statement.BoundBlock.{BoundBlock}
use Rattle.bound_trees.specs.declared.statement.BoundBranch.{BoundBranch}
use Rattle.bound_trees.specs.declared.statement.BoundHandler.{BoundHandler}
use Rattle.bound_trees.specs.declared.statement.BoundStmt.{BoundStmt, out-BoundStmt}
use Rattle.bound_trees.specs.declared.statement.BoundStmt.TheOpen.{BoundStmt-F}
use Rattle.catalog_store.specs.Catalog.{Catalog, object_named}
use Rattle.catalog_store.specs.declared.entry.DataAccess.TheVariants.{ModifiesSqlData}
use Rattle.catalog_store.specs.declared.entry.FunctionHead.{FunctionHead}
use Rattle.catalog_store.specs.declared.entry.Object.{Object as NewObject}
use Rattle.catalog_store.specs.declared.entry.Object.TheVariants as new
use Rattle.catalog_store.specs.declared.entry.ProcedureHead.{ProcedureHead}
use Rattle.bind_kinds.specs.Kinds.{kind_of_type}
use Rattle.bind_sight.specs.declared.scope.EnclosingRoutine.{EnclosingRoutine}
use Rattle.bind_parts.specs.From.{table_named}
use Rattle.bind_parts.specs.Typed.{function_known}
use Rattle.bind_simple.specs.Calls.{is_own, procedure_in}
use Rattle.routine_form.specs.declared.sum.TheConstants.{HEAVIEST}
use Rattle.typing_trees.specs.Around.{Around, Slot, stored}
use Rattle.typing_trees.specs.Queries.{kinds_of_query}
use Rattle.typing_trees.specs.Statements.{Inside, value_of, insert_typed, update_typed}
use Rattle.typing_trees.specs.Statements.{delete_typed, call_typed, is_typed}
use Rattle.bind_direct.specs.declared.bound.Bound.{Bound}
use Rattle.bind_direct.specs.declared.bound.Bound.TheVariants as bound
use Rattle.bind_statements.specs.Statements.{judged_statement}

-- what stands around expressions: slots, and what names stand for, in the body of a routine or
-- outside of one
abbrev pub around : List Slot → Option EnclosingRoutine → Catalog → Around
around slots own catalog = record {
  rows = [];
  slots = slots;
  tables = λ name. table_named name catalog;
  functions = λ name. function_known name own catalog;
}

-- the procedure in whose body a name stands hides one of the catalog
abbrev pub procedure_known : List ℕ → Option EnclosingRoutine → Option ProcedureHead → Catalog →
    Option ProcedureHead
procedure_known name own procedure catalog = if is_own name own then procedure else procedure_in
    (object_named name catalog)

-- in the body of a routine with these parameters, or outside of one
abbrev pub inside : List SqlType → Option SqlType → Option EnclosingRoutine → Option ProcedureHead →
    Catalog → Inside
inside parameters returns own procedure catalog = record {
  around = around (map (λ t. stored t) parameters) own catalog;
  cursors = [];
  outer = [];
  returns = returns;
  procedures = λ name. procedure_known name own procedure catalog;
}

-- a routine as its own body sees it
abbrev pub own_function : List ℕ → FunctionHead → EnclosingRoutine
own_function name h = record {
  name = name;
  head = Some (record {
    parameters = h.parameters;
    returns = h.returns;
    access = ModifiesSqlData;
    height = 0;
    weight = HEAVIEST;
    uses = [];
  });
}

-- a procedure as its own body sees it: it is no function
abbrev pub own_procedure : List ℕ → EnclosingRoutine
own_procedure name = record { name = name; head = None }

-- the head of a procedure as its own body sees it: it may write, and is heaviest
abbrev pub own_head : ProcedureHead → ProcedureHead
own_head h = record {
  modes = h.modes;
  parameters = h.parameters;
  access = ModifiesSqlData;
  height =
      0;
  weight = HEAVIEST;
  uses = [];
}

-- a body is well typed with the parameters of its routine
abbrev pub function_typed : List ℕ → FunctionHead → BoundStmt → Catalog → Bool
function_typed name h body catalog = is_typed body
    (inside h.parameters (Some h.returns) (Some (own_function name h)) None catalog)

-- the body of a procedure is well typed with its parameters
abbrev pub procedure_typed : List ℕ → ProcedureHead → BoundStmt → Catalog → Bool
procedure_typed name h body catalog = is_typed body
    (inside h.parameters None (Some (own_procedure name)) (Some (own_head h)) catalog)

-- a routine's body is well typed with its parameters
abbrev pub object_typed : List ℕ → NewObject → Catalog → Bool
object_typed name (new.Table t) catalog = true
object_typed name (new.Function f) catalog = value_of (kind_of_type f.head.returns) f.body
    (around (map (λ t. stored t) f.head.parameters) (Some (own_function name f.head)) catalog)
object_typed name (new.Interpreted f) catalog = function_typed name f.head f.body catalog
object_typed name (new.Procedure p) catalog = procedure_typed name p.head p.body catalog

-- outside of routines
abbrev pub at_script : Catalog → Inside
at_script catalog = inside [] None None None catalog

-- a CALL of the script's
abbrev pub script_call : BoundStmt-F BoundStmt BoundBlock BoundBranch BoundHandler → Catalog → Bool
script_call (BoundStmt-F.Call c) catalog = call_typed true c (at_script catalog)
script_call _ catalog = false

-- or a statement as a routine has it, without a routine around it
abbrev pub script_typed : BoundStmt → Catalog → Bool
script_typed s catalog = script_call (out-BoundStmt s) catalog || is_typed s (at_script catalog)

-- each part of a statement is well typed over the catalog
abbrev pub statement_typed : Bound → Catalog → Bool
statement_typed (bound.Create name object) catalog = object_typed name object catalog
statement_typed (bound.Drop name) catalog = true
statement_typed (bound.Insert b places) catalog = insert_typed b places (around [] None catalog)
statement_typed (bound.Update b) catalog = update_typed b (around [] None catalog)
statement_typed (bound.Delete b) catalog = delete_typed b (around [] None catalog)
statement_typed (bound.Query q) catalog = is_some (kinds_of_query q (around [] None catalog))
statement_typed (bound.Explain q) catalog = is_some (kinds_of_query q (around [] None catalog))
statement_typed (bound.Routine s) catalog = script_typed s catalog

-- the statement is well typed
abbrev pub IsTyped : Catalog → Bound → Type 0
IsTyped catalog b = statement_typed b catalog ≡ true

-- A statement without faults is well typed, where in each compound statement in it the handlers
-- stand after all other declarations.
abbrev pub FaultlessTyped : Type 0
FaultlessTyped = (s : Stmt) (catalog : Catalog) → is_ordered s ≡ true →
    (judged_statement s catalog).faults ≡ [] →
    IsTyped catalog (judged_statement s catalog).value.bound
