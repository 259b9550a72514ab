-- Which plain routine each name of a catalog stands for. A routine's calls are of those that were
-- made before it, and of itself. ISO/IEC 9075-2, 10.4 (routine invocation) and 11.60 (SQL-invoked
-- routine).
use Rattle.std.specs.Prelude.{ℕ, List, [], ◌∷◌, if◌then◌else◌, Some}
use Rattle.std.specs.Str.{bytes_eq}
use Rattle.sql_values.specs.declared.value.SqlType.{SqlType}
use Rattle.catalog_store.specs.declared.entry.ParameterMode.{ParameterMode}
use Rattle.catalog_store.specs.declared.entry.ParameterMode.TheVariants as mode
use Rattle.catalog_store.specs.Catalog.{Catalog, Entry, Object, Interpreted, Procedure, TableObject}
use Rattle.catalog_store.specs.Catalog.{FunctionObject, InterpretedObject, ProcedureObject, missing}
use Rattle.rel_algebra.specs.Tree as tree
use Rattle.rel_algebra.specs.Tree.{Mode, Parameter, Routine}
use Rattle.routine_views.specs.Views.{Known, stmt_in}

-- which way a value goes
abbrev pub mode_of : ParameterMode → Mode
mode_of mode.In = tree.InMode
mode_of mode.Out = tree.OutMode
mode_of mode.Inout = tree.InoutMode

-- parameters by their modes and their types; one without a mode is IN
abbrev pub with_modes : List ParameterMode → List SqlType → List Parameter
with_modes ms [] = []
with_modes [] (t ∷ ts) = record { mode = tree.InMode; data_type = t } ∷ with_modes [] ts
with_modes (m ∷ ms) (t ∷ ts) = record { mode = mode_of m; data_type = t } ∷ with_modes ms ts

-- what stands around the body of a routine of this name and these parameters
abbrev pub inside : (List ℕ → Routine) → List ℕ → List Parameter → Known
inside routines name parameters =
    record { routines = routines; own = Some (record { name = name; parameters = parameters }) }

-- a function without a plan
abbrev pub function_view : (List ℕ → Routine) → List ℕ → Interpreted → Routine
function_view routines name f =
    tree.Function f.self_calling f.parameters f.returns f.null_call
    (stmt_in (inside routines name (with_modes [] f.parameters)) f.body [])

-- a procedure
abbrev pub procedure_view : (List ℕ → Routine) → List ℕ → Procedure → Routine
procedure_view routines name p =
    let parameters = with_modes p.modes p.parameters in
    tree.Procedure p.self_calling parameters (stmt_in (inside routines name parameters) p.body [])

-- what an entry stands for; a table for no routine
abbrev pub entry_view : (List ℕ → Routine) → List ℕ → Object → Routine
entry_view routines name (TableObject row_type) = missing
entry_view routines name (FunctionObject f) = f.routine
entry_view routines name (InterpretedObject f) = function_view routines name f
entry_view routines name (ProcedureObject p) = procedure_view routines name p

-- what each name stands for with one entry more
abbrev pub with_entry : (List ℕ → Routine) → Entry → List ℕ → Routine
with_entry routines e name =
    if bytes_eq e.name name then entry_view routines e.name e.object else routines name

-- what each name stands for with more entries, in the order of their making
abbrev pub with_entries : (List ℕ → Routine) → Catalog → List ℕ → Routine
with_entries routines [] = routines
with_entries routines (e ∷ es) = with_entries (with_entry routines e) es

-- What a name stands for in a catalog. Where it stands for no routine, it is what a call of no
-- routine runs.
abbrev pub routines_of : Catalog → List ℕ → Routine
routines_of catalog = with_entries (λ name. missing) catalog
