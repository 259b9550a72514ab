-- Which plain catalog the entries in memory stand for, and when they fit. ISO/IEC 9075-2, 4.17
-- (schemas), 10.4 (routine invocation) and 11.60 (routines).
use Rattle.std.specs.Prelude.{◌≡◌, ℕ, true, false, List, [], ◌∷◌, ◌++◌, None, Some, IsTrue}
use Rattle.row_types.specs.Rows.{has_key_columns}
use Rattle.rel_algebra.specs.Tree.{Returned}
use Rattle.catalog_store.specs.declared.entry.Object.{Object as HeldObject}
use Rattle.catalog_store.specs.declared.entry.Object.TheVariants.{Table, Function as FunctionRecord}
use Rattle.catalog_store.specs.declared.entry.Object.TheVariants.{Interpreted as InterpretedRecord}
use Rattle.catalog_store.specs.declared.entry.Object.TheVariants.{Procedure as ProcedureRecord}
use Rattle.catalog_store.specs.declared.entry.InterpretedFunction.{InterpretedFunction}
use Rattle.catalog_store.specs.declared.entry.Procedure.{Procedure as HeldProcedure}
use Rattle.catalog_store.specs.declared.entry.RoutineRecord.{RoutineRecord}
use Rattle.catalog_store.specs.Catalog.{Function, Interpreted, Procedure, Object, TableObject}
use Rattle.catalog_store.specs.Catalog.{FunctionObject, InterpretedObject, ProcedureObject, Entry}
use Rattle.catalog_store.specs.Catalog.{Catalog, object_named}
use Rattle.rel_algebra.specs.Plain.{planned_expr}
use Rattle.catalog_store.specs.Uses.{AllFit, uses_in, names_used, SameNames, UsesStand}
use Rattle.catalog_store.specs.Kept.{IsKept}
use Rattle.catalog_store.specs.View.{tree_of}

-- a function, with its body seen by this catalog
abbrev pub function_of : Catalog → RoutineRecord → Function
function_of known r =
    record {
      parameters = r.head.parameters;
      returns = r.head.returns;
      access = r.head.access;
      height = r.head.height;
      weight = r.head.weight;
      uses = r.head.uses;
      routine = Returned r.head.parameters r.head.returns (tree_of known r.body);
    }

-- a function whose body is other statements: the same in every catalog
abbrev pub interpreted_of : InterpretedFunction → Interpreted
interpreted_of f =
    record {
      parameters = f.head.parameters;
      returns = f.head.returns;
      access = f.head.access;
      height = f.head.height;
      weight = f.head.weight;
      uses = f.head.uses;
      null_call = f.null_call;
      self_calling = f.self_calling;
      body = f.body;
    }

-- a procedure: the same in every catalog
abbrev pub procedure_of : HeldProcedure → Procedure
procedure_of p =
    record {
      modes = p.head.modes;
      parameters = p.head.parameters;
      access = p.head.access;
      height = p.head.height;
      weight = p.head.weight;
      uses = p.head.uses;
      self_calling = p.self_calling;
      body = p.body;
    }

-- a routine without a plan is the same in every catalog
abbrev pub object_of : Catalog → HeldObject → Object
object_of known (Table row_type) = TableObject row_type
object_of known (FunctionRecord r) = FunctionObject (function_of known r)
object_of known (InterpretedRecord f) = InterpretedObject (interpreted_of f)
object_of known (ProcedureRecord p) = ProcedureObject (procedure_of p)

-- an object with its name, as this catalog sees it
abbrev pub entry_of : Catalog → List ℕ → HeldObject → Entry
entry_of known name object = record { name = name; object = object_of known object }

-- the catalog with more entries, each seen by those before it
abbrev pub with_all : Catalog → List (List ℕ × HeldObject) → Catalog
with_all known [] = known
with_all known (e ∷ es) = with_all (known ++ entry_of known e.0 e.1 ∷ []) es

-- what these objects stand for, each seen by those before it
abbrev pub plain : List (List ℕ × HeldObject) → Catalog
plain es = with_all [] es

-- A function fits a catalog where each call in its body does, below the function's height, and each
-- table that its body reads; its head says which names its body uses, and its body has a plan.
pub record FunctionFits (known : Catalog) (r : RoutineRecord) : Type 0 where
  pub all : AllFit known r.head.height (uses_in r.body)
  pub uses : SameNames r.head.uses (names_used (uses_in r.body))
  pub planned : planned_expr (tree_of known r.body) ≡ true

-- an object fits a catalog: a table does where its key columns are columns of its own, and a
-- routine without a plan where what it uses is there
abbrev pub ObjectFits : Catalog → HeldObject → Type 0
ObjectFits known (Table row_type) = IsTrue (has_key_columns row_type.columns row_type.key)
ObjectFits known (FunctionRecord r) = FunctionFits known r
ObjectFits known (InterpretedRecord f) = UsesStand known f.head.uses
ObjectFits known (ProcedureRecord p) = UsesStand known p.head.uses

-- a function that is planned has its plan
abbrev pub IsPlanned : Catalog → HeldObject → Type 0
IsPlanned known (Table row_type) = Unit {0}
IsPlanned known (FunctionRecord r) = IsKept known r
IsPlanned known (InterpretedRecord f) = Unit {0}
IsPlanned known (ProcedureRecord p) = Unit {0}

-- an object as it stands in a catalog
pub record Stands (known : Catalog) (o : HeldObject) : Type 0 where
  pub fits : ObjectFits known o
  pub planned : IsPlanned known o

-- each entry has a name that none before it has, and stands in the catalog of those before it
abbrev pub AreSound : Catalog → List (List ℕ × HeldObject) → Type 0
AreSound known [] = Unit {0}
AreSound known (e ∷ es) = (object_named e.0 known ≡ None) × Stands known e.1 ×
    AreSound (known ++ entry_of known e.0 e.1 ∷ []) es

-- a name stands for the function of this record, and the record fits and has its plan
pub record IsNamed (name : List ℕ) (known : Catalog) (r : RoutineRecord) : Type 0 where
  pub stands : object_named name known ≡ Some (FunctionObject (function_of known r))
  pub fits : FunctionFits known r
  pub planned : IsKept known r
