-- Calls: which function a name stands for, and what a call asks by itself. ISO/IEC 9075-2, 10.4
-- (routine invocation).
use Rattle.std.specs.Prelude.{ℕ, ◌==◌, Bool, true, false, not, ◌&&◌, if◌then◌else◌, List, [], ◌∷◌}
use Rattle.std.specs.Prelude.{◌++◌, length, Option, Some, None}
use Rattle.std.specs.Str.{bytes_eq}
use Rattle.syntax_trees.specs.declared.anchor.Anchor.{Anchor}
use Rattle.syntax_trees.specs.declared.anchor.Ident.{Ident}
use Rattle.catalog_store.specs.Catalog.{Object, TableObject, FunctionObject, InterpretedObject}
use Rattle.catalog_store.specs.Catalog.{ProcedureObject, Catalog, object_named}
use Rattle.catalog_store.specs.declared.entry.DataAccess.{DataAccess}
use Rattle.catalog_store.specs.declared.entry.DataAccess.TheVariants.{ContainsSql, ReadsSqlData}
use Rattle.catalog_store.specs.declared.entry.DataAccess.TheVariants.{ModifiesSqlData}
use Rattle.catalog_store.specs.declared.entry.FunctionHead.{FunctionHead}
use Rattle.bind_faults.specs.declared.fault.Fault.{Fault}
use Rattle.bind_faults.specs.declared.fault.FaultKind.TheVariants.{UnknownName, WrongCount}
use Rattle.bind_faults.specs.declared.fault.FaultKind.TheVariants.{NotPermitted}
use Rattle.bind_faults.specs.Faults.{Noted, fault_if}
use Rattle.bind_sight.specs.declared.scope.EnclosingRoutine.{EnclosingRoutine}
use Rattle.bind_sight.specs.Sight.{Seen}

-- what is known of a function, with a plan or without one
abbrev pub head_in : Option Object → Option FunctionHead
head_in None = None
head_in (Some (TableObject t)) = None
head_in (Some (FunctionObject f)) = Some (record {
  parameters = f.parameters;
  returns = f.returns;
  access = f.access;
  height = f.height;
  weight = f.weight;
  uses = f.uses;
})
head_in (Some (InterpretedObject f)) = Some (record {
  parameters = f.parameters;
  returns =
      f.returns;
  access = f.access;
  height = f.height;
  weight = f.weight;
  uses = f.uses;
})
head_in (Some (ProcedureObject p)) = None

-- what is known of the function of a name in the catalog
abbrev pub head_named : List ℕ → Catalog → Option FunctionHead
head_named name catalog = head_in (object_named name catalog)

-- whether a name is that of the routine in whose body it stands
abbrev pub is_own : List ℕ → Option EnclosingRoutine → Bool
is_own name None = false
is_own name (Some o) = bytes_eq o.name name

-- a procedure has none
abbrev pub own_head : Option EnclosingRoutine → Option FunctionHead
own_head None = None
own_head (Some o) = o.head

-- the function of a name: the routine in whose body it stands, which hides one of the catalog, or
-- one of the catalog
abbrev pub function_known : List ℕ → Option EnclosingRoutine → Catalog → Option FunctionHead
function_known name own catalog = if is_own name own then own_head own else head_named name catalog

-- the function that a call of this name calls, if there is one
abbrev pub function_in_sight : List ℕ → Seen → Option FunctionHead
function_in_sight name seen = function_known name seen.own seen.catalog

-- whether a routine of this access may write
abbrev pub is_modifying : DataAccess → Bool
is_modifying ContainsSql = false
is_modifying ReadsSqlData = false
is_modifying ModifiesSqlData = true

-- A function of the name is in sight, and has so many parameters as there are arguments. Inside
-- INSERT, UPDATE and DELETE it modifies no SQL data.
abbrev pub call_faults : Bool → Anchor → ℕ → Option FunctionHead → List Fault
call_faults writing at arguments None = fault_if true UnknownName at
call_faults writing at arguments (Some f) =
    fault_if (not (arguments == length f.parameters)) WrongCount at ++ fault_if
    (writing && is_modifying f.access) NotPermitted at

-- a call uses the function of its name, where there is one
abbrev pub call_uses : List ℕ → Option FunctionHead → List (List ℕ)
call_uses name None = []
call_uses name (Some f) = name ∷ []

-- what a call asks by itself
abbrev pub call_head : Bool → Ident → ℕ → Option FunctionHead → Noted (Unit {0})
call_head writing i arguments f = record {
  value = tt;
  faults =
      call_faults writing i.anchor arguments f;
  uses = call_uses i.name f;
}
