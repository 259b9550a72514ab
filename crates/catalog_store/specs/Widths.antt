-- How many columns the tables of a catalog have. ISO/IEC 9075-2, 4.15 (tables).
use Rattle.std.specs.Prelude.{ℕ, List, length, Option, Some, None}
use Rattle.catalog_store.specs.Catalog.{Object, TableObject, FunctionObject, InterpretedObject}
use Rattle.catalog_store.specs.Catalog.{ProcedureObject, Catalog, object_named}

-- as many as its columns for a table; 0 for a routine, and where the name stands for nothing
abbrev pub object_width : Option Object → ℕ
object_width None = 0
object_width (Some (TableObject row_type)) = length row_type.columns
object_width (Some (FunctionObject f)) = 0
object_width (Some (InterpretedObject f)) = 0
object_width (Some (ProcedureObject p)) = 0

-- the number of columns of the table of a name; 0 where there is no table
abbrev pub width_in : Catalog → List ℕ → ℕ
width_in catalog name = object_width (object_named name catalog)
