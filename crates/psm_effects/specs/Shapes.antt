-- A database's tables are those that its catalog names, in the same order, with the same columns
-- and key. ISO/IEC 9075-2, 4.14 (tables).
use Rattle.std.specs.Prelude.{ℕ, ◌≡◌, List, [], ◌∷◌, map}
use Rattle.row_types.specs.declared.RowType.{RowType}
use Rattle.row_types.specs.Tables.{Stored, Table, Tables}
use Rattle.catalog_store.specs.Catalog.{Object, TableObject, FunctionObject, InterpretedObject}
use Rattle.catalog_store.specs.Catalog.{ProcedureObject, Catalog}
use Rattle.psm_effects.specs.Database.{Plain}

-- a table without its rows: its name, its columns and its key
pub record Shape : Type 0 where
  pub name : List ℕ
  pub row_type : RowType

-- the columns and the key of a table
abbrev pub row_type_of : Table → RowType
row_type_of t = record { columns = t.columns; key = t.key }

-- the shape of a table with a name
abbrev pub shape_of : Stored → Shape
shape_of s = record { name = s.name; row_type = row_type_of s.table }

-- the shapes of tables
abbrev pub shapes_of : Tables → List Shape
shapes_of tables = map shape_of tables

-- the shapes of the tables that a catalog names
abbrev pub with_shape_of : List ℕ → Object → List Shape → List Shape
with_shape_of name (TableObject row_type) shapes =
    record { name = name; row_type = row_type } ∷ shapes
with_shape_of name (FunctionObject f) shapes = shapes
with_shape_of name (InterpretedObject f) shapes = shapes
with_shape_of name (ProcedureObject p) shapes = shapes

-- of each table of the catalog, in the order in which they were made
abbrev pub shapes_in : Catalog → List Shape
shapes_in [] = []
shapes_in (e ∷ es) = with_shape_of e.name e.object (shapes_in es)

-- the tables are those of the catalog
abbrev pub IsWhole : Plain → Type 0
IsWhole db = shapes_of db.tables ≡ shapes_in db.catalog
