-- A database: its catalog and its tables. ISO/IEC 9075-2, 4.17 (schemas) and 4.14 (tables).
use Rattle.std.specs.Prelude.{[]}
use Rattle.row_types.specs.Tables.{Tables}
use Rattle.catalog_store.specs.Catalog.{Catalog}

-- what names stand for, and the tables among that with their rows
pub record Plain : Type 0 where
  pub catalog : Catalog
  pub tables : Tables

-- a database without tables and functions
abbrev pub empty : Plain
empty = record { catalog = []; tables = [] }

-- the same catalog with other tables
abbrev pub with_tables : Plain → Tables → Plain
with_tables db tables = record db { tables = tables }
