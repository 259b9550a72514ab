-- The dump of a database: its tables in the order of their making, each with its rows in the order
-- of their keys. ISO/IEC 9075-2, 4.14 (tables).
use Rattle.std.specs.Prelude.{ℕ, List}
use Rattle.std.specs.List.{flat_map}
use Rattle.row_types.specs.Tables.{Stored, Tables}
use Rattle.reply_text.specs.Texts.{table_text}
use Rattle.psm_effects.specs.Database.{Plain}

-- a table with its name
abbrev pub stored_text : Stored → List ℕ
stored_text s = table_text s.name s.table.rows

-- tables, one after the other
abbrev pub tables_text : Tables → List ℕ
tables_text tables = flat_map stored_text tables

-- all tables of a database
abbrev pub dump_text : Plain → List ℕ
dump_text db = tables_text db.tables
