-- CREATE TABLE: the type of a table's rows, and the name faults in its elements. ISO/IEC 9075-2,
-- 11.3 (table definition), 11.4 (column definition) and 11.7 (unique constraint definition).
use Rattle.std.specs.Prelude.{ℕ, true, if◌then◌else◌, List, [], ◌∷◌, ◌++◌, Option, Some, None}
use Rattle.std.specs.List.{list_any, flat_map}
use Rattle.syntax_trees.specs.declared.anchor.Anchor.{Anchor}
use Rattle.syntax_trees.specs.declared.anchor.Ident.{Ident}
use Rattle.statement_trees.specs.declared.definition.Column.{Column}
use Rattle.statement_trees.specs.declared.definition.Constraint.{Constraint}
use Rattle.statement_trees.specs.declared.definition.Constraint.TheVariants.{NotNull, PrimaryKey}
use Rattle.statement_trees.specs.declared.definition.CreateTable.{CreateTable}
use Rattle.statement_trees.specs.declared.definition.TableElement.{TableElement}
use Rattle.statement_trees.specs.declared.definition.TableElement.TheVariants as element
use Rattle.row_types.specs.declared.ColumnType.{ColumnType}
use Rattle.row_types.specs.declared.RowType.{RowType}
use Rattle.catalog_store.specs.Catalog.{Catalog}
use Rattle.catalog_store.specs.declared.entry.Object.{Object as NewObject}
use Rattle.catalog_store.specs.declared.entry.Object.TheVariants as new
use Rattle.bind_faults.specs.declared.fault.Fault.{Fault}
use Rattle.bind_faults.specs.Faults.{Noted, give, ◌>>◌}
use Rattle.bind_kinds.specs.Types.{type_of, type_faults}
use Rattle.bind_rules.specs.Names.{names_of, taken_name, repeated, list_faults, place_in, places_in}
use Rattle.bind_rules.specs.Keys.{is_key, is_not_null, key_faults}

-- ---- columns

-- a column as the table keeps it: name, type, and whether NOT NULL is written
abbrev pub column_type : Column → ColumnType
column_type c = record {
  name = c.name.name;
  data_type = type_of c.data_type;
  not_null =
      list_any is_not_null c.constraints;
}

-- the column that an element declares, if it is one
abbrev pub types_in : TableElement → List ColumnType
types_in (element.Column c) = column_type c ∷ []
types_in (element.PrimaryKey anchor is) = []

-- the columns, in their order
abbrev pub column_types : List TableElement → List ColumnType
column_types es = flat_map types_in es

-- the column that an element declares, as it is written
abbrev pub idents_in : TableElement → List Ident
idents_in (element.Column c) = c.name ∷ []
idents_in (element.PrimaryKey anchor is) = []

-- the columns as they are written
abbrev pub column_idents : List TableElement → List Ident
column_idents es = flat_map idents_in es

-- the names of the columns
abbrev pub column_names : List TableElement → List (List ℕ)
column_names es = names_of (column_idents es)

-- what is asked of the written type of a column
abbrev pub type_faults_in : TableElement → List Fault
type_faults_in (element.Column c) = type_faults c.data_type
type_faults_in (element.PrimaryKey anchor is) = []

-- ---- keys

-- where a constraint says PRIMARY KEY
abbrev pub key_place : Constraint → List Anchor
key_place NotNull = []
key_place (PrimaryKey anchor) = anchor ∷ []

-- where an element says PRIMARY KEY
abbrev pub key_places_in : TableElement → List Anchor
key_places_in (element.Column c) = flat_map key_place c.constraints
key_places_in (element.PrimaryKey anchor is) = anchor ∷ []

-- where the elements say PRIMARY KEY
abbrev pub key_places : List TableElement → List Anchor
key_places es = flat_map key_places_in es

-- the columns of a key are columns of the table, of whichever element
abbrev pub key_list_faults : List (List ℕ) → TableElement → List Fault
key_list_faults names (element.Column c) = []
key_list_faults names (element.PrimaryKey anchor is) = list_faults true names is

-- the places of the columns of an element's key: the column itself, or those that are listed
abbrev pub key_in : List (List ℕ) → TableElement → Option (List ℕ)
key_in names (element.Column c) = if is_key c then Some (place_in names c.name) else None
key_in names (element.PrimaryKey anchor is) = Some (places_in names is)

-- the key of an element, or that of later ones
abbrev pub or_later : Option (List ℕ) → List ℕ → List ℕ
or_later None later = later
or_later (Some key) later = key

-- the first key
abbrev pub key_of : List (List ℕ) → List TableElement → List ℕ
key_of names [] = []
key_of names (e ∷ es) = or_later (key_in names e) (key_of names es)

-- ---- the table

-- the type of the rows: the columns, and the places of those that are the key
abbrev pub row_type : List TableElement → RowType
row_type es = record { columns = column_types es; key = key_of (column_names es) es }

-- what is asked of the elements, in this order: names, types, keys, columns of keys
abbrev pub element_faults : CreateTable → List Fault
element_faults s =
    repeated [] (column_idents s.elements) ++ (flat_map type_faults_in s.elements
    ++ (key_faults s.name (key_places s.elements) ++ flat_map
    (key_list_faults (column_names s.elements)) s.elements))

-- CREATE TABLE: the new table, with its faults
abbrev pub judged_table : CreateTable → Catalog → Noted NewObject
judged_table s catalog = taken_name s.name catalog ++ element_faults s >> give
    (new.Table (row_type s.elements))
