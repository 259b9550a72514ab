-- Databases as trees of numbers, by which a proof tells two of them apart.
use Rattle.std.specs.Prelude.{ℕ, List}
use Rattle.std.proofs.Common.{refl}
use Rattle.std.specs.Coded.{Coded, code_by, coded_ℕ, coded_list, coded×}
use Rattle.row_types.specs.declared.ColumnType.{ColumnType}
use Rattle.row_types.specs.Rows.{Row}
use Rattle.row_types.specs.Tables.{Stored, Table, Tables}
use Rattle.rel_algebra.specs.Codes.{coded_back, value_code, value_from, value_back}
use Rattle.sql_values.specs.declared.value.Value.{Value}
use Rattle.catalog_store.specs.Catalog.{Catalog}
use Rattle.catalog_store.specs.Codes.{coded_name, coded_column, coded_catalog}
use Rattle.psm_effects.specs.Database.{Plain}

-- a value
abbrev pub coded_value : Coded Value
coded_value = coded_back value_code value_from value_back

-- a table, by its columns, its key and its rows
abbrev pub coded_table : Coded Table
coded_table =
    code_by (List ColumnType × (List ℕ × List Row))
    (coded× (coded_list coded_column) (coded× (coded_list coded_ℕ)
    (coded_list (coded_list coded_value))))
    (λ t. (t.columns, (t.key, t.rows))) (λ p. record { columns = p.0; key = p.1.0; rows = p.1.1 })
    (λ _. refl)

-- a table with its name
abbrev pub coded_stored : Coded Stored
coded_stored = code_by (List ℕ × Table) (coded× coded_name coded_table) (λ s. (s.name, s.table))
    (λ p. record { name = p.0; table = p.1 }) (λ _. refl)

-- a database, by its catalog and its tables
abbrev pub coded_database : Coded Plain
coded_database =
    code_by (Catalog × Tables) (coded× coded_catalog (coded_list coded_stored))
    (λ d. (d.catalog, d.tables)) (λ p. record { catalog = p.0; tables = p.1 }) (λ _. refl)
