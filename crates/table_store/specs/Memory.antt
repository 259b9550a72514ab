-- All tables beside the numbers of rows that they have memory for. ISO/IEC 9075-2, 4.14 (tables).
use Rattle.std.specs.Prelude.{ℕ, ◌≤◌, List, [], ◌∷◌, ◌++◌, map, slice_index, Option, Some, None}
use Rattle.std.specs.Prelude.{IsTrue}
use Rattle.std.specs.List.{remove, AllByRecursion}
use Rattle.row_types.specs.Rows.{well_kept}
use Rattle.row_types.specs.Tables.{Table, Tables, Stored, table_at}
use Rattle.table_store.specs.Kept.{Kept}

-- a name and its table
abbrev pub Named : Type 0
Named = List ℕ × Kept

-- a name and its table, without the number of rows that there is memory for
abbrev pub stored_of : Named → Stored
stored_of n = record { name = n.0; table = n.1.table }

-- the number of rows that a named table has memory for
abbrev pub capacity_of : Named → ℕ
capacity_of n = n.1.capacity

-- All tables, and the number of rows that each has memory for.
pub record Memory : Type 0 where
  pub tables : Tables
  pub capacities : List ℕ

-- named tables as all tables: the tables, and beside them the numbers
abbrev pub memory_of : List Named → Memory
memory_of ns = record { tables = map stored_of ns; capacities = map capacity_of ns }

-- a table more, after the others
abbrev pub with_one_more : Memory → List ℕ → Kept → Memory
with_one_more m name k = record {
  tables = m.tables ++ record { name = name; table = k.table } ∷ [];
  capacities = m.capacities ++ k.capacity ∷ [];
}

-- the table at a place goes, and its number with it
abbrev pub without_place : Option ℕ → Memory → Memory
without_place None m = m
without_place (Some at) m = record {
  tables = remove m.tables at;
  capacities =
      remove m.capacities at;
}

-- the table at a place, and the number of rows that it has memory for
abbrev pub kept_at : Memory → ℕ → Kept
kept_at m at = record { table = table_at m.tables at; capacity = slice_index m.capacities at }

-- the table alone
abbrev pub table_of : Kept → Table
table_of k = k.table

-- no number has fallen
abbrev pub NoLess : List ℕ → List ℕ → Type 0
NoLess ms ns = (at : ℕ) → slice_index ms at ≤ slice_index ns at

-- each row of each table fits, and their keys rise
abbrev pub AllWellKept : Tables → Type 0
AllWellKept ts = AllByRecursion (λ (s : Stored).
    IsTrue (well_kept s.table.columns s.table.key s.table.rows)) ts
