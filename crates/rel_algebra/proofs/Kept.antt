-- Tables whose rows fit their columns.
use Rattle.std.proofs.Common.{◌≡◌, ℕ, suc, true, false, cond, IsTrue, not, List, [], ◌∷◌, length}
use Rattle.std.proofs.Common.{Some, refl, ap, arith}
use Rattle.std.specs.List.{list_all, All}
use Rattle.std.specs.Str.{bytes_eq}
use Rattle.row_types.specs.declared.ColumnType.{ColumnType}
use Rattle.row_types.specs.Ordered.{rises}
use Rattle.row_types.specs.Rows.{Row, by_key, takes, take_all, fits, well_kept, key_of}
use Rattle.row_types.specs.Tables.{Tables, Stored, Table, table_named, rows_of}
use Rattle.sql_values.specs.Values.{is_null}
use Rattle.rel_algebra.specs.Joins.{columns_of}
use Rattle.rel_algebra.specs.Theorem.{AllWide, KeptTablesFit}
use Rattle.rel_algebra.proofs.Truths.{left_true, right_true, never}

take_long : (cs : List ColumnType) (row : Row) → take_all cs row ≡ true → length row ≡ length cs
take_long [] [] h = refl
take_long [] (v ∷ vs) h = never h
take_long (c ∷ cs) [] h = never h
take_long (c ∷ cs) (v ∷ vs) h = ap suc (take_long cs vs (right_true (takes c v) (take_all cs vs) h))

fits_wide : (cs : List ColumnType) (key : List ℕ) (rows : List Row) → list_all (fits cs key) rows
    ≡ true → AllWide (length cs) rows
fits_wide cs key [] h = tt
fits_wide cs key (row ∷ rows) h =
    let own = left_true (fits cs key row) (list_all (fits cs key) rows) h in (
      take_long cs row (left_true (take_all cs row)
          (list_all (λ v. not (is_null v)) (key_of key row)) own),
      fits_wide cs key rows
          (right_true (fits cs key row) (list_all (fits cs key) rows) h),
    )

kept_wide : (t : Table) → well_kept t.columns t.key t.rows ≡ true →
    AllWide (length t.columns) t.rows
kept_wide t h = fits_wide t.columns t.key t.rows (left_true (list_all (fits t.columns t.key) t.rows)
    (rises (by_key t.key) t.rows) h)

abbrev pub IsKept : Stored → Type 0
IsKept s = IsTrue (well_kept s.table.columns s.table.key s.table.rows)

named_wide : (tables : Tables) (name : List ℕ) → All IsKept tables →
    AllWide (columns_of (table_named name tables)) (rows_of (table_named name tables))
named_wide [] name h = tt
named_wide (s ∷ ss) name h =
    elim (bytes_eq s.name name) as (λ b.
    AllWide (columns_of (cond b (Some s.table) (table_named name ss)))
    (rows_of (cond b (Some s.table) (table_named name ss)))) [
      | true ↦ kept_wide s.table (h 0 s (omega arith))
      | false ↦ named_wide ss name (λ k d l. h (suc k) d (omega arith))
    ]

pub kept_tables_fit : KeptTablesFit
kept_tables_fit tables args h name = named_wide tables name h
