-- How wide tables are: the rows of each have its columns, and the catalog says how many these are.
use Rattle.std.proofs.Common.{◌≡◌, ℕ, Bool, true, false, not, List, [], ◌∷◌, Option, Some, length}
use Rattle.std.proofs.Common.{refl, ap, sym, ◌∙◌, subst, suc}
use Rattle.std.specs.Prelude.{if◌then◌else◌}
use Rattle.std.specs.List.{IsDistinct, AllByRecursion, list_all}
use Rattle.std.specs.Str.{bytes_eq}
use Rattle.std.specs.Cmp.Lexicographic.{nat_list_eq_equiv}
use Rattle.std.proofs.lemmas.Bool.{and_parts}
use Rattle.std.proofs.lemmas.Slice.Eq.{bytes_eq-Decides}
use Rattle.sql_values.specs.declared.value.Value.{Value}
use Rattle.row_types.specs.declared.ColumnType.{ColumnType}
use Rattle.row_types.specs.declared.RowType.{RowType}
use Rattle.row_types.specs.Rows.{Row, fits, takes, take_all, key_of}
use Rattle.row_types.specs.Tables.{Table, Tables, table_named, rows_of}
use Rattle.sql_values.specs.Values.{is_null}
use Rattle.table_store.specs.Memory.{AllWellKept}
use Rattle.table_store.proofs.Laws.{kept_fits}
use Rattle.rel_algebra.specs.Joins.{columns_of, table_width}
use Rattle.rel_algebra.specs.Theorem.{AllWide, Fits}
use Rattle.catalog_store.specs.Catalog.{Object, TableObject, FunctionObject, InterpretedObject}
use Rattle.catalog_store.specs.Catalog.{ProcedureObject, Catalog, names_of, object_named}
use Rattle.catalog_store.specs.Widths.{object_width, width_in}
use Rattle.psm_effects.specs.Database.{Plain}
use Rattle.psm_effects.specs.Shapes.{Shape, shapes_of, shapes_in, with_shape_of, IsWhole}

-- ---- the rows of a table have its columns

length-taken : (cs : List ColumnType) (row : Row) → take_all cs row ≡ true → length row ≡ length cs
length-taken [] [] h = refl
length-taken [] (v ∷ vs) h = cc
length-taken (c ∷ cs) [] h = cc
length-taken (c ∷ cs) (v ∷ vs) h = ap suc (length-taken cs vs
    (and_parts (takes c v) (take_all cs vs) h).1)

length-fits : (cs : List ColumnType) (key : List ℕ) (row : Row) → fits cs key row ≡ true →
    length row ≡ length cs
length-fits cs key row h = length-taken cs row
    (and_parts (take_all cs row) (list_all (λ v. not (is_null v)) (key_of key row)) h).0

wide_rows : (cs : List ColumnType) (key : List ℕ) (rows : List Row) →
    list_all (fits cs key) rows ≡ true → AllWide (length cs) rows
wide_rows cs key [] h = tt
wide_rows cs key (row ∷ rows) h =
    let both = and_parts (fits cs key row) (list_all (fits cs key) rows) h in
    (length-fits cs key row both.0, wide_rows cs key rows both.1)

-- the rows of a table that may be there have its columns
abbrev IsWide : Option Table → Type 0
IsWide t = AllWide (columns_of t) (rows_of t)

wide_named : (name : List ℕ) (ts : Tables) → AllWellKept ts → IsWide (table_named name ts)
wide_named name [] h = tt
wide_named name (s ∷ ss) h =
    by (bytes_eq s.name name) (wide_rows s.table.columns s.table.key s.table.rows
    (kept_fits s.table.columns s.table.key s.table.rows h.0)) (wide_named name ss h.1)
  where
    by : (b : Bool) → IsWide (Some s.table) → IsWide (table_named name ss) →
        IsWide (if b then Some s.table else table_named name ss)
    by true first more = first
    by false first more = more

-- the rows of each table have its columns
pub fits_of : (ts : Tables) (args : List Value) → AllWellKept ts →
    Fits (record { tables = ts; args = args })
fits_of ts args h name = wide_named name ts h

-- ---- the catalog says how many columns a table has

-- the number of columns of the first shape of a name
abbrev shape_width : List ℕ → List Shape → ℕ
shape_width name [] = 0
shape_width name (s ∷ ss) = if bytes_eq s.name name then length s.row_type.columns else shape_width
    name ss

columns_by : (b : Bool) (t : Table) (o : Option Table) (n : ℕ) → n ≡ columns_of o →
    (if b then length t.columns else n) ≡ columns_of (if b then Some t else o)
columns_by true t o n h = refl
columns_by false t o n h = h

width_of_tables : (name : List ℕ) (ts : Tables) →
    shape_width name (shapes_of ts) ≡ table_width ts name
width_of_tables name [] = refl
width_of_tables name (s ∷ ss) =
    columns_by (bytes_eq s.name name) s.table (table_named name ss)
    (shape_width name (shapes_of ss)) (width_of_tables name ss)

-- no shape has a name that no entry has
no_width : (name : List ℕ) (catalog : Catalog) → AllByRecursion (λ y. bytes_eq name y ≡ false)
    (names_of catalog) → shape_width name (shapes_in catalog) ≡ 0
no_width name [] h = refl
no_width name (e ∷ es) h = after e.object (no_width name es h.1)
  where
    after : (o : Object) → shape_width name (shapes_in es) ≡ 0 →
        shape_width name (with_shape_of e.name o (shapes_in es)) ≡ 0
    after (TableObject row_type) more =
        ap (λ (b : Bool). if b then length row_type.columns else shape_width name (shapes_in es))
        (nat_list_eq_equiv.symm e.name name ∙ h.0) ∙ more
    after (FunctionObject f) more = more
    after (InterpretedObject f) more = more
    after (ProcedureObject f) more = more

width_of_catalog : (name : List ℕ) (catalog : Catalog) → IsDistinct bytes_eq (names_of catalog) →
    width_in catalog name ≡ shape_width name (shapes_in catalog)
unfolding IsDistinct
width_of_catalog name [] h = refl
width_of_catalog name (e ∷ es) h = after e.object (width_of_catalog name es h.1)
  where
    table : (row_type : RowType) (b : Bool) → width_in es name ≡ shape_width name (shapes_in es)
        → object_width (if b then Some (TableObject row_type) else object_named name es) ≡
        (if b then length row_type.columns else shape_width name (shapes_in es))
    table row_type true more = refl
    table row_type false more = more

    absent : bytes_eq e.name name ≡ true → 0 ≡ shape_width name (shapes_in es)
    absent q =
        sym (no_width name es (subst (λ (n : List ℕ). AllByRecursion (λ y. bytes_eq n y ≡ false)
        (names_of es)) ((bytes_eq-Decides e.name name).0 q) h.0))

    function : (b : Bool) (o : Object) → object_width (Some o) ≡ 0 →
        (b ≡ true → 0 ≡ shape_width name (shapes_in es)) →
        width_in es name ≡ shape_width name (shapes_in es)
        → object_width (if b then Some o else object_named name es) ≡ shape_width name
        (shapes_in es)
    function true o z f more = z ∙ f refl
    function false o z f more = more

    after : (o : Object) → width_in es name ≡ shape_width name (shapes_in es)
        → object_width (if bytes_eq e.name name then Some o else object_named name es) ≡
        shape_width name (with_shape_of e.name o (shapes_in es))
    after (TableObject row_type) more = table row_type (bytes_eq e.name name) more
    after (FunctionObject f) more = function (bytes_eq e.name name) (FunctionObject f) refl absent
        more
    after (InterpretedObject f) more = function (bytes_eq e.name name) (InterpretedObject f) refl
        absent more
    after (ProcedureObject f) more = function (bytes_eq e.name name) (ProcedureObject f) refl absent
        more

-- of a table of the database the catalog says how many columns it has
pub widths_agree : (db : Plain) → IsWhole db → IsDistinct bytes_eq (names_of db.catalog) →
    (name : List ℕ) → width_in db.catalog name ≡ table_width db.tables name
widths_agree db whole distinct name =
    width_of_catalog name db.catalog distinct ∙ sym (ap (shape_width name) whole) ∙
    width_of_tables name db.tables
