-- A new entry of the catalog and its table: the tables stay those of the catalog, and a table that
-- is taken back leaves no trace.
use Rattle.std.proofs.Common.{◌≡◌, ℕ, Bool, true, false, List, [], ◌∷◌, ◌++◌, Option, Some, None}
use Rattle.std.proofs.Common.{refl, ap, ap₂, sym, ◌∙◌, subst}
use Rattle.std.specs.Prelude.{if◌then◌else◌, Result, Ok, Err, OnOk, OnErr}
use Rattle.std.specs.Str.{bytes_eq}
use Rattle.std.proofs.lemmas.List.{map-append}
use Rattle.std.proofs.lemmas.Slice.Eq.{bytes_eq-Decides}
use Rattle.row_types.specs.declared.RowType.{RowType}
use Rattle.row_types.specs.Tables.{Stored, Table, Tables, table_named, without_table_named}
use Rattle.table_store.specs.Memory.{Memory}
use Rattle.catalog_store.specs.Catalog.{Entry, Object, TableObject, FunctionObject}
use Rattle.catalog_store.specs.Catalog.{InterpretedObject, ProcedureObject, Catalog, object_named}
use Rattle.psm_effects.specs.Conclusions.{database}
use Rattle.psm_effects.specs.Database.{Plain}
use Rattle.psm_effects.specs.Effects.{with_table_of, created}
use Rattle.psm_effects.specs.Shapes.{Shape, shape_of, shapes_of, shapes_in, with_shape_of, IsWhole}

-- ---- the tables stay those of the catalog

with_shape_of-append : (name : List ℕ) (o : Object) (xs ys : List Shape) →
    with_shape_of name o (xs ++ ys) ≡ with_shape_of name o xs ++ ys
with_shape_of-append name (TableObject row_type) xs ys = refl
with_shape_of-append name (FunctionObject f) xs ys = refl
with_shape_of-append name (InterpretedObject f) xs ys = refl
with_shape_of-append name (ProcedureObject f) xs ys = refl

shapes_in-append : (catalog : Catalog) (e : Entry) →
    shapes_in (catalog ++ e ∷ []) ≡ shapes_in catalog ++ with_shape_of e.name e.object []
shapes_in-append [] e = refl
shapes_in-append (c ∷ cs) e =
    ap (with_shape_of c.name c.object) (shapes_in-append cs e) ∙
    with_shape_of-append c.name c.object (shapes_in cs) (with_shape_of e.name e.object [])

append-none : {A : Type 0} (xs : List A) → xs ≡ xs ++ []
append-none [] = refl
append-none (x ∷ xs) = ap (λ more. x ∷ more) (append-none xs)

shapes-with_table_of : (name : List ℕ) (o : Object) (ts : Tables) →
    shapes_of (with_table_of name o ts) ≡ shapes_of ts ++ with_shape_of name o []
shapes-with_table_of name (TableObject row_type) ts =
    map-append shape_of ts (record {
      name = name;
      table =
          record { columns = row_type.columns; key = row_type.key; rows = [] };
    } ∷ [])
shapes-with_table_of name (FunctionObject f) ts = append-none (shapes_of ts)
shapes-with_table_of name (InterpretedObject f) ts = append-none (shapes_of ts)
shapes-with_table_of name (ProcedureObject f) ts = append-none (shapes_of ts)

pub created_is_whole : (e : Entry) (db : Plain) → IsWhole db → IsWhole (created e db).after
created_is_whole e db whole =
    shapes-with_table_of e.name e.object db.tables ∙
    ap (λ (shapes : List Shape). shapes ++ with_shape_of e.name e.object []) whole
    ∙ sym (shapes_in-append db.catalog e)

-- ---- a free name

-- what the first shape of a name says
abbrev shape_named : List ℕ → List Shape → Option RowType
shape_named name [] = None
shape_named name (s ∷ ss) = if bytes_eq s.name name then Some s.row_type else shape_named name ss

none_first : {A : Type 0} (b : Bool) (a : A) (more : Option A) →
    (if b then Some a else more) ≡ None → b ≡ false
none_first true a more h = cc
none_first false a more h = refl

none_later : {A : Type 0} (b : Bool) (a : A) (more : Option A) →
    (if b then Some a else more) ≡ None → more ≡ None
none_later true a more h = cc
none_later false a more h = h

skipped : {A : Type 0} (b : Bool) (a : A) (more : Option A) → b ≡ false → more ≡ None →
    (if b then Some a else more) ≡ None
skipped b a more f h = ap (λ (c : Bool). if c then Some a else more) f ∙ h

no_shape : (name : List ℕ) (catalog : Catalog) → object_named name catalog ≡ None →
    shape_named name (shapes_in catalog) ≡ None
no_shape name [] h = refl
no_shape name (e ∷ es) h = later e.object (none_first (bytes_eq e.name name) e.object
    (object_named name es) h)
    (no_shape name es (none_later (bytes_eq e.name name) e.object (object_named name es) h))
  where
    later : (o : Object) → bytes_eq e.name name ≡ false → shape_named name (shapes_in es) ≡ None →
        shape_named name (with_shape_of e.name o (shapes_in es)) ≡ None
    later (TableObject row_type) f more = skipped (bytes_eq e.name name) row_type
        (shape_named name (shapes_in es)) f more
    later (FunctionObject r) f more = more
    later (InterpretedObject r) f more = more
    later (ProcedureObject r) f more = more

no_table : (name : List ℕ) (ts : Tables) → shape_named name (shapes_of ts) ≡ None →
    table_named name ts ≡ None
no_table name [] h = refl
no_table name (s ∷ ss) h = skipped (bytes_eq s.name name) s.table (table_named name ss)
    (none_first (bytes_eq s.name name) (shape_of s).row_type (shape_named name (shapes_of ss)) h)
    (no_table name ss (none_later (bytes_eq s.name name) (shape_of s).row_type
    (shape_named name (shapes_of ss)) h))

-- a name that stands for nothing has no table
pub free_of_table : (name : List ℕ) (db : Plain) → IsWhole db →
    object_named name db.catalog ≡ None → table_named name db.tables ≡ None
free_of_table name db whole h = no_table name db.tables
    (ap (shape_named name) whole ∙ no_shape name db.catalog h)

-- ---- a table that is taken back

abbrev plain : Catalog → Tables → Plain
plain catalog tables = record { catalog = catalog; tables = tables }

without_free : (name : List ℕ) (ts : Tables) → table_named name ts ≡ None →
    without_table_named name ts ≡ ts
without_free name [] h = refl
without_free name (s ∷ ss) h =
    let other = none_first (bytes_eq s.name name) s.table (table_named name ss) h in
    let more = without_free name ss (none_later (bytes_eq s.name name) s.table (table_named name ss)
    h) in
    ap (λ (c : Bool). if c then ss else s ∷ without_table_named name ss) other ∙
    ap (λ (rest : Tables). s ∷ rest) more

without_last : (name : List ℕ) (t : Table) (ts : Tables) → table_named name ts ≡ None →
    without_table_named name (ts ++ record { name = name; table = t } ∷ []) ≡ ts
without_last name t [] h = ap (λ (c : Bool). if c then [] else record { name = name; table = t } ∷
    []) ((bytes_eq-Decides name name).1 refl)
without_last name t (s ∷ ss) h =
    let last : Stored = record { name = name; table = t } in
    let other = none_first (bytes_eq s.name name) s.table (table_named name ss) h in
    let more = without_last name t ss (none_later (bytes_eq s.name name) s.table
    (table_named name ss) h) in
    ap (λ (c : Bool). if c then ss ++ last ∷ [] else s ∷ without_table_named name (ss ++ last ∷ []))
    other ∙ ap (λ (rest : Tables). s ∷ rest) more

pub taken_back : (name : List ℕ) (o : Object) (ts : Tables) → table_named name ts ≡ None →
    without_table_named name (with_table_of name o ts) ≡ ts
taken_back name (TableObject row_type) ts h =
    without_last name (record { columns = row_type.columns; key = row_type.key; rows = [] }) ts h
taken_back name (FunctionObject f) ts h = without_free name ts h
taken_back name (InterpretedObject f) ts h = without_free name ts h
taken_back name (ProcedureObject f) ts h = without_free name ts h

-- the table of an object that finds no memory for its entry is taken back
pub as_before : {A E : Type 0} (r : Result A E) (e : Entry) (before : Plain) (catalog : Catalog)
    (with_table now : Memory) → table_named e.name before.tables ≡ None →
    with_table.tables ≡ with_table_of e.name e.object before.tables
    → OnErr r ((catalog ≡ before.catalog) ×
    (now.tables ≡ without_table_named e.name with_table.tables))
    → OnErr r (database catalog now ≡ before)
as_before (Ok a) e before catalog with_table now free there back = tt
as_before (Err x) e before catalog with_table now free there back =
    ap₂ plain back.0 (back.1 ∙ ap (without_table_named e.name) there ∙
    taken_back e.name e.object before.tables free)

-- with its entry or without it, the tables are those of the catalog
pub whole_either : {A E : Type 0} (r : Result A E) (e : Entry) (before : Plain) (catalog : Catalog)
    (with_table now : Memory) → OnOk r (catalog ≡ before.catalog ++ e ∷ []) →
    OnOk r (now ≡ with_table)
    → with_table.tables ≡ with_table_of e.name e.object before.tables →
    OnErr r (database catalog now ≡ before) → IsWhole before → IsWhole (database catalog now)
whole_either (Ok a) e before catalog with_table now added stays there back whole =
    subst IsWhole (sym (ap₂ plain added (ap (λ (m : Memory). m.tables) stays ∙ there)))
    (created_is_whole e before whole)
whole_either (Err x) e before catalog with_table now added stays there back whole =
    subst IsWhole (sym back) whole
