-- An entry less: the tables stay those of the catalog.
use Rattle.std.proofs.Common.{◌≡◌, ℕ, Bool, true, false, List, [], ◌∷◌, refl, ap, sym, ◌∙◌, subst}
use Rattle.std.specs.Prelude.{if◌then◌else◌}
use Rattle.std.specs.List.{IsDistinct, AllByRecursion}
use Rattle.std.specs.Str.{bytes_eq}
use Rattle.std.specs.Cmp.Lexicographic.{nat_list_eq_equiv}
use Rattle.std.proofs.lemmas.Slice.Eq.{bytes_eq-Decides}
use Rattle.row_types.specs.Tables.{Tables, without_table_named}
use Rattle.catalog_store.specs.Catalog.{Object, TableObject, FunctionObject, InterpretedObject}
use Rattle.catalog_store.specs.Catalog.{ProcedureObject, Catalog, names_of}
use Rattle.catalog_store.specs.Users.{without}
use Rattle.psm_effects.specs.Database.{Plain}
use Rattle.psm_effects.specs.Effects.{dropped}
use Rattle.psm_effects.specs.Shapes.{Shape, shape_of, shapes_of, shapes_in, with_shape_of, IsWhole}

-- the shapes without the first of a name
abbrev without_shape : List ℕ → List Shape → List Shape
without_shape name [] = []
without_shape name (s ∷ ss) = if bytes_eq s.name name then ss else s ∷ without_shape name ss

of_tables : (name : List ℕ) (ts : Tables) → shapes_of (without_table_named name ts) ≡
    without_shape name (shapes_of ts)
of_tables name [] = refl
of_tables name (s ∷ ss) = by (bytes_eq s.name name) (of_tables name ss)
  where
    by : (b : Bool) → shapes_of (without_table_named name ss) ≡ without_shape name (shapes_of ss)
        → shapes_of (if b then ss else s ∷ without_table_named name ss) ≡
        (if b then shapes_of ss else shape_of s ∷ without_shape name (shapes_of ss))
    by true more = refl
    by false more = ap (λ (rest : List Shape). shape_of s ∷ rest) more

-- no shape has a name that no entry has
none_goes : (name : List ℕ) (catalog : Catalog) → AllByRecursion (λ y. bytes_eq name y ≡ false)
    (names_of catalog) → without_shape name (shapes_in catalog) ≡ shapes_in catalog
none_goes name [] h = refl
none_goes name (e ∷ es) h = after e.object (none_goes name es h.1)
  where
    after : (o : Object) → without_shape name (shapes_in es) ≡ shapes_in es →
        without_shape name (with_shape_of e.name o (shapes_in es)) ≡ with_shape_of e.name o
        (shapes_in es)
    after (TableObject row_type) more =
        let s : Shape = record { name = e.name; row_type = row_type } in
        ap (λ (b : Bool). if b then shapes_in es else s ∷ without_shape name (shapes_in es))
        (nat_list_eq_equiv.symm e.name name ∙ h.0)
        ∙ ap (λ (rest : List Shape). s ∷ rest) more
    after (FunctionObject f) more = more
    after (InterpretedObject f) more = more
    after (ProcedureObject f) more = more

of_catalog : (name : List ℕ) (catalog : Catalog) → IsDistinct bytes_eq (names_of catalog) →
    shapes_in (without name catalog) ≡ without_shape name (shapes_in catalog)
unfolding IsDistinct
of_catalog name [] h = refl
of_catalog name (e ∷ es) h = outer (bytes_eq e.name name) ∙
    step e.object (bytes_eq e.name name) refl (of_catalog name es h.1)
  where
    outer : (b : Bool) → shapes_in (if b then es else e ∷ without name es) ≡
        (if b then shapes_in es else with_shape_of e.name e.object (shapes_in (without name es)))
    outer true = refl
    outer false = refl

    absent : bytes_eq e.name name ≡ true → shapes_in es ≡ without_shape name (shapes_in es)
    absent q =
        sym (none_goes name es (subst (λ (n : List ℕ). AllByRecursion (λ y. bytes_eq n y ≡ false)
        (names_of es)) ((bytes_eq-Decides e.name name).0 q) h.0))

    table : (s : Shape) (b : Bool) → shapes_in (without name es) ≡ without_shape name (shapes_in es)
        → (if b then shapes_in es else s ∷ shapes_in (without name es)) ≡
        (if b then shapes_in es else s ∷ without_shape name (shapes_in es))
    table s true more = refl
    table s false more = ap (λ (rest : List Shape). s ∷ rest) more

    function : (b : Bool) → bytes_eq e.name name ≡ b →
        shapes_in (without name es) ≡ without_shape name (shapes_in es)
        → (if b then shapes_in es else shapes_in (without name es)) ≡ without_shape name
        (shapes_in es)
    function true q more = absent q
    function false q more = more

    step : (o : Object) (b : Bool) → bytes_eq e.name name ≡ b →
        shapes_in (without name es) ≡ without_shape name (shapes_in es)
        → (if b then shapes_in es else with_shape_of e.name o (shapes_in (without name es))) ≡
        without_shape name (with_shape_of e.name o (shapes_in es))
    step (TableObject row_type) b q more =
        let s : Shape = record { name = e.name; row_type = row_type } in
        table s b more ∙
        sym (ap (λ (c : Bool). if c then shapes_in es else s ∷ without_shape name
        (shapes_in es)) q)
    step (FunctionObject f) b q more = function b q more
    step (InterpretedObject f) b q more = function b q more
    step (ProcedureObject f) b q more = function b q more

pub dropped_is_whole : (name : List ℕ) (db : Plain) → IsDistinct bytes_eq (names_of db.catalog) →
    IsWhole db → IsWhole (dropped name db).after
dropped_is_whole name db distinct whole =
    of_tables name db.tables ∙ ap (without_shape name) whole ∙
    sym (of_catalog name db.catalog distinct)
