-- What is asked of names in a row: of those of new columns and parameters, and of lists of columns.
-- ISO/IEC 9075-2, 5.4 (names and identifiers) and 11.3 (table definition).
use Rattle.std.specs.Prelude.{ℕ, Bool, true, false, not, List, [], ◌∷◌, ◌++◌, map, Option, Some}
use Rattle.std.specs.Prelude.{None, is_some}
use Rattle.std.specs.List.{flat_map}
use Rattle.syntax_trees.specs.declared.anchor.Ident.{Ident}
use Rattle.catalog_store.specs.Catalog.{Catalog, object_named}
use Rattle.bind_faults.specs.declared.fault.Fault.{Fault}
use Rattle.bind_faults.specs.declared.fault.FaultKind.TheVariants.{UnknownName, DuplicateName}
use Rattle.bind_faults.specs.Faults.{fault_if}
use Rattle.bind_sight.specs.Index.{place_of}

-- the names alone, without their places in the text
abbrev pub names_of : List Ident → List (List ℕ)
names_of is = map (λ i. i.name) is

-- a new name that stands for something
abbrev pub taken_name : Ident → Catalog → List Fault
taken_name i catalog = fault_if (is_some (object_named i.name catalog)) DuplicateName i.anchor

-- a name that stands among earlier ones
abbrev pub again : List (List ℕ) → Ident → List Fault
again earlier i = fault_if (is_some (place_of i.name earlier)) DuplicateName i.anchor

-- names that earlier ones have
abbrev pub repeated : List (List ℕ) → List Ident → List Fault
repeated earlier [] = []
repeated earlier (i ∷ is) = again earlier i ++ repeated (earlier ++ i.name ∷ []) is

-- ---- lists of columns

-- a name that no column has
abbrev pub unknown_in : List (List ℕ) → Ident → List Fault
unknown_in columns i = fault_if (not (is_some (place_of i.name columns))) UnknownName i.anchor

-- names that no column has; of a table that is not known each name is taken to be a column's
abbrev pub unknown_among : Bool → List (List ℕ) → List Ident → List Fault
unknown_among false columns is = []
unknown_among true columns is = flat_map (unknown_in columns) is

-- a list of columns has none twice, and each is one of these
abbrev pub list_faults : Bool → List (List ℕ) → List Ident → List Fault
list_faults known columns is = repeated [] is ++ unknown_among known columns is

-- a place that is found, in a list of one
abbrev pub at_place : Option ℕ → List ℕ
at_place None = []
at_place (Some place) = place ∷ []

-- the place of a column, where it is one of these
abbrev pub place_in : List (List ℕ) → Ident → List ℕ
place_in columns i = at_place (place_of i.name columns)

-- the places of a list of columns
abbrev pub places_in : List (List ℕ) → List Ident → List ℕ
places_in columns is = flat_map (place_in columns) is
