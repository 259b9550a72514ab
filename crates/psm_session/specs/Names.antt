-- The names of tables, as tables come and go.
use Rattle.std.specs.Prelude.{ℕ, List, [], ◌∷◌, if◌then◌else◌, Option, Some, None}
use Rattle.std.specs.Str.{bytes_eq}
use Rattle.catalog_store.specs.declared.entry.Object.{Object as HeldObject}
use Rattle.catalog_store.specs.declared.entry.Object.TheVariants.{Table, Function, Interpreted}
use Rattle.catalog_store.specs.declared.entry.Object.TheVariants.{Procedure}

-- a name or none, as a list
abbrev pub optional : Option (List ℕ) → List (List ℕ)
optional None = []
optional (Some name) = name ∷ []

-- the name of an object, where it is a table
abbrev pub names_of_object : List ℕ → HeldObject → List (List ℕ)
names_of_object name (Table row_type) = name ∷ []
names_of_object name (Function f) = []
names_of_object name (Interpreted f) = []
names_of_object name (Procedure p) = []

-- the names without one, where it stands among them
abbrev pub without_name : List ℕ → List (List ℕ) → List (List ℕ)
without_name name [] = []
without_name name (n ∷ ns) = if bytes_eq n name then ns else n ∷ without_name name ns
