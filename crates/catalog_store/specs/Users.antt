-- Which entries use a name, and the catalog without it. ISO/IEC 9075-2, 11.31 and 11.62 (drop
-- statements: what is used is not dropped).
use Rattle.std.specs.Prelude.{ℕ, ◌&&◌, Bool, false, not, List, [], ◌∷◌, filter, length}
use Rattle.std.specs.Prelude.{if◌then◌else◌}
use Rattle.std.specs.List.{list_any}
use Rattle.std.specs.Str.{bytes_eq}
use Rattle.catalog_store.specs.Catalog.{Object, TableObject, FunctionObject, InterpretedObject}
use Rattle.catalog_store.specs.Catalog.{ProcedureObject, Entry, Catalog}

-- whether an object uses a name
abbrev pub mentions : List ℕ → Object → Bool
mentions name (TableObject row_type) = false
mentions name (FunctionObject f) = list_any (λ used. bytes_eq used name) f.uses
mentions name (InterpretedObject f) = list_any (λ used. bytes_eq used name) f.uses
mentions name (ProcedureObject p) = list_any (λ used. bytes_eq used name) p.uses

-- an entry of another name that uses it
abbrev pub is_user : List ℕ → Entry → Bool
is_user name e = not (bytes_eq e.name name) && mentions name e.object

-- how many other entries use a name
abbrev pub users_of : List ℕ → Catalog → ℕ
users_of name catalog = length (filter (is_user name) catalog)

-- the catalog without the entry of a name; the others keep their order
abbrev pub without : List ℕ → Catalog → Catalog
without name [] = []
without name (e ∷ es) = if bytes_eq e.name name then es else e ∷ without name es
