-- Which functions are called. ISO/IEC 9075-2, 10.4 (routine invocation).
use Rattle.std.specs.Prelude.{ℕ, List, [], ◌∷◌, map}
use Rattle.std.specs.List.{flat_map}
use Rattle.std.specs.Borrow.{Bor}
use Rattle.catalog_store.specs.Uses.{Use, Uses, calls, reads}

-- the name of a function that is called; a table is read alone
abbrev pub called_by : Use → List (List ℕ)
called_by (calls name arguments) = name ∷ []
called_by (reads name) = []

-- the names of the functions that are called, in the order of the text, with repetitions
abbrev pub called : Uses → List (List ℕ)
called us = flat_map called_by us

-- what names are held
abbrev pub held : List (Bor (List ℕ)) → List (List ℕ)
held names = map (λ n. n.now) names
