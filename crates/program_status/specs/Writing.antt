-- What a write in several calls took.
use Rattle.std.specs.Prelude.{◌≡◌, ◌<◌, ℕ, List, ◌++◌, length, Option}
use Rattle.io_edges.specs.TakenBytes.{TakenBytes, Takes}

-- a front of the bytes, and not all of them
abbrev pub IsProperFront : List ℕ → List ℕ → Type 0
IsProperFront front all = (rest : List ℕ) × (0 < length rest) × (all ≡ front ++ rest)

-- a front of the bytes was taken, and not all of them
abbrev pub TakesFront : Option TakenBytes → Option TakenBytes → List ℕ → Type 0
TakesFront told told' bytes = (front : List ℕ) × IsProperFront front bytes × Takes told told' front

-- all but the rest was taken
abbrev pub Went : Option TakenBytes → Option TakenBytes → List ℕ → List ℕ → Type 0
Went told told' bytes rest = (front : List ℕ) × (bytes ≡ front ++ rest) × Takes told told' front
