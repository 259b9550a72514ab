-- How rows lie in memory: in blocks, all of them full but the last that has rows.
use Rattle.std.specs.Prelude.{ℕ, ◌≡◌, ◌<◌, ◌⊎◌, List, [], ◌∷◌, ◌++◌, length}
use Rattle.row_types.specs.Rows.{Row}

-- the rows of all blocks, one block after another
abbrev pub joined : List (List Row) → List Row
joined [] = []
joined (b ∷ bs) = b ++ joined bs

-- each block is full: it has 1,024 rows
abbrev pub Full : List (List Row) → Type 0
Full [] = Unit {0}
Full (b ∷ bs) = (length b ≡ 1024) × Full bs

-- full blocks, then at most one that is not full, then blocks without rows
abbrev pub Packed : List (List Row) → Type 0
Packed [] = Unit {0}
Packed (b ∷ bs) = ((length b ≡ 1024) × Packed bs) ⊎ ((length b < 1024) × (joined bs ≡ []))

-- the same where the first block lacks a row
abbrev pub Lacks : List (List Row) → Type 0
Lacks [] = Unit {0}
Lacks (b ∷ bs) = ((length b ≡ 1023) × Packed bs) ⊎ ((length b < 1024) × (joined bs ≡ []))

-- Rows, and the number that there is memory for.
pub record Room : Type 0 where
  pub rows : List Row
  pub capacity : ℕ
