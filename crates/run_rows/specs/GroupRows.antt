-- The row of a group, by how its aggregates end. ISO/IEC 9075-2, 10.9 (aggregate function).
use Rattle.std.specs.Prelude.{List, [], ◌∷◌, ◌++◌, Ok}
use Rattle.sql_values.specs.Values.{Outcome}
use Rattle.row_types.specs.Rows.{Row}
use Rattle.rel_algebra.specs.Endings.{Ending, ◌>>=◌, ending_of}

-- the values of these ends; the first that raises ends it
abbrev pub all_given : List Outcome → Ending Row
all_given [] = Ok []
all_given (o ∷ os) = do
  v ← ending_of o
  vs ← all_given os
  Ok (v ∷ vs)

-- the key, and then what the aggregates give
abbrev pub row_of_ends : Row → List Outcome → Ending Row
row_of_ends key ends = do
  vs ← all_given ends
  Ok (key ++ vs)
