-- Where the columns and the parameters of what is emitted are read.
use Rattle.std.specs.Prelude.{ℕ, zero, suc, ◌+◌}
use Rattle.sql_values.specs.declared.value.Value.TheVariants.{Null}
use Rattle.rel_algebra.specs.Plan.{Scalar, constant, column, argument}

-- where a column or a parameter is read
pub data Place : Type 0 where
  at : ℕ → ℕ → Place
  given : ℕ → Place
  nowhere : Place

-- the scalar that reads a place; what stands nowhere is NULL
abbrev pub read : Place → Scalar
read (at level i) = column level i
read (given i) = argument i
read nowhere = constant Null

-- the same place, seen from a row further in
abbrev pub outward : Place → Place
outward (at level i) = at (suc level) i
outward (given i) = given i
outward nowhere = nowhere

-- the place p, where i is below n
abbrev pub below : ℕ → ℕ → Place → Place
below zero i p = nowhere
below (suc n) zero p = p
below (suc n) (suc i) p = below n i p

-- where an expression finds its columns, by level and place, and its parameters
pub record Env : Type 0 where
  -- by level and place
  pub columns : ℕ → ℕ → Place
  -- by number
  pub params : ℕ → Place

-- on a row of n columns within the rows of an environment
abbrev pub columns_within : Env → ℕ → ℕ → ℕ → Place
columns_within e n zero i = below n i (at 0 i)
columns_within e n (suc d) i = outward (e.columns d i)

-- the environment on a row of n columns within the rows of another one
abbrev pub entered : Env → ℕ → Env
entered e n = record { columns = columns_within e n; params = λ i. outward (e.params i) }

-- in a function's body: no row, and k parameters in the columns from m on
abbrev pub passed : ℕ → ℕ → Env
passed m k = record { columns = λ d i. nowhere; params = λ i. below k i (at 0 (m + i)) }

-- in a row of VALUES, which stands in the rows outside alone
abbrev pub lifted : Env → Env
lifted e = record { columns = λ d i. outward (e.columns d i); params = λ i. outward (e.params i) }

-- a whole query: its parameters are the n arguments
abbrev pub top : ℕ → Env
top n = record { columns = λ d i. nowhere; params = λ i. below n i (given i) }

-- in the list of a query that is folded: its row is the m columns from n on
abbrev pub folded_columns : Env → ℕ → ℕ → ℕ → ℕ → Place
folded_columns e n m zero i = below m i (at 0 (n + i))
folded_columns e n m (suc d) i = e.columns d i

-- the environment of the list of a query that is folded: its row stands in a wider one
abbrev pub folded_env : Env → ℕ → ℕ → Env
folded_env e n m = record { columns = folded_columns e n m; params = e.params }
