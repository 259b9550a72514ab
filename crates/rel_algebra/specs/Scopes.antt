-- What evaluations by the tables alone see, and how lists of rows end.
use Rattle.std.specs.Prelude.{ℕ, Bool, true, false, List, [], ◌∷◌, ◌++◌, Ok}
use Rattle.sql_values.specs.declared.value.Value.{Value}
use Rattle.row_types.specs.Rows.{Row}
use Rattle.row_types.specs.Tables.{Tables}
use Rattle.rel_algebra.specs.Endings.{Ending, ◌>>=◌}
use Rattle.rel_algebra.specs.Joins.{table_width}

-- the tables, and the arguments of the whole query
pub record Inputs : Type 0 where
  -- by their names
  pub tables : Tables
  -- by number
  pub args : List Value

-- how many columns each table has
abbrev pub columns_in : Inputs → List ℕ → ℕ
columns_in w = table_width w.tables

-- the rows outside, the innermost first, and the values of the parameters
pub record Scope : Type 0 where
  pub rows : List Row
  pub params : List Value

-- with one row more inside
abbrev pub within : Scope → Row → Scope
within f r = record { rows = r ∷ f.rows; params = f.params }

-- each in turn; the first condition ends it
abbrev pub each_of : {A B : Type 0} → (A → Ending (List B)) → List A → Ending (List B)
each_of f [] = Ok []
each_of f (x ∷ xs) = do
  ys ← f x
  zs ← each_of f xs
  Ok (ys ++ zs)

-- a row that stands, or leaves
abbrev pub kept_if : Bool → Row → List Row
kept_if true r = r ∷ []
kept_if false r = []

-- a list of one row
abbrev pub one_row : Ending Row → Ending (List Row)
one_row e = do
  r ← e
  Ok (r ∷ [])

-- the list, where the tests hold
abbrev pub list_if : Bool → Ending Row → Ending (List Row)
list_if true list = one_row list
list_if false list = Ok []

-- a row's list, where its tests hold. 7.12 (where clause)
abbrev pub list_where : Ending Bool → Ending Row → Ending (List Row)
list_where tests list = do
  b ← tests
  list_if b list
