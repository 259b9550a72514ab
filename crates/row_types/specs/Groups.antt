-- Groups of rows. ISO/IEC 9075-2, 7.13 (group by clause).
use Rattle.std.specs.Prelude.{ℕ, zero, suc, Bool, true, false, ◌&&◌, if◌then◌else◌, List, [], ◌∷◌}
use Rattle.std.specs.Prelude.{◌++◌, map}
use Rattle.std.specs.Ordering.{is_eq}
use Rattle.sql_values.specs.declared.value.Value.{Value}
use Rattle.sql_values.specs.declared.value.Value.TheVariants.{Null}
use Rattle.row_types.specs.Rows.{Row, value_cmp}

-- the i-th value of a row; past its end NULL
abbrev pub value_at : Row → ℕ → Value
value_at [] i = Null
value_at (v ∷ vs) zero = v
value_at (v ∷ vs) (suc i) = value_at vs i

-- NULL equals NULL here
abbrev pub same_value : Value → Value → Bool
same_value a b = is_eq (value_cmp a b)

-- rows are the same: as many values, and at each place the same, NULL as NULL
abbrev pub same_row : Row → Row → Bool
same_row [] [] = true
same_row (x ∷ xs) (y ∷ ys) = same_value x y && same_row xs ys
same_row _ _ = false

-- the values of a column of rows
abbrev pub values_of_column : ℕ → List Row → List Value
values_of_column i rows = map (λ (r : Row). value_at r i) rows

-- a row's values at these places
abbrev pub values_at : Row → List ℕ → Row
values_at r [] = []
values_at r (i ∷ is) = value_at r i ∷ values_at r is

-- the grouping columns' values, and the rows that have them
pub record Group : Type 0 where
  pub key : Row
  pub members : List Row

-- the row goes to the group of its key, or makes a new one, the last
abbrev pub put : Row → Row → List Group → List Group
put key r [] = record { key = key; members = r ∷ [] } ∷ []
put key r (g ∷ gs) =
    if same_row key g.key then record { key = g.key; members = g.members ++ r ∷ [] } ∷ gs else g ∷
    put key r gs

-- rows put into groups one after another, after those that are there
abbrev pub grouped_from : List ℕ → List Group → List Row → List Group
grouped_from keys gs [] = gs
grouped_from keys gs (r ∷ rs) = grouped_from keys (put (values_at r keys) r gs) rs

-- without a key there is one group, even of no rows
abbrev pub first_groups : List ℕ → List Group
first_groups [] = record { key = []; members = [] } ∷ []
first_groups (k ∷ ks) = []

-- in the order in which their first rows stand
abbrev pub groups : List ℕ → List Row → List Group
groups keys rows = grouped_from keys (first_groups keys) rows
