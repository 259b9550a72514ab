-- The value at a place of a row.
use Rattle.std.proofs.Common.{◌≡◌, ℕ, zero, suc, ◌≤◌, [], ◌∷◌, get_or, length, refl, arith}
use Rattle.sql_values.specs.declared.value.Value.TheVariants.{Null}
use Rattle.row_types.specs.Rows.{Row}
use Rattle.row_types.specs.Groups.{value_at}

pub value_is : (row : Row) (i : ℕ) → value_at row i ≡ get_or row i Null
value_is [] i = refl
value_is (x ∷ row) zero = refl
value_is (x ∷ row) (suc i) = value_is row i

pub value_past : (row : Row) (i : ℕ) → length row ≤ i → value_at row i ≡ Null
value_past [] i h = refl
value_past (x ∷ row) zero h = absurd (omega (arith, h))
value_past (x ∷ row) (suc i) h = value_past row i (omega (arith, h))
