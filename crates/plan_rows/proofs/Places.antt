-- Two ways to find a cell, a row and a value.
use Rattle.std.proofs.Common.{◌≡◌, ℕ, zero, suc, ◌<◌, ◌-◌, List, [], ◌∷◌, refl, sym, ap, ◌∙◌, arith}
use Rattle.std.specs.Prelude.{slice_index_or}
use Rattle.sql_values.specs.declared.value.Value.{Value}
use Rattle.sql_values.specs.declared.value.Value.TheVariants.{Null}
use Rattle.row_types.specs.Cells as found
use Rattle.row_types.specs.declared.cell.Cell.{Cell}
use Rattle.rel_algebra.specs.Endings.{value_at}
use Rattle.rel_algebra.specs.Plan.{cell_at, cells_row}

pub same_cell : (cs : List Cell) (i : ℕ) → found.cell_at cs i ≡ cell_at cs i
same_cell [] i = refl
same_cell (c ∷ cs) zero = refl
same_cell (c ∷ cs) (suc i) = same_cell cs i

pub same_row : (rows : List (List Cell)) (i : ℕ) → found.row_of_level rows i ≡ cells_row rows i
same_row [] i = refl
same_row (r ∷ rows) zero = refl
same_row (r ∷ rows) (suc i) = same_row rows i

pub same_value : (vs : List Value) (i : ℕ) → slice_index_or vs i Null ≡ value_at vs i
same_value [] i = refl
same_value (v ∷ vs) zero = refl
same_value (v ∷ vs) (suc i) = same_value vs i

-- a column of a row outside
pub outer_column : (row : List Cell) (rows : List (List Cell)) (level i : ℕ) → 0 < level →
    cell_at (cells_row (row ∷ rows) level) i ≡ found.cell_at (found.row_of_level rows (level - 1)) i
outer_column row rows zero i h = absurd (omega (arith, h))
outer_column row rows (suc level) i h =
    sym (ap (λ n. found.cell_at (found.row_of_level rows n) i) (omega arith) ∙
    (same_cell (found.row_of_level rows level) i ∙ ap (λ r. cell_at r i) (same_row rows level)))
