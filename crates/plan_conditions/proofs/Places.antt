-- The first cells of a row, one after another.
use Rattle.std.proofs.Common.{◌≡◌, ℕ, zero, suc, ◌+◌, List, [], ◌∷◌, ◌++◌, slice_get, Some, None}
use Rattle.std.proofs.Common.{refl, ap, sym, ◌∙◌, arith, add-one, zero-add}
use Rattle.sql_values.specs.declared.value.Value.{Value}
use Rattle.sql_values.specs.declared.value.Value.TheVariants.{Null}
use Rattle.row_types.specs.declared.cell.Cell.{Cell}
use Rattle.row_types.specs.declared.cell.Cell.TheVariants.{Val}
use Rattle.row_types.specs.Rows.{Row}
use Rattle.rel_algebra.specs.Endings.{value_at}
use Rattle.rel_algebra.specs.Joins.{places}
use Rattle.rel_algebra.specs.Plan.{cell_at, cells_at, shown}
use Rattle.rel_algebra.proofs.Laws.{shown_at}

-- a value that a row has
pub value_there : (row : Row) (i : ℕ) (v : Value) → slice_get row i ≡ Some v → value_at row i ≡ v
value_there [] i v h = cc
value_there (u ∷ row) zero v h = cc
value_there (u ∷ row) (suc i) v h = value_there row i v h

-- a value that a row has not
pub none_there : (row : Row) (i : ℕ) → slice_get row i ≡ None → value_at row i ≡ Null
none_there [] i h = refl
none_there (u ∷ row) zero h = cc
none_there (u ∷ row) (suc i) h = none_there row i h

-- one cell more
pub cells_more : (row : List Cell) (i n : ℕ) →
    cells_at row (places i (suc n)) ≡ cells_at row (places i n) ++ cell_at row (i + n) ∷ []
cells_more row i zero = ap (λ k. cell_at row k ∷ []) (omega arith)
cells_more row i (suc n) = ap (λ cs. cell_at row i ∷ cs) (cells_more row (suc i) n ∙
    ap (λ k. cells_at row (places (suc i) n) ++ cell_at row k ∷ []) (omega arith))

-- the same of a row of values
shown_more : (row : Row) (i : ℕ) → cells_at (shown row) (places 0 (suc i)) ≡
    cells_at (shown row) (places 0 i) ++ cell_at (shown row) i ∷ []
shown_more row i = cells_more (shown row) 0 i ∙
    ap (λ k. cells_at (shown row) (places 0 i) ++ cell_at (shown row) k ∷ []) (zero-add i)

-- one cell more of a row's values
pub row_more : (row : Row) (cells new : List Cell) (i : ℕ) (v : Value) →
    cells ≡ cells_at (shown row) (places 0 i) → v ≡ value_at row i → new ≡ cells ++ Val v ∷ [] →
    new ≡ cells_at (shown row) (places 0 (i + 1))
row_more row cells new i v h e n = rw add-one (n ∙ (ap (λ cs. cs ++ Val v ∷ []) h ∙
    (ap (λ c. cells_at (shown row) (places 0 i) ++ c ∷ []) (ap Val e ∙ sym (shown_at row i)) ∙
    sym (shown_more row i))))
