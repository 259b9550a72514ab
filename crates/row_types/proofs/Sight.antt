-- Values with cells after them: the cell at a place, and values that lie in two places.
use Rattle.std.proofs.Common.{◌≡◌, ℕ, zero, suc, ◌<◌, ◌≤◌, ◌-◌, List, [], ◌∷◌, ◌++◌, map, length}
use Rattle.std.proofs.Common.{refl, ap, sym, ◌∙◌, slice_index_or, arith}
use Rattle.sql_values.specs.declared.value.Value.{Value}
use Rattle.row_types.specs.declared.cell.Cell.{Cell}
use Rattle.row_types.specs.declared.cell.Cell.TheVariants.{Val}
use Rattle.row_types.specs.Cells.{cell_at}

pub cell_value : (vs : List Value) (cs : List Cell) (i : ℕ) (v : Value) → i < length vs →
    v ≡ slice_index_or vs i v → cell_at (map Val vs ++ cs) i ≡ Val v
cell_value [] cs i v l h = absurd (omega (arith, l))
cell_value (x ∷ vs) cs zero v l h = ap Val (sym h)
cell_value (x ∷ vs) cs (suc i) v l h = cell_value vs cs i v (omega (arith, l)) h

pub cell_later : (vs : List Value) (cs : List Cell) (i : ℕ) → length vs ≤ i →
    cell_at (map Val vs ++ cs) i ≡ cell_at cs (i - length vs)
cell_later [] cs i h = ap (λ n. cell_at cs n) (omega arith)
cell_later (x ∷ vs) cs zero h = absurd (omega (arith, h))
cell_later (x ∷ vs) cs (suc i) h = cell_later vs cs i (omega (arith, h)) ∙
    ap (λ n. cell_at cs n) (omega arith)

pub shown_apart : (vs ws : List Value) (cs : List Cell) →
    map Val vs ++ (map Val ws ++ cs) ≡ map Val (vs ++ ws) ++ cs
shown_apart [] ws cs = refl
shown_apart (x ∷ vs) ws cs = ap (λ ds. Val x ∷ ds) (shown_apart vs ws cs)

pub alone : (vs : List Value) → vs ++ [] ≡ vs
alone [] = refl
alone (x ∷ vs) = ap (λ ws. x ∷ ws) (alone vs)
