-- Nodes the last of which keeps one cell.
use Rattle.std.proofs.Common.{◌≡◌, ℕ, zero, suc, ◌-◌, List, [], ◌∷◌, ◌++◌, length, take, Some, refl}
use Rattle.std.proofs.Common.{ap, ◌∙◌, arith}
use Rattle.std.specs.Prelude.{slice_get}
use Rattle.sql_values.specs.declared.value.Value.{Value}
use Rattle.row_types.specs.declared.cell.Cell.{Cell}
use Rattle.rel_algebra.specs.declared.plan.Node.{Node}
use Rattle.rel_algebra.specs.declared.plan.Node.TheVariants.{Keep}
use Rattle.rel_algebra.specs.Joins.{places}
use Rattle.rel_algebra.specs.Plan.{cells_at}
use Rattle.region_steps.specs.Chains.{chain_cells}
use Rattle.region_steps.proofs.Laws.{chain_append}

pub places_width : (i n : ℕ) → length (places i n) ≡ n
places_width i zero = refl
places_width i (suc n) = ap suc (places_width (suc i) n)

cells_width : (row : List Cell) (ps : List ℕ) → length (cells_at row ps) ≡ length ps
cells_width row [] = refl
cells_width row (p ∷ ps) = ap suc (cells_width row ps)

last_at : {A : Type 0} (xs : List A) (n : ℕ) (x : A) → length xs ≡ suc n → slice_get xs n ≡ Some x →
    xs ≡ take n xs ++ x ∷ []
last_at [] n x l h = cc
last_at (y ∷ []) zero x l h = let e : y ≡ x = cc in ap (λ z. z ∷ []) e
last_at (y ∷ []) (suc n) x l h = cc
last_at (y ∷ z ∷ xs) zero x l h = absurd (omega (arith, l))
last_at (y ∷ z ∷ xs) (suc n) x l h = ap (λ ys. y ∷ ys) (last_at (z ∷ xs) n x (omega (arith, l)) h)

last_is : {A : Type 0} (xs : List A) (x : A) → slice_get xs (length xs - 1) ≡ Some x →
    xs ≡ take (length xs - 1) xs ++ x ∷ []
last_is [] x h = cc
last_is (y ∷ xs) x h = last_at (y ∷ xs) (length (y ∷ xs) - 1) x (omega arith) h

-- the row has so many cells
pub ended : (ns : List Node) (ps : List ℕ) (row : List Cell) (o : List (List Cell))
    (args : List Value) → slice_get ns (length ns - 1) ≡ Some (Keep ps) →
    length (chain_cells ns row o args) ≡ length ps
ended ns ps row o args h =
    ap (λ (ms : List Node). length (chain_cells ms row o args)) (last_is ns (Keep ps) h)
    ∙ (ap length (chain_append (take (length ns - 1) ns) (Keep ps ∷ []) row o args)
    ∙ cells_width (chain_cells (take (length ns - 1) ns) row o args) ps)
