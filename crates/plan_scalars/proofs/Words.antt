-- What loops over operands and operators keep.
use Rattle.std.proofs.Common.{◌≡◌, ℕ, zero, suc, ◌+◌, ◌≤◌, false, List, [], ◌∷◌, map, length, drop}
use Rattle.std.proofs.Common.{slice_index_or, refl, sym, ap, ◌∙◌, arith}
use Rattle.sql_values.specs.declared.value.Value.{Value}
use Rattle.sql_values.specs.Values.{is_true}
use Rattle.row_types.specs.declared.cell.Cell.{Cell}
use Rattle.row_types.specs.declared.cell.Cell.TheVariants.{Val}
use Rattle.rel_algebra.specs.declared.scalar.Scalar.{Scalar as ScalarCode}
use Rattle.rel_algebra.specs.declared.scalar.Scalar.TheVariants.{Chain, rolls-Chain, Column}
use Rattle.rel_algebra.specs.declared.scalar.Scalar.TheVariants.{rolls-Column, Argument}
use Rattle.rel_algebra.specs.declared.scalar.Scalar.TheVariants.{rolls-Argument}
use Rattle.rel_algebra.specs.declared.scalar.Scalar.TheOpen.{Scalar-F}
use Rattle.rel_algebra.specs.declared.scalar.Scalar.TheFolds.{fold-roll-Scalar}
use Rattle.rel_algebra.specs.declared.scalar.ScalarLink.{ScalarLink as LinkCode}
use Rattle.rel_algebra.specs.Plan.{Scalar, Sight, cell_of, cells_of, case_cell}
use Rattle.rel_algebra.specs.PlanView.{Link, chained, scalar_step, link_step, scalar_of, link_of}
use Rattle.rel_algebra.specs.PlanView.{scalars_of}
use Rattle.row_types.specs.Cells as found
use Rattle.rel_algebra.specs.Endings.{value_at}
use Rattle.plan_scalars.specs.Sights.{sight_of, chained_cell}
use Rattle.plan_rows.proofs.Laws.{same_cell}

-- nested words are their operators, one after another
pub chained_is : (first : Scalar) (ls : List Link) (s : Sight) →
    cell_of (chained first ls) s ≡ chained_cell (cell_of first s) ls s
chained_is first [] s = refl
chained_is first (l ∷ ls) s = chained_is _ ls s

case_past : (a b : Cell) (cs : List Cell) (v : Value) → a ≡ Val v → is_true v ≡ false →
    case_cell (a ∷ b ∷ cs) ≡ case_cell cs
case_past a b cs v h n = rw h (rw n refl)

case_suc : (xs : List ScalarCode) (i : ℕ) (x : ScalarCode) (s : Sight) (v : Value) →
    i + 2 ≤ length xs → x ≡ slice_index_or xs i x → cell_of (scalar_of x) s ≡ Val v →
    is_true v ≡ false →
    case_cell (cells_of (scalars_of (drop (suc (suc i)) xs)) s) ≡ case_cell
    (cells_of (scalars_of (drop i xs)) s)
case_suc [] i x s v l h e n = absurd (omega (arith, l))
case_suc (a ∷ []) zero x s v l h e n = absurd (omega (arith, l))
case_suc (a ∷ b ∷ xs) zero x s v l h e n = sym
    (case_past _ _ _ v (ap (λ y. cell_of (scalar_of y) s) (sym h) ∙ e) n)
case_suc (a ∷ xs) (suc i) x s v l h e n = case_suc xs i x s v (omega (arith, l)) h e n

-- a test that isn't true is passed with its result
pub case_more : (xs : List ScalarCode) (i : ℕ) (x : ScalarCode) (s : Sight) (v : Value) →
    i + 2 ≤ length xs → x ≡ slice_index_or xs i x → cell_of (scalar_of x) s ≡ Val v →
    is_true v ≡ false →
    case_cell (cells_of (scalars_of (drop (i + 2) xs)) s) ≡ case_cell
    (cells_of (scalars_of (drop i xs)) s)
case_more xs i x s v l h e n =
    let two : i + 2 ≡ suc (suc i) = omega arith in
    ap (λ k. case_cell (cells_of (scalars_of (drop k xs)) s)) two ∙ case_suc xs i x s v l h e n

-- a chain in code is its first operand, and then its operators
pub chain_cell : (first : ScalarCode) (ls : List LinkCode) (s : Sight) →
    cell_of (scalar_of (Chain first ls)) s ≡ chained_cell (cell_of (scalar_of first) s)
    (map link_of ls) s
chain_cell first ls s =
    ap (λ x. cell_of (scalar_of x) s) (sym (rolls-Chain first ls))
    ∙ (ap (λ y. cell_of y s) (fold-roll-Scalar Scalar Link scalar_step link_step
    (Scalar-F.Chain first ls)) ∙ chained_is (scalar_of first) (map link_of ls) s)

-- a column of the row itself
pub column_is : (x : ScalarCode) (i : ℕ) (row : List Cell) (outer : List (List Cell))
    (args : List Value) → x ≡ Column 0 i → cell_of (scalar_of x) (sight_of row outer args) ≡
    found.cell_at row i
column_is x i row outer args h =
    let s = sight_of row outer args in
    ap (λ y. cell_of (scalar_of y) s) (h ∙ sym (rolls-Column 0 i))
    ∙ (ap (λ y. cell_of y s) (fold-roll-Scalar Scalar Link scalar_step link_step
    (Scalar-F.Column 0 i)) ∙ sym (same_cell row i))

-- an argument
pub argument_is : (x : ScalarCode) (i : ℕ) (row : List Cell) (outer : List (List Cell))
    (args : List Value) → x ≡ Argument i → cell_of (scalar_of x) (sight_of row outer args) ≡
    Val (value_at args i)
argument_is x i row outer args h =
    let s = sight_of row outer args in
    ap (λ y. cell_of (scalar_of y) s) (h ∙ sym (rolls-Argument i)) ∙
    ap (λ y. cell_of y s) (fold-roll-Scalar Scalar Link scalar_step link_step
    (Scalar-F.Argument i))
