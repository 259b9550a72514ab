-- The tests and results of a CASE.
use Rattle.std.proofs.Common.{◌≡◌, ℕ, zero, suc, ◌+◌, ◌<◌, ◌≤◌, true, false, Bool, List, [], ◌∷◌}
use Rattle.std.proofs.Common.{length, drop, slice_index_or, Some, refl, sym, ap, ◌∙◌, arith}
use Rattle.sql_values.specs.Values.{is_true}
use Rattle.row_types.specs.declared.cell.Cell.{Cell}
use Rattle.row_types.specs.declared.cell.Cell.TheVariants.{Val, Cond}
use Rattle.rel_algebra.specs.declared.condition_word.ConditionWord.{ConditionWord}
use Rattle.rel_algebra.specs.declared.scalar.Scalar.{Scalar}
use Rattle.rel_algebra.specs.declared.scalar.Scalar.TheVariants.{OnCondition, rolls-OnCondition}
use Rattle.rel_algebra.specs.declared.scalar.Scalar.TheOpen.{Scalar-F}
use Rattle.rel_algebra.specs.declared.scalar.Scalar.TheFolds.{fold-roll-Scalar}
use Rattle.rel_algebra.specs.OnConditions.{condition_cell}
use Rattle.rel_algebra.specs.Plan.{Scalar as PlainScalar}
use Rattle.rel_algebra.specs.PlanView.{Link, link_step, scalar_step}
use Rattle.rel_algebra.specs.WordView.{condition_word}
use Rattle.rel_algebra.specs.Plan.{Sight, case_cell, cell_of, cells_of}
use Rattle.rel_algebra.specs.PlanView.{scalar_of, scalars_of}
use Rattle.region_steps.specs.Truths.{truth_of}

some_is : (a b : Bool) → Some a ≡ Some b → a ≡ b
some_is a b h = cc

-- a test that isn't true is passed with its result
pub test_past : (a b : Cell) (cs : List Cell) → truth_of a ≡ Some false →
    case_cell (a ∷ b ∷ cs) ≡ case_cell cs
test_past (Val v) b cs h = rw (some_is (is_true v) false h) refl
test_past (Cond area) b cs h = cc

-- after one that is true stands the result
pub test_met : (a b : Cell) (cs : List Cell) → truth_of a ≡ Some true → case_cell (a ∷ b ∷ cs) ≡ b
test_met (Val v) b cs h = rw (some_is (is_true v) true h) refl
test_met (Cond area) b cs h = cc

case_suc : (xs : List Scalar) (i : ℕ) (x : Scalar) (s : Sight) → i + 2 ≤ length xs →
    x ≡ slice_index_or xs i x → truth_of (cell_of (scalar_of x) s) ≡ Some false →
    case_cell (cells_of (scalars_of (drop (suc (suc i)) xs)) s) ≡ case_cell
    (cells_of (scalars_of (drop i xs)) s)
case_suc [] i x s l h e = absurd (omega (arith, l))
case_suc (a ∷ []) zero x s l h e = absurd (omega (arith, l))
case_suc (a ∷ b ∷ xs) zero x s l h e = sym
    (test_past _ _ _ (ap (λ y. truth_of (cell_of (scalar_of y) s)) (sym h) ∙ e))
case_suc (a ∷ xs) (suc i) x s l h e = case_suc xs i x s (omega (arith, l)) h e

pub case_more : (xs : List Scalar) (i : ℕ) (x : Scalar) (s : Sight) → i + 2 ≤ length xs →
    x ≡ slice_index_or xs i x → truth_of (cell_of (scalar_of x) s) ≡ Some false →
    case_cell (cells_of (scalars_of (drop (i + 2) xs)) s) ≡ case_cell
    (cells_of (scalars_of (drop i xs)) s)
case_more xs i x s l h e =
    let two : i + 2 ≡ suc (suc i) = omega arith in
    ap (λ k. case_cell (cells_of (scalars_of (drop k xs)) s)) two ∙ case_suc xs i x s l h e

case_met_suc : (xs : List Scalar) (i : ℕ) (x y : Scalar) (s : Sight) → i + 2 ≤ length xs →
    x ≡ slice_index_or xs i x → y ≡ slice_index_or xs (suc i) y →
    truth_of (cell_of (scalar_of x) s) ≡ Some true →
    cell_of (scalar_of y) s ≡ case_cell (cells_of (scalars_of (drop i xs)) s)
case_met_suc [] i x y s l h k e = absurd (omega (arith, l))
case_met_suc (a ∷ []) zero x y s l h k e = absurd (omega (arith, l))
case_met_suc (a ∷ b ∷ xs) zero x y s l h k e =
    ap (λ z. cell_of (scalar_of z) s) k ∙ sym
    (test_met _ _ _ (ap (λ z. truth_of (cell_of (scalar_of z) s)) (sym h) ∙ e))
case_met_suc (a ∷ xs) (suc i) x y s l h k e = case_met_suc xs i x y s (omega (arith, l)) h k e

pub case_met : (xs : List Scalar) (i : ℕ) (x y : Scalar) (s : Sight) → i + 2 ≤ length xs →
    x ≡ slice_index_or xs i x → y ≡ slice_index_or xs (i + 1) y →
    truth_of (cell_of (scalar_of x) s) ≡ Some true →
    cell_of (scalar_of y) s ≡ case_cell (cells_of (scalars_of (drop i xs)) s)
case_met xs i x y s l h k e =
    let one : i + 1 ≡ suc i = omega arith in
    case_met_suc xs i x y s l h (k ∙ ap (λ n. slice_index_or xs n y) one) e

-- what is left when no test is
pub case_last : (xs : List Scalar) (i : ℕ) (x : Scalar) (s : Sight) → i < length xs →
    length xs ≤ i + 1 → x ≡ slice_index_or xs i x →
    cell_of (scalar_of x) s ≡ case_cell (cells_of (scalars_of (drop i xs)) s)
case_last [] i x s l m h = absurd (omega (arith, l))
case_last (a ∷ []) zero x s l m h = ap (λ z. cell_of (scalar_of z) s) h
case_last (a ∷ b ∷ xs) zero x s l m h = absurd (omega (arith, m))
case_last (a ∷ xs) (suc i) x s l m h = case_last xs i x s (omega (arith, l)) (omega (arith, m)) h

-- a word over cells that may be conditions
pub word_is : (x : Scalar) (w : ConditionWord) (ops : List Scalar) (s : Sight) →
    x ≡ OnCondition w ops → cell_of (scalar_of x) s ≡ condition_cell (condition_word w)
    (cells_of (scalars_of ops) s)
word_is x w ops s h =
    ap (λ y. cell_of (scalar_of y) s) (h ∙ sym (rolls-OnCondition w ops)) ∙
    ap (λ y. cell_of y s) (fold-roll-Scalar PlainScalar Link scalar_step link_step
    (Scalar-F.OnCondition w ops))
