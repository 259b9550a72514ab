-- A number in a cell that is compared with another.
use Rattle.std.proofs.Common.{◌≡◌, ◌≢◌, false, List, [], ◌∷◌, Some, refl, ap, ◌∙◌, ℤ}
use Rattle.std.specs.Ordering.{int_cmp}
use Rattle.std.specs.declared.cmp.Ordering.{Ordering}
use Rattle.std.specs.declared.cmp.Ordering.TheVariants.{Less, Equal, Greater}
use Rattle.std.proofs.lemmas.Map.Lookups.{exact_signed}
use Rattle.sql_values.specs.declared.value.Value.TheVariants.{Int}
use Rattle.sql_values.specs.declared.operators.Comparison.TheVariants.{Equals}
use Rattle.sql_values.specs.Operators.{allows}
use Rattle.row_types.specs.declared.cell.Cell.{Cell}
use Rattle.row_types.specs.declared.cell.Cell.TheVariants.{Val}
use Rattle.rel_algebra.specs.Endings.{op_value}
use Rattle.rel_algebra.specs.Plan.{cell_at, strictly}
use Rattle.rel_algebra.specs.Tree.{Comparing}
use Rattle.region_steps.specs.Idle.{IsNotAt}
use Rattle.region_steps.specs.Truths.{truth_of}

unequal : (o : Ordering) → o ≢ Equal → allows Equals o ≡ false
unequal Less h = refl
unequal Equal h = absurd (h refl)
unequal Greater h = refl

another : (n code : ℤ) → n ≢ code →
    truth_of (strictly (op_value (Comparing Equals)) (Val (Int n) ∷ Val (Int code) ∷ [])) ≡
    Some false
another n code h = ap Some (unequal (int_cmp n code) (λ e. h (exact_signed n code e)))

-- the test of a number is false at another
pub not_equal : (x y : Cell) (code : ℤ) (row : List Cell) → x ≡ cell_at row 0 → y ≡ Val (Int code) →
    IsNotAt code row → truth_of (strictly (op_value (Comparing Equals)) (x ∷ y ∷ [])) ≡ Some false
not_equal x y code row e f n = rw (e ∙ n.1.0) (rw f (another n.0 code n.1.1))
