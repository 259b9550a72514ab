-- Words over cells that may be conditions, of no operand and of more than two.
use Rattle.std.proofs.Common.{◌≡◌, ◌≤◌, List, [], ◌∷◌, length, refl, arith}
use Rattle.sql_values.specs.declared.value.Value.TheVariants.{Null}
use Rattle.row_types.specs.declared.cell.Cell.{Cell}
use Rattle.row_types.specs.declared.cell.Cell.TheVariants.{Val}
use Rattle.rel_algebra.specs.declared.scalar.Scalar.{Scalar}
use Rattle.rel_algebra.specs.OnConditions.{ConditionWord, catch_word, class_word, condition_cell}
use Rattle.rel_algebra.specs.OnConditions.{item_word, matches_word, number_word, push_word}
use Rattle.rel_algebra.specs.OnConditions.{raise_word, retext_word}
use Rattle.rel_algebra.specs.Plan.{Sight, cells_of}
use Rattle.rel_algebra.specs.PlanView.{scalars_of}

-- no word is one of none
pub no_operand : (w : ConditionWord) → condition_cell w [] ≡ Val Null
no_operand catch_word = refl
no_operand (matches_word v) = refl
no_operand (class_word class) = refl
no_operand number_word = refl
no_operand (item_word item) = refl
no_operand (push_word state) = refl
no_operand retext_word = refl
no_operand raise_word = refl

-- none is one of three or more
many_cells : (w : ConditionWord) (a b c : Cell) (cs : List Cell) →
    condition_cell w (a ∷ b ∷ c ∷ cs) ≡ Val Null
many_cells catch_word a b c cs = refl
many_cells (matches_word v) a b c cs = refl
many_cells (class_word class) a b c cs = refl
many_cells number_word a b c cs = refl
many_cells (item_word item) a b c cs = refl
many_cells (push_word state) a b c cs = refl
many_cells retext_word a b c cs = refl
many_cells raise_word a b c cs = refl

-- the same by scalars
pub many_operands : (w : ConditionWord) (ss : List Scalar) (s : Sight) → 3 ≤ length ss →
    condition_cell w (cells_of (scalars_of ss) s) ≡ Val Null
many_operands w [] s l = absurd (omega (arith, l))
many_operands w (a ∷ []) s l = absurd (omega (arith, l))
many_operands w (a ∷ b ∷ []) s l = absurd (omega (arith, l))
many_operands w (a ∷ b ∷ c ∷ ss) s l = many_cells w _ _ _ _
