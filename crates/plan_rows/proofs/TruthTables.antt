-- AND, OR and NOT, operand by operand, are the truth tables.
use Rattle.std.proofs.Common.{◌≡◌, ◌≢◌, true, false, List, [], ◌∷◌, Ok, refl}
use Rattle.sql_values.specs.declared.value.Value.{Value}
use Rattle.sql_values.specs.declared.value.Value.TheVariants.{Null, Int, Str, Bool as TruthValue}
use Rattle.three_valued.specs.declared.truth.Truth.{Truth}
use Rattle.three_valued.specs.declared.truth.Truth.TheVariants.{True, False, Unknown}
use Rattle.three_valued.specs.Truths.{conjunction, disjunction, negation, truth_of_value}
use Rattle.three_valued.specs.Truths.{value_of_truth}
use Rattle.row_types.specs.declared.cell.Cell.{Cell}
use Rattle.row_types.specs.declared.cell.Cell.TheVariants.{Val}
use Rattle.rel_algebra.specs.Tree.{Opposite}
use Rattle.rel_algebra.specs.Endings.{op_value}
use Rattle.rel_algebra.specs.Plan.{and_cell, or_cell}

-- NOT is its table
pub opposite_is : (v : Value) → op_value Opposite (v ∷ []) ≡
    Ok (value_of_truth (negation (truth_of_value v)))
opposite_is Null = refl
opposite_is (Int z) = refl
opposite_is (Str s) = refl
opposite_is (TruthValue true) = refl
opposite_is (TruthValue false) = refl

-- AND is decided by an operand that makes it false
pub and_decided : (t : Truth) (v : Value) (cs : List Cell) → t ≢ False →
    conjunction t (truth_of_value v) ≡ False →
    and_cell (value_of_truth t) (Val v ∷ cs) ≡ Val (TruthValue false)
and_decided False v cs n h = absurd (n refl)
and_decided True (TruthValue false) cs n h = refl
and_decided True (TruthValue true) cs n h = cc
and_decided True Null cs n h = cc
and_decided True (Int z) cs n h = cc
and_decided True (Str s) cs n h = cc
and_decided Unknown (TruthValue false) cs n h = refl
and_decided Unknown (TruthValue true) cs n h = cc
and_decided Unknown Null cs n h = cc
and_decided Unknown (Int z) cs n h = cc
and_decided Unknown (Str s) cs n h = cc

-- else it goes on with what its table gives
pub and_open : (t : Truth) (v : Value) (cs : List Cell) → conjunction t (truth_of_value v) ≢ False →
    and_cell (value_of_truth (conjunction t (truth_of_value v))) cs ≡ and_cell (value_of_truth t)
    (Val v ∷ cs)
and_open True (TruthValue false) cs n = absurd (n refl)
and_open True (TruthValue true) cs n = refl
and_open True Null cs n = refl
and_open True (Int z) cs n = refl
and_open True (Str s) cs n = refl
and_open False (TruthValue false) cs n = absurd (n refl)
and_open False (TruthValue true) cs n = absurd (n refl)
and_open False Null cs n = absurd (n refl)
and_open False (Int z) cs n = absurd (n refl)
and_open False (Str s) cs n = absurd (n refl)
and_open Unknown (TruthValue false) cs n = absurd (n refl)
and_open Unknown (TruthValue true) cs n = refl
and_open Unknown Null cs n = refl
and_open Unknown (Int z) cs n = refl
and_open Unknown (Str s) cs n = refl

-- OR is decided by an operand that makes it true
pub or_decided : (t : Truth) (v : Value) (cs : List Cell) → t ≢ True →
    disjunction t (truth_of_value v) ≡ True →
    or_cell (value_of_truth t) (Val v ∷ cs) ≡ Val (TruthValue true)
or_decided True v cs n h = absurd (n refl)
or_decided False (TruthValue true) cs n h = refl
or_decided False (TruthValue false) cs n h = cc
or_decided False Null cs n h = cc
or_decided False (Int z) cs n h = cc
or_decided False (Str s) cs n h = cc
or_decided Unknown (TruthValue true) cs n h = refl
or_decided Unknown (TruthValue false) cs n h = cc
or_decided Unknown Null cs n h = cc
or_decided Unknown (Int z) cs n h = cc
or_decided Unknown (Str s) cs n h = cc

-- else it goes on with what its table gives
pub or_open : (t : Truth) (v : Value) (cs : List Cell) → disjunction t (truth_of_value v) ≢ True →
    or_cell (value_of_truth (disjunction t (truth_of_value v))) cs ≡ or_cell (value_of_truth t)
    (Val v ∷ cs)
or_open False (TruthValue true) cs n = absurd (n refl)
or_open False (TruthValue false) cs n = refl
or_open False Null cs n = refl
or_open False (Int z) cs n = refl
or_open False (Str s) cs n = refl
or_open True (TruthValue false) cs n = absurd (n refl)
or_open True (TruthValue true) cs n = absurd (n refl)
or_open True Null cs n = absurd (n refl)
or_open True (Int z) cs n = absurd (n refl)
or_open True (Str s) cs n = absurd (n refl)
or_open Unknown (TruthValue true) cs n = absurd (n refl)
or_open Unknown (TruthValue false) cs n = refl
or_open Unknown Null cs n = refl
or_open Unknown (Int z) cs n = refl
or_open Unknown (Str s) cs n = refl
