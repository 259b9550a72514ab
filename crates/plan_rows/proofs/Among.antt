-- IN is the OR of the comparisons; and what a loop over scalars in place keeps.
use Rattle.std.proofs.Common.{◌≡◌, ◌≢◌, ◌≤◌, ◌-◌, false, true, List, [], ◌∷◌, length, take, drop}
use Rattle.std.proofs.Common.{get_or, Option, Some, None, Ok, Err, refl, sym, ap, ◌∙◌, arith}
use Rattle.std.proofs.Common.{if◌then◌else◌}
use Rattle.std.proofs.lemmas.List.{take_all}
use Rattle.std.specs.declared.cmp.Ordering.{Ordering}
use Rattle.std.specs.declared.cmp.Ordering.TheVariants.{Less, Equal, Greater}
use Rattle.sql_values.specs.declared.value.Value.{Value}
use Rattle.sql_values.specs.declared.value.Value.TheVariants.{Bool as TruthValue}
use Rattle.sql_values.specs.declared.operators.Comparison.TheVariants.{Equals}
use Rattle.sql_values.specs.Values.{is_null, is_true, order_of}
use Rattle.sql_values.specs.Operators.{compared, truth_in}
use Rattle.three_valued.specs.declared.truth.Truth.{Truth}
use Rattle.three_valued.specs.declared.truth.Truth.TheVariants.{True, False, Unknown}
use Rattle.three_valued.specs.Truths.{disjunction, truth_of_value, value_of_truth}
use Rattle.row_types.specs.declared.cell.Cell.{Cell}
use Rattle.row_types.specs.declared.cell.Cell.TheVariants.{Val}
use Rattle.rel_algebra.specs.declared.scalar.Scalar.{Scalar}
use Rattle.rel_algebra.specs.Tree.{AnyOf}
use Rattle.rel_algebra.specs.Endings.{Ending, after, among, cell_end, op_value}
use Rattle.rel_algebra.specs.Plan.{Sight, cell_of, cells_of, strictly, values_of}
use Rattle.rel_algebra.specs.PlanView.{scalar_of, scalars_of}

-- the OR of a truth value and of the comparisons of a value with others
abbrev pub or_all : Truth → Value → List Value → Value
or_all t x [] = value_of_truth t
or_all t x (v ∷ vs) = or_all (disjunction t (truth_of_value (compared Equals x v))) x vs

true_stays : (t : Truth) → disjunction True t ≡ True
true_stays True = refl
true_stays False = refl
true_stays Unknown = refl

-- a true one decides it
pub or_all_true : (x : Value) (vs : List Value) → or_all True x vs ≡ TruthValue true
or_all_true x [] = refl
or_all_true x (v ∷ vs) = rw (true_stays (truth_of_value (compared Equals x v))) (or_all_true x vs)

-- whether a value is among others, once it is compared with the first of them
abbrev among_after : Value → Value → Value → List Value → Value
among_after c so_far x vs = if is_true c then c else among (if is_null c then c else so_far) x vs

among_once : (t : Truth) (o : Option Ordering) (x : Value) (vs : List Value) →
    ((u : Truth) → u ≢ True → among (value_of_truth u) x vs ≡ or_all u x vs) → t ≢ True →
    among_after (truth_in Equals o) (value_of_truth t) x vs ≡ or_all
    (disjunction t (truth_of_value (truth_in Equals o))) x vs
among_once True o x vs more n = absurd (n refl)
among_once False None x vs more n = more Unknown (λ e. cc)
among_once False (Some Less) x vs more n = more False n
among_once False (Some Equal) x vs more n = sym (or_all_true x vs)
among_once False (Some Greater) x vs more n = more False n
among_once Unknown None x vs more n = more Unknown n
among_once Unknown (Some Less) x vs more n = more Unknown n
among_once Unknown (Some Equal) x vs more n = sym (or_all_true x vs)
among_once Unknown (Some Greater) x vs more n = more Unknown n

among_from : (vs : List Value) (t : Truth) (x : Value) → t ≢ True →
    among (value_of_truth t) x vs ≡ or_all t x vs
among_from [] t x n = refl
among_from (v ∷ vs) t x n = among_once t (order_of x v) x vs (λ u m. among_from vs u x m) n

-- IN is the OR of the comparisons
pub among_is_or_all : (x : Value) (vs : List Value) →
    among (TruthValue false) x vs ≡ or_all False x vs
among_is_or_all x vs = among_from vs False x (λ e. cc)

passed : (r : Ending (List Value)) (x v : Value) (t : Truth) →
    after (after r (λ vs. Ok (v ∷ vs))) (λ vs. Ok (or_all t x vs)) ≡ after r
    (λ vs. Ok (or_all (disjunction t (truth_of_value (compared Equals x v))) x vs))
passed (Ok vs) x v t = refl
passed (Err area) x v t = refl

-- an item that is a value is passed with its comparison
pub item_passed : (c : Cell) (x v : Value) (t : Truth) (cs : List Cell) → c ≡ Val v →
    after (values_of (c ∷ cs)) (λ vs. Ok (or_all t x vs)) ≡ after (values_of cs)
    (λ vs. Ok (or_all (disjunction t (truth_of_value (compared Equals x v))) x vs))
item_passed c x v t cs h = rw h (passed (values_of cs) x v t)

-- what the loop comes to
pub or_all_ends : (r : Ending (List Value)) (x : Value) →
    after r (λ vs. Ok (or_all False x vs)) ≡ after r (λ vs. Ok (among (TruthValue false) x vs))
or_all_ends (Ok vs) x = ap Ok (sym (among_is_or_all x vs))
or_all_ends (Err area) x = refl

ended : (r : Ending (List Value)) (x w : Value) →
    Ok w ≡ after r (λ vs. Ok (among (TruthValue false) x vs)) →
    Val w ≡ cell_end (after (after r (λ vs. Ok (x ∷ vs))) (op_value AnyOf))
ended (Ok vs) x w h = cc
ended (Err area) x w h = cc

-- IN of scalars, the first of which is a value
pub among_operands : (operands : List Scalar) (first : Scalar) (x w : Value) (s : Sight) →
    1 ≤ length operands → first ≡ get_or operands 0 first → cell_of (scalar_of first) s ≡ Val x →
    Ok w ≡ after (values_of (cells_of (scalars_of (take (length operands - 1) (drop 1 operands)))
    s)) (λ vs. Ok (among (TruthValue false) x vs)) →
    Val w ≡ strictly (op_value AnyOf) (cells_of (scalars_of operands) s)
among_operands [] first x w s l e h g = absurd (omega (arith, l))
among_operands (o ∷ os) first x w s l e h g =
    let there : cell_of (scalar_of o) s ≡ Val x =
    ap (λ (y : Scalar). cell_of (scalar_of y) s) (sym e) ∙ h in
    let all : take (length (o ∷ os) - 1) os ≡ os =
    take_all (length (o ∷ os) - 1) os (omega arith) in
    rw there (ended (values_of (cells_of (scalars_of os) s)) x w (rw all at g))
