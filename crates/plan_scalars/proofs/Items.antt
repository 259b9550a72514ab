-- A value among scalars that are values in place, one more of which is compared.
use Rattle.std.proofs.Common.{◌≡◌, ℕ, ◌+◌, ◌<◌, true, false, List, [], ◌∷◌, length, drop}
use Rattle.std.proofs.Common.{slice_index_or, Ok, refl, sym, ap, ◌∙◌}
use Rattle.std.proofs.lemmas.List.{drop_more}
use Rattle.sql_values.specs.declared.value.Value.{Value}
use Rattle.three_valued.specs.declared.truth.Truth.{Truth}
use Rattle.three_valued.specs.Truths.{disjunction}
use Rattle.row_types.specs.declared.cell.Cell.{Cell}
use Rattle.row_types.specs.declared.cell.Cell.TheVariants.{Val, Cond}
use Rattle.rel_algebra.specs.declared.scalar.Scalar.{Scalar}
use Rattle.rel_algebra.specs.Endings.{after}
use Rattle.rel_algebra.specs.Plan.{Sight, cell_of, cells_of, values_of}
use Rattle.rel_algebra.specs.PlanView.{scalar_of, scalars_of}
use Rattle.plan_rows.proofs.Laws.{item_passed, or_all}
use Rattle.plan_scalars.specs.Among.{IsEqualTo}

cell_compared : (c : Cell) (x : Value) (t u : Truth) (cs : List Cell) → IsEqualTo u x c →
    after (values_of (c ∷ cs)) (λ vs. Ok (or_all t x vs)) ≡ after (values_of cs)
    (λ vs. Ok (or_all (disjunction t u) x vs))
cell_compared (Val v) x t u cs h =
    item_passed (Val v) x v t cs refl ∙ ap (λ w. after (values_of cs)
    (λ vs. Ok (or_all (disjunction t w) x vs))) (sym h)
cell_compared (Cond a) x t u cs h = cc

-- one scalar more was compared
pub one_compared : (list : List Scalar) (i : ℕ) (item : Scalar) (s : Sight) (x : Value)
    (t u new : Truth) → i < length list → item ≡ slice_index_or list i item →
    IsEqualTo u x (cell_of (scalar_of item) s) → new ≡ disjunction t u →
    after (values_of (cells_of (scalars_of (drop (i + 1) list)) s)) (λ vs. Ok (or_all new x vs)) ≡
    after (values_of (cells_of (scalars_of (drop i list)) s)) (λ vs. Ok (or_all t x vs))
one_compared list i item s x t u new l h e n =
    let there : drop i list ≡ item ∷ drop (i + 1) list = drop_more list i item l ∙
    ap (λ y. y ∷ drop (i + 1) list) (sym h) in
    ap (λ w. after (values_of (cells_of (scalars_of (drop (i + 1) list)) s))
    (λ vs. Ok (or_all w x vs))) n
    ∙ (sym (cell_compared (cell_of (scalar_of item) s) x t u
    (cells_of (scalars_of (drop (i + 1) list)) s) e)
    ∙ ap (λ xs. after (values_of (cells_of (scalars_of xs) s)) (λ vs. Ok (or_all t x vs)))
    (sym there))
