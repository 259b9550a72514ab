-- The values of OUT and INOUT parameters, one after another.
use Rattle.std.proofs.Common.{◌≡◌, ℕ, zero, suc, ◌+◌, ◌<◌, List, [], ◌∷◌, ◌++◌, length, drop}
use Rattle.std.proofs.Common.{refl, sym, ap, ◌∙◌, arith, Bool, true, false, Option, Some, None}
use Rattle.std.proofs.Common.{cond, slice_get, append_assoc, append-nil, add-one}
use Rattle.std.proofs.Math.Seq.{drop-nil}
use Rattle.sql_values.specs.declared.value.Value.{Value}
use Rattle.sql_values.specs.declared.value.Value.TheVariants.{Null}
use Rattle.sql_values.specs.declared.value.SqlType.{SqlType}
use Rattle.catalog_store.specs.declared.entry.ParameterMode.{ParameterMode}
use Rattle.catalog_store.specs.declared.entry.ParameterMode.TheVariants.{In, Out, Inout}
use Rattle.rel_algebra.specs.Tree.{Parameter}
use Rattle.rel_algebra.specs.Calls.{outs_of}
use Rattle.routine_views.specs.Routines.{with_modes}
use Rattle.run_outcomes.specs.Outcomes.{goes_back_at}

-- the values of the parameters from a place on
abbrev outs_from : List ParameterMode → List SqlType → List Value → ℕ → List Value
outs_from ms ts vs i = outs_of (with_modes (drop i ms) (drop i ts)) (drop i vs)

abbrev or_null : Option Value → Value
or_null None = Null
or_null (Some v) = v

mode_none : (i : ℕ) → goes_back_at [] i ≡ false
mode_none zero = refl
mode_none (suc i) = refl

-- the next value, where it goes back
one_out : (ms : List ParameterMode) (ts : List SqlType) (vs : List Value) (i : ℕ) (v : Value) →
    i < length ts → slice_get vs i ≡ Some v →
    outs_from ms ts vs i
    ≡ cond (goes_back_at ms i) (v ∷ outs_from ms ts vs (suc i)) (outs_from ms ts vs (suc i))
one_out ms [] vs i v h e = absurd (omega (arith, h))
one_out ms (t ∷ ts) [] i v h e = absurd cc
one_out [] (t ∷ ts) (x ∷ vs) zero v h e = refl
one_out (In ∷ ms) (t ∷ ts) (x ∷ vs) zero v h e = refl
one_out (Out ∷ ms) (t ∷ ts) (x ∷ vs) zero v h e =
    ap (λ y. or_null y ∷ outs_of (with_modes ms ts) vs) e
one_out (Inout ∷ ms) (t ∷ ts) (x ∷ vs) zero v h e =
    ap (λ y. or_null y ∷ outs_of (with_modes ms ts) vs) e
one_out [] (t ∷ ts) (x ∷ vs) (suc i) v h e =
    ap (λ ms. outs_of (with_modes ms (drop i ts)) (drop i vs)) (sym (drop-nil i))
    ∙ one_out [] ts vs i v (omega (arith, h)) e
    ∙ ap (λ b. cond b (v ∷ outs_from [] ts vs (suc i)) (outs_from [] ts vs (suc i))) (mode_none i)
one_out (m ∷ ms) (t ∷ ts) (x ∷ vs) (suc i) v h e = one_out ms ts vs i v (omega (arith, h)) e

by_mode : (b : Bool) (given : List Value) (v : Value) (others : List Value) →
    cond b (given ++ v ∷ []) given ++ others ≡ given ++ cond b (v ∷ others) others
by_mode true given v others = append_assoc given (v ∷ []) others
by_mode false given v others = refl

-- a value that goes back or not, and those after it
pub one_given : (given : List Value) (ms : List ParameterMode) (ts : List SqlType)
    (vs : List Value) (i : ℕ) (v : Value) → i < length ts → slice_get vs i ≡ Some v →
    cond (goes_back_at ms i) (given ++ v ∷ []) given
    ++ outs_of (with_modes (drop (i + 1) ms) (drop (i + 1) ts)) (drop (i + 1) vs)
    ≡ given ++ outs_of (with_modes (drop i ms) (drop i ts)) (drop i vs)
one_given given ms ts vs i v h e =
    ap (λ n. cond (goes_back_at ms i) (given ++ v ∷ []) given ++ outs_from ms ts vs n) (add-one i)
    ∙ by_mode (goes_back_at ms i) given v (outs_from ms ts vs (suc i))
    ∙ ap (λ os. given ++ os) (sym (one_out ms ts vs i v h e))

no_out : (ps : List Parameter) (vs : List Value) (i : ℕ) → slice_get vs i ≡ None →
    outs_of ps (drop i vs) ≡ []
no_out [] vs i e = refl
no_out (p ∷ ps) [] i e = ap (outs_of (p ∷ ps)) (drop-nil i)
no_out (p ∷ ps) (v ∷ vs) zero e = absurd cc
no_out (p ∷ ps) (v ∷ vs) (suc i) e = no_out (p ∷ ps) vs i e

-- no value is left
pub ended : (given : List Value) (ms : List ParameterMode) (ts : List SqlType)
    (vs : List Value) (i : ℕ) → slice_get vs i ≡ None →
    given ++ outs_of (with_modes (drop i ms) (drop i ts)) (drop i vs) ≡ given
ended given ms ts vs i e =
    ap (λ os. given ++ os) (no_out (with_modes (drop i ms) (drop i ts)) vs i e) ∙ append-nil given
