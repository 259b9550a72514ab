-- The types of parameters that are made of their modes and their types.
use Rattle.std.proofs.Common.{◌≡◌, ◌∷◌, [], List, refl, sym, ap, ◌∙◌}
use Rattle.sql_values.specs.declared.value.SqlType.{SqlType}
use Rattle.catalog_store.specs.declared.entry.ParameterMode.{ParameterMode}
use Rattle.routine_views.specs.Views.{types_of}
use Rattle.routine_views.specs.Routines.{with_modes}
use Rattle.run_places.specs.declared.place.RoutineBody.{RoutineBody}
use Rattle.run_places.specs.Places.{parameters_in}

pub types_with : (ms : List ParameterMode) (ts : List SqlType) → types_of (with_modes ms ts) ≡ ts
types_with ms [] = refl
types_with [] (t ∷ ts) = ap (λ (us : List SqlType). t ∷ us) (types_with [] ts)
types_with (m ∷ ms) (t ∷ ts) = ap (λ (us : List SqlType). t ∷ us) (types_with ms ts)

-- the types of the parameters of this routine
pub types_in : (r s : RoutineBody) (ms : List ParameterMode) (ts us : List SqlType) → r ≡ s →
    parameters_in s ≡ with_modes ms ts → us ≡ ts → us ≡ types_of (parameters_in r)
types_in r s ms ts us is made same =
    same ∙ sym (ap (λ (q : RoutineBody). types_of (parameters_in q)) is ∙ ap types_of made ∙
    types_with ms ts)

-- the parameters of this routine by their modes and their types
pub modes_in : (r s : RoutineBody) (ms : List ParameterMode) (ts : List SqlType) → r ≡ s →
    parameters_in s ≡ with_modes ms ts →
    with_modes ms (types_of (parameters_in r)) ≡ parameters_in r
modes_in r s ms ts is made =
    let all : parameters_in r ≡ with_modes ms ts =
    ap (λ (q : RoutineBody). parameters_in q) is ∙ made in
    ap (λ us. with_modes ms us) (ap types_of all ∙ types_with ms ts) ∙ sym all
