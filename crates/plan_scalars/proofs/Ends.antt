-- Values found one by one, and what comes of those that are left.
use Rattle.std.proofs.Common.{◌≡◌, List, [], ◌∷◌, ◌++◌, Ok, Err, refl, ap}
use Rattle.sql_values.specs.declared.value.Value.{Value}
use Rattle.sql_conditions.specs.Conditions.{Area}
use Rattle.rel_algebra.specs.Endings.{Ending, after}

-- more values in front, where there are values
abbrev pub with_values : List Value → Ending (List Value) → Ending (List Value)
with_values [] end = end
with_values (v ∷ vs) end = after (with_values vs end) (λ ws. Ok (v ∷ ws))

pub with_values_push : (vs : List Value) (v : Value) (end : Ending (List Value)) →
    with_values (vs ++ v ∷ []) end ≡ with_values vs (after end (λ ws. Ok (v ∷ ws)))
with_values_push [] v end = refl
with_values_push (x ∷ vs) v end = ap (λ e. after e (λ ws. Ok (x ∷ ws))) (with_values_push vs v end)

pub with_values_ok : (vs ws : List Value) → with_values vs (Ok ws) ≡ Ok (vs ++ ws)
with_values_ok [] ws = refl
with_values_ok (v ∷ vs) ws = ap (λ e. after e (λ us. Ok (v ∷ us))) (with_values_ok vs ws)

pub with_values_err : (vs : List Value) (area : Area) → with_values vs (Err area) ≡ Err area
with_values_err [] area = refl
with_values_err (v ∷ vs) area = ap (λ e. after e (λ us. Ok (v ∷ us))) (with_values_err vs area)
