-- Values found one by one, and what comes of those that are left.
use Rattle.std.proofs.Common.{◌≡◌, List, [], ◌∷◌, ◌++◌, map, None, Result, Ok, Err, refl, ap}
use Rattle.sql_values.specs.declared.value.Value.{Value}
use Rattle.sql_conditions.specs.Conditions.{Area}
use Rattle.row_types.specs.declared.cell.Cell.TheVariants.{Val}
use Rattle.row_types.specs.Cells.{with_value, area_in, cells_end}

-- more values in front, where there are values
abbrev pub with_values : List Value → Result (List Value) Area → Result (List Value) Area
with_values [] end = end
with_values (v ∷ vs) end = with_value v (with_values vs end)

pub with_values_push : (vs : List Value) (v : Value) (end : Result (List Value) Area) →
    with_values (vs ++ v ∷ []) end ≡ with_values vs (with_value v end)
with_values_push [] v end = refl
with_values_push (x ∷ vs) v end = ap (with_value x) (with_values_push vs v end)

pub with_values_ok : (vs ws : List Value) → with_values vs (Ok ws) ≡ Ok (vs ++ ws)
with_values_ok [] ws = refl
with_values_ok (v ∷ vs) ws = ap (with_value v) (with_values_ok vs ws)

pub with_values_err : (vs : List Value) (area : Area) → with_values vs (Err area) ≡ Err area
with_values_err [] area = refl
with_values_err (v ∷ vs) area = ap (with_value v) (with_values_err vs area)

pub area_of_values : (vs : List Value) → area_in (map Val vs) ≡ None
area_of_values [] = refl
area_of_values (v ∷ vs) = area_of_values vs

pub end_of_values : (vs : List Value) → cells_end (map Val vs) ≡ Ok vs
end_of_values [] = refl
end_of_values (v ∷ vs) = ap (with_value v) (end_of_values vs)
