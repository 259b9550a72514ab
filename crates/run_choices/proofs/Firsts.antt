-- The first value of a row.
use Rattle.std.proofs.Common.{◌≡◌, [], ◌∷◌, Option, Some, None, slice_get, refl, ap, ◌∙◌}
use Rattle.sql_values.specs.declared.value.Value.{Value}
use Rattle.sql_values.specs.declared.value.Value.TheVariants.{Null}
use Rattle.row_types.specs.Rows.{Row}
use Rattle.row_types.specs.Groups.{value_at}

abbrev or_null : Option Value → Value
or_null None = Null
or_null (Some v) = v

first_is : (r : Row) → or_null (slice_get r 0) ≡ value_at r 0
first_is [] = refl
first_is (v ∷ vs) = refl

pub first_there : (r : Row) (v : Value) → Some v ≡ slice_get r 0 → v ≡ value_at r 0
first_there r v h = ap or_null h ∙ first_is r

pub none_there : (r : Row) → None ≡ slice_get r 0 → Null ≡ value_at r 0
none_there r h = ap or_null h ∙ first_is r
