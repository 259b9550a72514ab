-- The order of rows by some of their columns is total.
use Rattle.std.proofs.Common.{ℕ, Bool, true, false, List, [], ◌∷◌, refl, cond, get_or}
use Rattle.std.proofs.lemmas.Cmp.{on_total, then_total, back_total}
use Rattle.std.specs.Cmp.{IsTotalOrder}
use Rattle.sql_values.specs.declared.value.Value.TheVariants.{Null}
use Rattle.row_types.specs.Rows.{Row, value_cmp}
use Rattle.row_types.specs.Sorting.{key_cmp, keys_cmp}
use Rattle.row_types.specs.declared.sort_key.SortKey.{SortKey}
use Rattle.row_types.proofs.Laws.{value_cmp_total}

by_place : (place : ℕ) (descending : Bool) → IsTotalOrder
    (λ (a b : Row). cond descending (value_cmp (get_or b place Null) (get_or a place Null))
    (value_cmp (get_or a place Null) (get_or b place Null)))
by_place place true = on_total (λ (row : Row). get_or row place Null) (back_total value_cmp_total)
by_place place false = on_total (λ (row : Row). get_or row place Null) value_cmp_total

pub key_cmp_total : (key : SortKey) → IsTotalOrder (key_cmp key)
key_cmp_total key = by_place key.place key.descending

pub keys_cmp_total : (keys : List SortKey) → IsTotalOrder (keys_cmp keys)
keys_cmp_total [] = record {
  antisymm = λ a b. refl;
  trans = λ a b c h k. h;
  congr =
      λ a b c h. refl;
}
keys_cmp_total (key ∷ keys) = then_total (key_cmp_total key) (keys_cmp_total keys)
