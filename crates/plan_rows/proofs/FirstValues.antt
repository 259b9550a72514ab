-- The first values of rows.
use Rattle.std.proofs.Common.{◌≡◌, ℕ, ◌+◌, ◌<◌, Bool, true, false, if◌then◌else◌, List, [], ◌∷◌}
use Rattle.std.proofs.Common.{length, drop, slice_get, slice_index_or, Some, None, refl, sym, ap}
use Rattle.std.proofs.Common.{◌∙◌}
use Rattle.std.proofs.lemmas.List.{drop_more}
use Rattle.sql_values.specs.declared.value.Value.{Value}
use Rattle.sql_values.specs.declared.value.Value.TheVariants.{Null}
use Rattle.sql_values.specs.Values.{is_null, is_true}
use Rattle.row_types.specs.Rows.{Row}
use Rattle.row_types.specs.Groups.{value_at, values_of_column}
use Rattle.rel_algebra.specs.Endings.{among, equal_values}

-- ---- the first value of a row

pub first_some : (row : Row) (v : Value) → slice_get row 0 ≡ Some v → value_at row 0 ≡ v
first_some [] v h = cc
first_some (u ∷ row) v h = cc

pub first_none : (row : Row) → slice_get row 0 ≡ None → value_at row 0 ≡ Null
first_none [] h = refl
first_none (u ∷ row) h = cc

at_place : (rows : List Row) (i : ℕ) (row : Row) → i < length rows →
    row ≡ slice_index_or rows i row → drop i rows ≡ row ∷ drop (i + 1) rows
at_place rows i row l h = drop_more rows i row l ∙ ap (λ r. r ∷ drop (i + 1) rows) (sym h)

-- ---- among the first values of rows

module _ (x : Value) (rows : List Row) (i : ℕ) (row : Row) (l : i < length rows)
    (h : row ≡ slice_index_or rows i row) (c so_far whole : Value)
    (e : c ≡ equal_values x (value_at row 0))
    (k : among so_far x (values_of_column 0 (drop i rows)) ≡ whole) where
  opened : (if is_true c then c else among (if is_null c then c else so_far) x
      (values_of_column 0 (drop (i + 1) rows))) ≡ whole
  opened =
      ap (λ d. if is_true d then d else among (if is_null d then d else so_far) x
      (values_of_column 0 (drop (i + 1) rows))) e
      ∙ (ap (λ rs. among so_far x (values_of_column 0 rs)) (sym (at_place rows i row l h)) ∙ k)

  pub among_found : is_true c ≡ true → c ≡ whole
  among_found t = ap (λ b. if b then c else among (if is_null c then c else so_far) x
      (values_of_column 0 (drop (i + 1) rows))) (sym t) ∙ opened

  among_next : (b : Bool) → is_true c ≡ false → is_null c ≡ b →
      among (if b then c else so_far) x (values_of_column 0 (drop (i + 1) rows)) ≡ whole
  among_next b t n =
      ap (λ d. among (if d then c else so_far) x (values_of_column 0 (drop (i + 1) rows))) (sym n)
      ∙ (ap (λ d. if d then c else among (if is_null c then c else so_far) x
      (values_of_column 0 (drop (i + 1) rows))) (sym t) ∙ opened)

  pub among_unknown : is_true c ≡ false → is_null c ≡ true →
      among c x (values_of_column 0 (drop (i + 1) rows)) ≡ whole
  among_unknown t n = among_next true t n

  pub among_further : is_true c ≡ false → is_null c ≡ false →
      among so_far x (values_of_column 0 (drop (i + 1) rows)) ≡ whole
  among_further t n = among_next false t n
