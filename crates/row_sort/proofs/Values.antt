-- Values at places, and NULL where there is none.
use Rattle.std.proofs.Common.{ℕ, zero, suc, ◌≡◌, ◌<◌, ◌≤◌, ◌+◌, Bool, true, List, [], ◌∷◌}
use Rattle.std.proofs.Common.{slice_get, None, arith, refl, sym, ap, ◌∙◌, length, get_or, drop}
use Rattle.std.proofs.Common.{◌&&◌}
use Rattle.std.proofs.lemmas.Bool.{and_parts}
use Rattle.std.proofs.lemmas.List.{drop_more}
use Rattle.std.proofs.lemmas.Option.{unwrap_or-slice_get}
use Rattle.std.specs.List.{list_all}
use Rattle.std.specs.Option.{unwrap_or}
use Rattle.sql_values.specs.declared.value.Value.TheVariants.{Null}
use Rattle.row_types.specs.Rows.{Row}
use Rattle.row_sort.specs.Places.{value_at}

-- nothing stands in no list
pub in_none : {X : Type 0} (k : ℕ) (d : X) → get_or [] k d ≡ d
in_none zero d = refl
in_none (suc k) d = refl

pub no_value : (row : Row) (place : ℕ) → None ≡ slice_get row place → Null ≡ get_or row place Null
no_value row place h = ap (λ o. unwrap_or o Null) h ∙ unwrap_or-slice_get row place Null

past : {X : Type 0} (xs : List X) (k : ℕ) (d : X) → length xs ≤ k → get_or xs k d ≡ d
past [] k d l = in_none k d
past (x ∷ xs) zero d l = absurd (omega arith)
past (x ∷ xs) (suc k) d l = past xs k d (omega arith)

pub no_row : (rows : List Row) (column place : ℕ) → length rows ≤ place →
    Null ≡ value_at rows column place
no_row rows column place l = sym (ap (λ (row : Row). get_or row column Null)
    (past rows place [] l) ∙ in_none column Null)

-- what all pass, one of them passes
pub at_one : {X : Type 0} (p : X → Bool) (xs : List X) (k : ℕ) (d : X) → p d ≡ true →
    list_all p xs ≡ true → p (get_or xs k d) ≡ true
at_one p [] k d h all = ap p (in_none k d) ∙ h
at_one p (x ∷ xs) zero d h all = (and_parts (p x) (list_all p xs) all).0
at_one p (x ∷ xs) (suc k) d h all = at_one p xs k d h ((and_parts (p x) (list_all p xs) all).1)

-- one and those after it
pub from_one : {X : Type 0} (p : X → Bool) (xs : List X) (k : ℕ) (d : X) → k < length xs →
    list_all p (drop k xs) ≡ (p (get_or xs k d) && list_all p (drop (k + 1) xs))
from_one p xs k d l = ap (list_all p) (drop_more xs k d l)
