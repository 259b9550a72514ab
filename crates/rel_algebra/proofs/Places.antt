-- Where cells stand in wider rows.
use Rattle.std.proofs.Common.{◌≡◌, ℕ, zero, suc, ◌+◌, ◌<◌, ◌≤◌, true, false, List, [], ◌∷◌, ◌++◌}
use Rattle.std.proofs.Common.{length, refl, ap, sym, ◌∙◌, subst, arith}
use Rattle.sql_values.specs.declared.value.Value.TheVariants.{Int, Null, Str, Bool as Truth}
use Rattle.row_types.specs.Cells.{PlanRow, Poisoned, Whole}
use Rattle.row_types.specs.declared.cell.Cell.{Cell}
use Rattle.row_types.specs.declared.cell.Cell.TheVariants.{Cond, Val}
use Rattle.rel_algebra.specs.Even.{AllLong, PlacesIn}
use Rattle.rel_algebra.specs.Joins.{places}
use Rattle.rel_algebra.specs.Plan.{cell_at, cells_at, each, kept}
use Rattle.rel_algebra.specs.Renaming.{outward_row, own_row, place_in, places_in}
use Rattle.rel_algebra.proofs.Growing.{first_columns, grown_columns, grows_at, grows_by, grows_same}
use Rattle.rel_algebra.proofs.Renamed.{Tells}
use Rattle.rel_algebra.proofs.Truths.{both}

past_end : (z : List Cell) (i : ℕ) → cell_at z (length z + i) ≡ Val Null
past_end [] i = refl
past_end (c ∷ z) i = ap (cell_at (c ∷ z)) (let e : suc (length z) + i
    ≡ suc (length z + i) = omega arith in e) ∙ past_end z i

pub place_at : (outs : List ℕ) (n i : ℕ) (z : List Cell) → length z ≡ n →
    cell_at z (place_in outs n i) ≡ cell_at (cells_at z outs) i
place_at [] n i z e = ap (λ (m : ℕ). cell_at z (m + i)) (sym e) ∙ past_end z i
place_at (j ∷ outs) n zero z e = refl
place_at (j ∷ outs) n (suc i) z e = place_at outs n i z e

pub own_tells : (outs : List ℕ) (n : ℕ) (z : List Cell) (o : List (List Cell)) → length z ≡ n →
    Tells (own_row outs n) (z ∷ o) (cells_at z outs ∷ o)
own_tells outs n z o e zero i = place_at outs n i z e
own_tells outs n z o e (suc level) i = refl

pub outward_tells : (r : List Cell) (o : List (List Cell)) → Tells outward_row (r ∷ o) o
outward_tells r o level i = refl

pub places_at : (outs : List ℕ) (n : ℕ) (is : List ℕ) (z : List Cell) → length z ≡ n →
    cells_at z (places_in outs n is) ≡ cells_at (cells_at z outs) is
places_at outs n [] z e = refl
places_at outs n (i ∷ is) z e = λ t. place_at outs n i z e t ∷ places_at outs n is z e t

pub cells_append : (z : List Cell) (a b : List ℕ) →
    cells_at z (a ++ b) ≡ cells_at z a ++ cells_at z b
cells_append z [] b = refl
cells_append z (i ∷ a) b = ap (λ (cs : List Cell). cell_at z i ∷ cs) (cells_append z a b)

-- columns that stood before stay
pub front_cells : (z x : List Cell) (outs : List ℕ) → PlacesIn outs (length z) →
    cells_at (z ++ x) outs ≡ cells_at z outs
front_cells z x [] h = refl
front_cells z x (i ∷ outs) h =
    λ t. grows_at z (z ++ x) i (grows_by z x) h.0 t ∷ front_cells z x outs h.1 t

pub added_cells : (z x : List Cell) (n k : ℕ) → length z ≡ n → length x ≡ k →
    cells_at (z ++ x) (places n k) ≡ x
added_cells z x n k e d = grown_columns z x (z ++ x) n k e d (grows_same (z ++ x))

-- columns that stood before, and those that were added
pub grown_cells : (z x : List Cell) (outs : List ℕ) (n k : ℕ) → length z ≡ n → length x ≡ k →
    PlacesIn outs n →
    cells_at (z ++ x) (outs ++ places n k) ≡ cells_at z outs ++ x
grown_cells z x outs n k e d h =
    cells_append (z ++ x) outs (places n k)
    ∙ both (λ (a b : List Cell). a ++ b) _ _ _ _
    (front_cells z x outs (subst (λ (m : ℕ). PlacesIn outs m) (sym e) h)) (added_cells z x n k e d)

-- all columns
pub own_cells : (z : List Cell) (n : ℕ) → length z ≡ n → cells_at z (places 0 n) ≡ z
own_cells z n e = first_columns z z n e (grows_same z)

pub places_wide : (outs : List ℕ) (n m : ℕ) → n ≤ m → PlacesIn outs n → PlacesIn outs m
places_wide [] n m l h = tt
places_wide (i ∷ outs) n m l h = (let k = h.0 in omega (arith, k), places_wide outs n m l h.1)

pub places_append : (a b : List ℕ) (n : ℕ) → PlacesIn a n → PlacesIn b n → PlacesIn (a ++ b) n
places_append [] b n h k = k
places_append (i ∷ a) b n h k = (h.0, places_append a b n h.1 k)

pub places_below : (i k n : ℕ) → i + k ≤ n → PlacesIn (places i k) n
places_below i zero n l = tt
places_below i (suc k) n l = (omega arith, places_below (suc i) k n (omega arith))

pub place_below : (outs : List ℕ) (n i : ℕ) → PlacesIn outs n → i < length outs →
    place_in outs n i < n
place_below [] n i h l = absurd (omega arith)
place_below (j ∷ outs) n zero h l = h.0
place_below (j ∷ outs) n (suc i) h l = place_below outs n i h.1 (omega arith)

pub places_in_below : (outs : List ℕ) (n : ℕ) (is : List ℕ) → PlacesIn outs n →
    PlacesIn is (length outs) → PlacesIn (places_in outs n is) n
places_in_below outs n [] h k = tt
places_in_below outs n (i ∷ is) h k = (place_below outs n i h k.0, places_in_below outs n is h k.1)

pub places_in_long : (outs : List ℕ) (n : ℕ) (is : List ℕ) → length (places_in outs n is)
    ≡ length is
places_in_long outs n [] = refl
places_in_long outs n (i ∷ is) = ap suc (places_in_long outs n is)

-- Rows that are long.
pub each_same_long : (n : ℕ) (f g : List Cell → List PlanRow) (rows : List PlanRow) →
    AllLong n rows →
    ((r : List Cell) → length r ≡ n → f r ≡ g r) → each f rows ≡ each g rows
each_same_long n f g [] h k = refl
each_same_long n f g (Whole r ∷ rows) h k = λ t. k r h.0 t ++ each_same_long n f g rows h.1 k t
each_same_long n f g (Poisoned s ∷ rows) h k = λ t. Poisoned s ∷ each_same_long n f g rows h k t

-- a test, and then a row by row
pub kept_then : (c : Cell) (z : List Cell) (g : List Cell → List Cell) →
    each (λ x. Whole (g x) ∷ []) (kept c z) ≡ kept c (g z)
kept_then (Cond s) z g = refl
kept_then (Val Null) z g = refl
kept_then (Val (Int n)) z g = refl
kept_then (Val (Str t)) z g = refl
kept_then (Val (Truth true)) z g = refl
kept_then (Val (Truth false)) z g = refl
