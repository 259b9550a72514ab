-- What rows are after a change.
use Rattle.std.proofs.Common.{ℕ, ◌≡◌, true, List, [], ◌∷◌, length, set, refl, ap, ◌∙◌}
use Rattle.std.proofs.lemmas.List.{length-set}
use Rattle.std.specs.List.{remove}
use Rattle.sql_values.specs.declared.value.Value.{Value}
use Rattle.row_types.specs.Ordered.{rises}
use Rattle.row_types.specs.Rows.{Row, by_key}
use Rattle.row_types.proofs.Laws.{by_key_total, rises-remove}
use Rattle.atomic_undo.specs.Changes.{set_all, removed_all}
use Rattle.rel_algebra.specs.Places as Places
use Rattle.data_change.specs.Writing.{put_all}

-- a row stays as long as it is
pub put_all-length : (cs : List ℕ) (vs : List Value) (row : Row) →
    length (put_all cs vs row) ≡ length row
put_all-length [] vs row = refl
put_all-length (c ∷ cs) [] row = refl
put_all-length (c ∷ cs) (v ∷ vs) row = put_all-length cs vs (set row c v) ∙ length-set row c v

-- rows in key order are so without some of them
pub removed_all-rises : (key : List ℕ) (places : List ℕ) (rows : List Row) →
    rises (by_key key) rows ≡ true → rises (by_key key) (removed_all places rows) ≡ true
removed_all-rises key [] rows h = h
removed_all-rises key (p ∷ ps) rows h = rises-remove (by_key key) (by_key_total key)
    (removed_all ps rows) p (removed_all-rises key ps rows h)

-- ---- rows at places mean the same here and where they are stored

pub set_all-same : (places : List ℕ) (new rows : List Row) →
    Places.set_all places new rows ≡ set_all places new rows
set_all-same [] new rows = refl
set_all-same (p ∷ ps) [] rows = refl
set_all-same (p ∷ ps) (r ∷ rs) rows = ap (λ (kept : List Row). set kept p r)
    (set_all-same ps rs rows)

pub removed_all-same : (places : List ℕ) (rows : List Row) →
    Places.removed_all places rows ≡ removed_all places rows
removed_all-same [] rows = refl
removed_all-same (p ∷ ps) rows = ap (λ (kept : List Row). remove kept p) (removed_all-same ps rows)
