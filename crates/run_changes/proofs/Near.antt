-- A row that is looked for where it may stand.
use Rattle.std.proofs.Common.{ℕ, ◌≡◌, ◌<◌, true, get_or, length, slice_index_or, refl, sym, ap, ◌∙◌}
use Rattle.std.proofs.lemmas.Bool.{false≢true}
use Rattle.std.proofs.lemmas.Cmp.{alike_right, tied_back}
use Rattle.std.proofs.lemmas.List.{get_or_default}
use Rattle.std.specs.Ordering.{is_eq}
use Rattle.std.specs.declared.cmp.Ordering.{Ordering}
use Rattle.std.specs.declared.cmp.Ordering.TheVariants.{Less, Equal, Greater}
use Rattle.row_types.specs.Rows.{Row, by_key, well_kept}
use Rattle.row_types.specs.Tables.{Table}
use Rattle.row_types.proofs.Laws.{by_key_total, ok_at, rises_before}
use Rattle.table_store.proofs.Laws.{kept_rises}
use Rattle.data_change.specs.Writing.{found_at, place_in}

ties : (o : Ordering) → is_eq o ≡ true → o ≡ Equal
ties Less h = absurd (false≢true h)
ties Equal h = refl
ties Greater h = absurd (false≢true h)

-- the row at a place has its key
pub near : (t : Table) (at : ℕ) (row : Row) → well_kept t.columns t.key t.rows ≡ true →
    at < length t.rows → true ≡ is_eq (by_key t.key row (slice_index_or t.rows at row)) →
    at ≡ place_in t row
near t at row kept l h =
    let R = by_key t.key in
    let o = by_key_total t.key in
    let x = get_or t.rows at row in
    let e : R row x ≡ Equal = ties (R row x) (sym h) in
    sym (ap found_at (ok_at (λ r. R r row) t.rows at row l
    (λ k d m. alike_right o row x (get_or t.rows k d) e
    ∙ (ap (R (get_or t.rows k d)) (get_or_default t.rows at row d l)
    ∙ rises_before R o t.rows k at d (kept_rises t.columns t.key t.rows kept) m l))
    (tied_back o row x e)))
