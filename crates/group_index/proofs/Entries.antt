-- The entry of a key: at its place, or a new one.
use Rattle.std.proofs.Common.{◌≡◌, ℕ, zero, suc, ◌+◌, Bool, List, [], ◌∷◌, Some, None, cond}
use Rattle.std.proofs.Common.{if◌then◌else◌, position, slice_get, refl, sym, ap, ◌∙◌, ⊎_elim, arith}
use Rattle.std.proofs.lemmas.Bool.{cases_Bool}
use Rattle.std.proofs.lemmas.Iterator.Adapters.{position_from-zero}
use Rattle.std.specs.List.{position_from}
use Rattle.std.specs.Map.{keys_of, values_of}
use Rattle.indexmap.specs.IndexMap.{insert_entry, set_value_at}
use Rattle.row_types.specs.declared.aggregate_column.AggregateColumn.{AggregateColumn}
use Rattle.row_types.specs.Rows.{Row}
use Rattle.row_types.specs.Groups.{same_row}
use Rattle.group_index.specs.Kept.{ColumnTaken, none_kept, kept_with}
use Rattle.group_index.specs.Folded.{kept_at, kept_put}

abbrev Entries : Type 0
Entries = List (Row × List ColumnTaken)

-- what is kept at a place, replaced
pub replaced : (es : Entries) (at : ℕ) (row : Row) (x new : List ColumnTaken) →
    slice_get (values_of es) at ≡ Some x → new ≡ kept_with row x →
    set_value_at es at new ≡ kept_at at row es
replaced [] at row x new h n = refl
replaced (e ∷ es) zero row x new h n = let s : e.1 ≡ x = cc in
    ap (λ (k : List ColumnTaken). (e.0, k) ∷ es) (n ∙ ap (kept_with row) (sym s))
replaced (e ∷ es) (suc at) row x new h n = ap (λ (fs : Entries). e ∷ fs)
    (replaced es at row x new h n)

module _ (aggregates : List AggregateColumn) (key row : Row) where
  abbrev first : Bool → Row × List ColumnTaken → Entries → Entries
  first b e es = if b then (e.0, kept_with row e.1) ∷ es else e ∷ kept_put aggregates key row es

  found_from : (n : ℕ) (es : Entries) (at : ℕ) → position_from (same_row key) n (keys_of es) ≡
      Some at → (i : ℕ) × (at ≡ n + i) × (kept_put aggregates key row es ≡ kept_at i row es)
  found_from n [] at h = cc
  found_from n (e ∷ es) at h = ⊎_elim
      (λ t.
      let s : Some n ≡ Some at = ap (λ b. cond b (Some n)
      (position_from (same_row key) (n + 1) (keys_of es))) (sym t) ∙ h in
      let m : n ≡ at = cc in
      (0, omega (arith, m), ap (λ b. first b e es) t))
      (λ f.
      let l = found_from (n + 1) es at
      (ap (λ b. cond b (Some n) (position_from (same_row key) (n + 1) (keys_of es))) (sym f) ∙
      h) in
      let m : at ≡ n + 1 + l.0 = l.1 in
      (suc l.0, omega (arith, m), ap (λ b. first b e es) f ∙ ap (λ (fs : Entries). e ∷ fs) l.2))
      (cases_Bool (same_row key e.0))

  pub found : (es : Entries) (at : ℕ) → Some at ≡ position (same_row key) (keys_of es) →
      kept_put aggregates key row es ≡ kept_at at row es
  found es at h =
      let l = found_from 0 es at (sym (position_from-zero (same_row key) (keys_of es)) ∙ sym h) in
      let m : at ≡ 0 + l.0 = l.1 in let e : l.0 ≡ at = omega (arith, m) in
      l.2 ∙ ap (λ i. kept_at i row es) e

  missing_from : (n : ℕ) (es : Entries) → position_from (same_row key) n (keys_of es) ≡ None →
      kept_put aggregates key row es ≡ insert_entry same_row es key
      (kept_with row (none_kept aggregates))
  missing_from n [] h = refl
  missing_from n (e ∷ es) h = ⊎_elim
      (λ t. let s : Some n ≡ None = ap (λ b. cond b (Some n) (position_from (same_row key) (n + 1) (keys_of es))) (sym t) ∙ h in cc)
      (λ f.
      let rest =
      missing_from (n + 1) es
      (ap (λ b. cond b (Some n) (position_from (same_row key) (n + 1) (keys_of es))) (sym f) ∙
      h) in
      ap (λ b. first b e es) f
      ∙ (ap (λ (fs : Entries). e ∷ fs) rest
      ∙ sym (ap (λ b. if b then (e.0, kept_with row (none_kept aggregates)) ∷ es else e ∷
      insert_entry same_row es key (kept_with row (none_kept aggregates))) f)))
      (cases_Bool (same_row key e.0))

  pub missing : (es : Entries) → None ≡ position (same_row key) (keys_of es) →
      kept_put aggregates key row es ≡ insert_entry same_row es key
      (kept_with row (none_kept aggregates))
  missing es h = missing_from 0 es (sym (position_from-zero (same_row key) (keys_of es)) ∙ sym h)
