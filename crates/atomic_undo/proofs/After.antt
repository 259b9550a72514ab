-- Rows that go in after all those of a table.
use Rattle.std.proofs.Common.{ℕ, ◌≡◌, ◌<◌, ◌≤◌, ◌+◌, true, List, [], ◌∷◌, ◌++◌, sym, ap, ◌∙◌, subst}
use Rattle.std.proofs.Common.{arith, length, take, slice_index, None, Ordering, length-append}
use Rattle.std.proofs.lemmas.Bool.{and_from}
use Rattle.std.proofs.lemmas.List.{take_all, drop_all, take-append-le}
use Rattle.std.proofs.lemmas.List.Folds.{list_all-append}
use Rattle.std.specs.List.{list_all}
use Rattle.row_types.specs.Ordered.{put_all, rises, first_repeat_after}
use Rattle.row_types.specs.Rows.{Row, fits}
use Rattle.row_types.specs.Tables.{Table, table_at, with_rows, with_rows_at}
use Rattle.row_types.proofs.Laws.{by_key_total, put_all-rises, first_repeat-rises}
use Rattle.row_types.proofs.Laws.{first_repeat-append}
use Rattle.table_store.specs.Kept.{Kept, IsKept, CanAppend, holding}
use Rattle.table_store.specs.Memory.{Memory, kept_at, NoLess}
use Rattle.table_store.proofs.Laws.{kept_rises, kept_fits}
use Rattle.atomic_undo.specs.declared.log.Edit.{Edit}
use Rattle.atomic_undo.specs.declared.log.Edit.TheVariants.{Appended}
use Rattle.atomic_undo.specs.Undo.{rows_before, undo_edit, CanUndo}
use Rattle.atomic_undo.specs.Changes.{order_in, rows_in, WentIn}
use Rattle.atomic_undo.proofs.TakingBack.{CanUndo-push, more_undo, rows_before-append}
use Rattle.atomic_undo.proofs.Steps.{table_after}

front_of : (xs ys : List Row) → take (length xs) (xs ++ ys) ≡ xs
front_of xs ys = take-append-le (length xs) xs ys (omega arith) ∙
    take_all (length xs) xs (omega arith)

module _ (m : Memory) (t : ℕ) (new : List Row) (kept : IsKept (kept_at m t))
    (rise : rises (order_in m.tables t) (rows_in m.tables t ++ new) ≡ true) where
  abbrev R : Row → Row → Ordering
  R = order_in m.tables t

  abbrev rows : List Row
  rows = rows_in m.tables t

  abbrev old : Table
  old = table_at m.tables t

  pub can_append : list_all (fits (table_at m.tables t).columns (table_at m.tables t).key) new ≡
      true → length (rows_in m.tables t) + length new ≤ slice_index m.capacities t →
      CanAppend (kept_at m t) new
  can_append fit room = record {
    room = room;
    kept = and_from (list_all (fits old.columns old.key) (rows ++ new)) (rises R (rows ++ new))
        (list_all-append (fits old.columns old.key) rows new
        ∙ and_from (list_all (fits old.columns old.key) rows)
        (list_all (fits old.columns old.key) new) (kept_fits old.columns old.key rows kept.rows)
        fit)
        rise;
  }

  none_stands : first_repeat_after R rows new ≡ None
  none_stands =
      let o = by_key_total old.key in
      sym (first_repeat-append R o rows new (kept_rises old.columns old.key rows kept.rows)) ∙
      first_repeat-rises R o (rows ++ new) rise

  all : put_all R rows (take (length new) new) ≡ rows ++ new
  all = ap (put_all R rows) (take_all (length new) new (omega arith)) ∙
      put_all-rises R (by_key_total old.key) rows new rise

  pub went_after : (n : Memory) (before es : List Edit) (at : ℕ) → t < length m.tables →
      CanUndo (kept_at m t) before → length (rows_in m.tables t) + length new ≤
      slice_index m.capacities t
      → n.tables ≡ with_rows_at t (rows_in m.tables t ++ new) m.tables →
      NoLess m.capacities n.capacities → at ≡ length (rows_in m.tables t) →
      es ≡ before ++ Appended at ∷ []
      → WentIn m n t new before es None
  went_after n before es at l can room h c is e =
      let capacity = slice_index n.capacities t in
      let table : table_at n.tables t ≡ with_rows (rows ++ new) old =
      table_after t (rows ++ new) m.tables n.tables h l in
      let k : Kept = record { table = with_rows (rows ++ new) old; capacity = capacity } in
      let undone : undo_edit (Appended at) (rows ++ new) ≡ rows =
      ap (λ n. take n (rows ++ new)) is ∙ front_of rows new in
      let first : CanUndo (holding (undo_edit (Appended at) (rows ++ new)) k) before =
      subst (λ (xs : List Row). CanUndo record { table = with_rows xs old; capacity = capacity }
      before) (sym undone) (more_undo old (slice_index m.capacities t) capacity before
      (c t) can) in
      let both : CanUndo k (before ++ Appended at ∷ []) =
      CanUndo-push k before (Appended at) first (omega (arith, length-append rows new)) in (
        record {
          tables = h ∙ ap (λ (xs : List Row). with_rows_at t xs m.tables) (sym all);
          can = subst (λ (x : Table). CanUndo record { table = x; capacity = capacity } es)
              (sym table) (subst (λ (xs : List Edit). CanUndo k xs) (sym e) both);
          back = ap (λ (xs : List Edit). rows_before xs (put_all R rows (take (length new) new)))
              e ∙ ap (rows_before (before ++ Appended at ∷ [])) all
              ∙ rows_before-append before (Appended at ∷ []) (rows ++ new) ∙
              ap (rows_before before) undone;
          count = omega arith;
          room = (let a = ap (λ (xs : List Row). length xs) all in let b = length-append rows new in
              let d : slice_index m.capacities t ≤ capacity = c t in omega arith);
          judged = none_stands ∙ sym (ap (first_repeat_after R (rows ++ take (length new) new))
              (drop_all (length new) new (omega arith)));
          capacities = c;
        },
        none_stands,
      )
