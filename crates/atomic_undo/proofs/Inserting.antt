-- Rows that go in one after another.
use Rattle.std.proofs.Common.{ℕ, suc, zero, ◌≡◌, ◌<◌, ◌≤◌, ◌+◌, Bool, true, List, [], ◌∷◌, ◌++◌}
use Rattle.std.proofs.Common.{refl, sym, ap, ◌∙◌, subst, arith, length, take, drop, slice_index}
use Rattle.std.proofs.Common.{get_or, insert, Some, None, Ok, Err, Result, length-append}
use Rattle.std.proofs.Common.{append_assoc, is_eq}
use Rattle.std.proofs.lemmas.List.{take_more, drop_more, take_all, append-nil}
use Rattle.std.proofs.lemmas.List.Edits.{length-insert}
use Rattle.std.specs.List.{list_all}
use Rattle.std.specs.Cmp.{IsTotalOrder}
use Rattle.row_types.specs.Ordered.{in_order, put, put_all, first_repeat, first_repeat_after}
use Rattle.row_types.specs.Ordered.{stands, searched}
use Rattle.row_types.specs.Rows.{Row, by_key, fits}
use Rattle.row_types.specs.Tables.{Table, Tables, table_at, with_rows, with_rows_at}
use Rattle.table_store.specs.Kept.{IsKept, CanInsert}
use Rattle.table_store.specs.Memory.{Memory, kept_at, NoLess}
use Rattle.std.proofs.lemmas.Bool.{and_parts}
use Rattle.std.proofs.lemmas.List.Folds.{list_any-append}
use Rattle.row_types.proofs.Laws.{by_key_total}
use Rattle.row_types.proofs.Laws.{insert_is_put, none_stands, one_stands, any-put_all}
use Rattle.row_types.proofs.Laws.{put_all-append, repeat_none, repeat_here, in_order-append}
use Rattle.row_types.proofs.Laws.{first_repeat-append, remove-insert, err_within}
use Rattle.table_store.proofs.Laws.{can_insert, kept_rises}
use Rattle.atomic_undo.specs.declared.log.Edit.{Edit}
use Rattle.atomic_undo.specs.declared.log.Edit.TheVariants.{Inserted}
use Rattle.atomic_undo.specs.declared.fault.ApplyFault.{ApplyFault}
use Rattle.atomic_undo.specs.declared.fault.ApplyFault.TheVariants.{Constraint, NoMemory}
use Rattle.atomic_undo.specs.Undo.{undo_edit, undo_entry, rows_before, CanUndo}
use Rattle.atomic_undo.specs.Changes.{order_in, rows_in, Going, IsAnswer}
use Rattle.atomic_undo.proofs.Places.{rows_at-rows_at, rows_at-same, no_less-trans}
use Rattle.atomic_undo.proofs.TakingBack.{CanUndo-push, more_undo, rows_before-append}
use Rattle.atomic_undo.proofs.Steps.{table_after}

module _ (m : Memory) (t : ℕ) (new : List Row) (before : List Edit) where
  abbrev old : Table
  old = table_at m.tables t

  abbrev so_far : ℕ → List Row
  so_far i = put_all (order_in m.tables t) (rows_in m.tables t) (take i new)

  abbrev holds : ℕ → Table
  holds i = with_rows (so_far i) (table_at m.tables t)

  total : IsTotalOrder (order_in m.tables t)
  total = by_key_total (table_at m.tables t).key

  held : (n : Memory) (i : ℕ) (es : List Edit) → t < length m.tables → Going m n t new i before es →
      table_at n.tables t ≡ holds i
  held n i es l g = table_after t (so_far i) m.tables n.tables g.tables l

  next : (i : ℕ) (row : Row) → row ∷ drop (i + 1) new ≡ drop i new → i < length new →
      take (i + 1) new ≡ take i new ++ row ∷ []
  next i row h l =
      let e : row ∷ drop (i + 1) new ≡ get_or new i row ∷ drop (i + 1) new = h ∙
      drop_more new i row l in
      let f : row ≡ get_or new i row = cc in
      take_more new i row l ∙ ap (λ (r : Row). take i new ++ r ∷ []) (sym f)

  one_more : (i : ℕ) (row : Row) → row ∷ drop (i + 1) new ≡ drop i new → i < length new →
      so_far (i + 1) ≡ put (order_in m.tables t) row (so_far i)
  one_more i row h l = ap (put_all (order_in m.tables t) (rows_in m.tables t)) (next i row h l) ∙
      put_all-append (order_in m.tables t) total (rows_in m.tables t) (take i new) (row ∷ [])

  -- whether a key stands among the rows so far
  stands_so_far : (i : ℕ) (row : Row) → stands (order_in m.tables t) row (so_far i) ≡ stands
      (order_in m.tables t) row (rows_in m.tables t ++ take i new)
  stands_so_far i row =
      any-put_all (order_in m.tables t) total (λ y. is_eq (order_in m.tables t y row))
      (rows_in m.tables t) (take i new)
      ∙ sym (list_any-append (λ y. is_eq (order_in m.tables t y row)) (rows_in m.tables t)
      (take i new))

  found_so : (n : Memory) (i : ℕ) (row : Row) (r : Result ℕ ℕ) → table_at n.tables t ≡ holds i →
      r ≡ searched (λ x. by_key (table_at n.tables t).key x row) (table_at n.tables t).rows
      → searched (λ x. order_in m.tables t x row) (so_far i) ≡ r
  found_so n i row r e f = sym (f ∙ ap (λ (x : Table). searched (λ y. by_key x.key y row) x.rows) e)

  kept_so : (n : Memory) (i : ℕ) → table_at n.tables t ≡ holds i → IsKept (kept_at n t) →
      IsKept record { table = holds i; capacity = slice_index n.capacities t }
  kept_so n i e k = subst (λ (x : Table). IsKept record {
    table = x;
    capacity =
        slice_index n.capacities t;
  }) e k

  pub may_go_in : (n : Memory) (i : ℕ) (es : List Edit) (row : Row) (at : ℕ) → t < length m.tables →
      Going m n t new i before es → IsKept (kept_at n t)
      → Err at ≡ searched (λ x. by_key (table_at n.tables t).key x row) (table_at n.tables t).rows →
      i < length new → fits (table_at m.tables t).columns (table_at m.tables t).key row ≡ true
      → CanInsert (kept_at n t) at row
  may_go_in n i es row at l g k f w fit =
      let e = held n i es l g in
      let room = g.room in
      subst (λ (x : Table). CanInsert record { table = x; capacity = slice_index n.capacities t } at
      row) (sym e)
      (can_insert (holds i) (slice_index n.capacities t) row at (kept_so n i e k).rows fit
      (found_so n i row (Err at) e f) (omega arith))

  pub went_in : (n n' : Memory) (i : ℕ) (es : List Edit) (row : Row) (at : ℕ) →
      t < length m.tables → Going m n t new i before es → IsKept (kept_at n t)
      → Err at ≡ searched (λ x. by_key (table_at n.tables t).key x row) (table_at n.tables t).rows →
      i < length new → row ∷ drop (i + 1) new ≡ drop i new
      → n'.tables ≡ with_rows_at t (insert (table_at n.tables t).rows at row) n.tables →
      NoLess n.capacities n'.capacities
      → Going m n' t new (i + 1) before (es ++ Inserted at ∷ [])
  went_in n n' i es row at l g k f w h eq c =
      let e = held n i es l g in
      let found = found_so n i row (Err at) e f in
      let rises = kept_rises old.columns old.key (so_far i) (kept_so n i e k).rows in
      let there : insert (so_far i) at row ≡ so_far (i + 1) =
      insert_is_put (order_in m.tables t) total row (so_far i) at found ∙
      sym (one_more i row h w) in
      let tables : n'.tables ≡ with_rows_at t (so_far (i + 1)) m.tables =
      eq ∙ ap (λ (x : Table). with_rows_at t (insert x.rows at row) n.tables) e ∙
      ap (λ (xs : List Row). with_rows_at t xs n.tables) there
      ∙ ap (λ (xs : Tables). with_rows_at t (so_far (i + 1)) xs) g.tables ∙
      rows_at-rows_at t (so_far i) (so_far (i + 1)) m.tables l in
      let at_last : table_at n'.tables t ≡ holds (i + 1) =
      table_after t (so_far (i + 1)) m.tables n'.tables tables l in
      let taken : undo_edit (Inserted at) (so_far (i + 1)) ≡ so_far i =
      ap (undo_edit (Inserted at)) (sym there) ∙
      remove-insert (so_far i) at row (err_within (λ x. order_in m.tables t x row)
      (so_far i) at found) in
      let longer : length (so_far (i + 1)) ≡ length (so_far i) + 1 =
      ap (λ (xs : List Row). length xs) (sym there) ∙
      length-insert (so_far i) at row (err_within (λ x. order_in m.tables t x row)
      (so_far i) at found) in
      let more : slice_index n.capacities t ≤ slice_index n'.capacities t = c t in
      record {
        tables = tables;
        can = subst (λ (x : Table). CanUndo record {
          table = x;
          capacity =
              slice_index n'.capacities t;
        } (es ++ Inserted at ∷ [])) (sym at_last)
            (CanUndo-push record { table = holds (i + 1); capacity = slice_index n'.capacities t }
            es (Inserted at)
            (subst (λ (xs : List Row). CanUndo record {
              table = with_rows xs old;
              capacity =
                  slice_index n'.capacities t;
            } es) (sym taken)
            (more_undo (holds i) (slice_index n.capacities t) (slice_index n'.capacities t) es more
            (subst (λ (x : Table). CanUndo record {
              table = x;
              capacity =
                  slice_index n.capacities t;
            } es) e g.can)))
            (let w = err_within (λ x. order_in m.tables t x row) (so_far i) at found in
            omega arith));
        back = rows_before-append es (Inserted at ∷ []) (so_far (i + 1)) ∙
            ap (rows_before es) taken ∙ g.back;
        count = omega arith;
        room = (let r = g.room in omega arith);
        judged = g.judged ∙ ap (first_repeat_after (order_in m.tables t)
            (rows_in m.tables t ++ take i new)) (sym h)
            ∙ repeat_none (order_in m.tables t) total (rows_in m.tables t ++ take i new) row
            (drop (i + 1) new)
            (sym (stands_so_far i row) ∙ none_stands (order_in m.tables t) total row
            (so_far i) at rises found)
            ∙ ap (λ (xs : List Row). first_repeat_after (order_in m.tables t) xs (drop (i + 1) new))
            (append_assoc (rows_in m.tables t) (take i new) (row ∷ []) ∙
            ap (λ (xs : List Row). rows_in m.tables t ++ xs) (sym (next i row h w)));
        capacities = no_less-trans m.capacities n.capacities n'.capacities g.capacities c;
      }

  length-take_to : (i : ℕ) (xs : List Row) → i ≤ length xs → length (take i xs) ≡ i
  length-take_to zero xs l = refl
  length-take_to (suc i) [] l = absurd (omega arith)
  length-take_to (suc i) (x ∷ xs) l = ap suc (length-take_to i xs (omega arith))

  pub stands_there : (n : Memory) (i : ℕ) (es : List Edit) (row : Row) (at : ℕ) →
      t < length m.tables → Going m n t new i before es
      → Ok at ≡ searched (λ x. by_key (table_at n.tables t).key x row) (table_at n.tables t).rows →
      row ∷ drop (i + 1) new ≡ drop i new
      → first_repeat_after (order_in m.tables t) (rows_in m.tables t) new ≡
      Some (length (rows_in m.tables t) + i)
  stands_there n i es row at l g f h =
      let e = held n i es l g in
      let found = found_so n i row (Ok at) e f in
      let count = g.count in
      g.judged ∙ ap (first_repeat_after (order_in m.tables t) (rows_in m.tables t ++ take i new))
      (sym h)
      ∙ repeat_here (order_in m.tables t) total (rows_in m.tables t ++ take i new) row
      (drop (i + 1) new) (sym (stands_so_far i row) ∙
      one_stands (order_in m.tables t) total row (so_far i) at found)
      ∙ ap (λ k. Some k) (length-append (rows_in m.tables t) (take i new) ∙
      ap (λ k. length (rows_in m.tables t) + k) (length-take_to i new count))

  pub none_there : (n : Memory) (i : ℕ) (es : List Edit) → Going m n t new i before es →
      drop i new ≡ [] → first_repeat_after (order_in m.tables t) (rows_in m.tables t) new ≡ None
  none_there n i es g h = g.judged ∙ ap (first_repeat_after (order_in m.tables t)
      (rows_in m.tables t ++ take i new)) h

  pub none_yet : t < length m.tables → length (rows_in m.tables t) + length new ≤
      slice_index m.capacities t → CanUndo (kept_at m t) before → Going m m t new 0 before before
  none_yet l r c = record {
    tables = sym (rows_at-same t m.tables);
    can = c;
    back = refl;
    count = omega arith;
    room = omega arith;
    judged = ap (λ (xs : List Row). first_repeat_after (order_in m.tables t) xs new)
        (sym (append-nil (rows_in m.tables t)));
    capacities = λ at. omega arith;
  }

-- ---- one step through what is left

pub step_in : (new rest : List Row) (i : ℕ) (row : Row) → row ∷ rest ≡ drop i new → i < length new →
    rest ≡ drop (i + 1) new
step_in new rest i row h l =
    let e : row ∷ rest ≡ get_or new i row ∷ drop (i + 1) new = h ∙ drop_more new i row l in cc

pub fit_in : (p : Row → Bool) (new rest : List Row) (i : ℕ) (row : Row) → list_all p new ≡ true →
    row ∷ rest ≡ drop i new → p row ≡ true
fit_in p [] rest zero row f h = cc
fit_in p [] rest (suc i) row f h = cc
fit_in p (x ∷ xs) rest zero row f h = let e : row ≡ x = cc in ap p e ∙
    (and_parts (p x) (list_all p xs) f).0
fit_in p (x ∷ xs) rest (suc i) row f h = fit_in p xs rest i row
    ((and_parts (p x) (list_all p xs) f).1) h

-- ---- the answer

pub answer_before : (l m n : Memory) (t : ℕ) (rows : List Row) (r : Result (List Edit) ApplyFault) →
    m.tables ≡ l.tables → NoLess l.capacities m.capacities → IsAnswer m n t rows r →
    IsAnswer l n t rows r
answer_before l m n t rows (Ok es) e c a = (
  record {
    tables = a.0.tables ∙ ap (λ (xs : Tables). with_rows_at t (in_order (order_in xs t) rows) xs) e;
    can = a.0.can;
    back = ap (λ (xs : Tables). rows_before es (in_order (order_in xs t) rows)) (sym e) ∙ a.0.back ∙
        ap (λ (xs : Tables). rows_in xs t) e;
    capacities = no_less-trans l.capacities m.capacities n.capacities c a.0.capacities;
  },
  ap (λ (xs : Tables). first_repeat (order_in xs t) rows) (sym e) ∙ a.1,
)
answer_before l m n t rows (Err (Constraint at)) e c a = (
  record {
    tables = a.0.tables ∙ e;
    capacities =
        no_less-trans l.capacities m.capacities n.capacities c a.0.capacities;
  },
  ap (λ (xs : Tables). first_repeat (order_in xs t) rows) (sym e) ∙ a.1,
)
answer_before l m n t rows (Err NoMemory) e c a =
    record {
      tables = a.tables ∙ e;
      capacities =
          no_less-trans l.capacities m.capacities n.capacities c a.capacities;
    }

module _ (m n : Memory) (t : ℕ) (new : List Row) (es : List Edit) where
  pub all_in : IsKept (kept_at m t) → Going m n t new (length new) [] es →
      first_repeat_after (order_in m.tables t) (rows_in m.tables t) new ≡ None
      → IsAnswer m n t (rows_in m.tables t ++ new) (Ok es)
  all_in k g h =
      let o = by_key_total (table_at m.tables t).key in
      let r = kept_rises (table_at m.tables t).columns (table_at m.tables t).key
      (rows_in m.tables t) k.rows in
      let e : put_all (order_in m.tables t) (rows_in m.tables t) (take (length new) new) ≡ in_order
      (order_in m.tables t) (rows_in m.tables t ++ new) =
      ap (put_all (order_in m.tables t) (rows_in m.tables t))
      (take_all (length new) new (omega arith)) ∙
      sym (in_order-append (order_in m.tables t) o (rows_in m.tables t) new r) in (
        record {
          tables = g.tables ∙ ap (λ (xs : List Row). with_rows_at t xs m.tables) e;
          can = g.can;
          back = ap (rows_before es) (sym e) ∙ g.back;
          capacities = g.capacities;
        },
        first_repeat-append (order_in m.tables t) o (rows_in m.tables t) new r ∙ h,
      )

  pub back_out : (i : ℕ) (before : List Edit) (p : Memory) → t < length m.tables →
      Going m n t new i before es
      → p.tables ≡ undo_entry record { table = t; edits = es } n.tables →
      NoLess n.capacities p.capacities
      → (p.tables ≡ with_rows_at t (rows_before before (rows_in m.tables t)) m.tables) ×
      NoLess m.capacities p.capacities
  back_out i before p l g e c =
      let so_far = put_all (order_in m.tables t) (rows_in m.tables t) (take i new) in
      let back = rows_before before (rows_in m.tables t) in (
        e ∙ ap (λ (x : Table). with_rows_at t (rows_before es x.rows) n.tables)
            (table_after t so_far m.tables n.tables g.tables l)
            ∙ ap (λ (xs : List Row). with_rows_at t xs n.tables) g.back ∙
            ap (λ (xs : Tables). with_rows_at t back xs) g.tables ∙
            rows_at-rows_at t so_far back m.tables l,
        no_less-trans m.capacities n.capacities p.capacities g.capacities c,
      )

  pub refused_in : (i at : ℕ) (p : Memory) → t < length m.tables → IsKept (kept_at m t) →
      Going m n t new i [] es
      → first_repeat_after (order_in m.tables t) (rows_in m.tables t) new ≡ Some at
      → p.tables ≡ undo_entry record { table = t; edits = es } n.tables →
      NoLess n.capacities p.capacities
      → IsAnswer m p t (rows_in m.tables t ++ new) (Err (Constraint at))
  refused_in i at p l k g h e c =
      let o = by_key_total (table_at m.tables t).key in
      let r = kept_rises (table_at m.tables t).columns (table_at m.tables t).key
      (rows_in m.tables t) k.rows in
      let b = back_out i [] p l g e c in (
        record { tables = b.0 ∙ rows_at-same t m.tables; capacities = b.1 },
        first_repeat-append (order_in m.tables t) o (rows_in m.tables t) new r ∙ h,
      )

pub kept_more : (l m : Memory) (t : ℕ) → m.tables ≡ l.tables → NoLess l.capacities m.capacities →
    IsKept (kept_at l t) → IsKept (kept_at m t)
kept_more l m t e c k =
    subst (λ (xs : Tables). IsKept record {
      table = table_at xs t;
      capacity =
          slice_index m.capacities t;
    }) (sym e)
    record {
      memory =
          (let h = k.memory in
          let g : slice_index l.capacities t ≤ slice_index m.capacities t = c t in omega arith);
      rows = k.rows;
    }

pub answer_in : (l m n : Memory) (t : ℕ) (new : List Row) (r : Result (List Edit) ApplyFault) →
    m.tables ≡ l.tables → NoLess l.capacities m.capacities
    → IsAnswer m n t (rows_in m.tables t ++ new) r → IsAnswer l n t (rows_in l.tables t ++ new) r
answer_in l m n t new r e c a =
    subst (λ (rows : List Row). IsAnswer l n t rows r) (ap (λ (xs : Tables). rows_in xs t ++ new) e)
    (answer_before l m n t (rows_in m.tables t ++ new) r e c a)
