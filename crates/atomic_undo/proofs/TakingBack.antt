-- The laws of taking back.
use Rattle.std.proofs.Common.{ℕ, zero, suc, ◌≡◌, ◌≤◌, List, [], ◌∷◌, ◌++◌, refl, sym, ap, ◌∙◌}
use Rattle.std.proofs.Common.{subst, arith, length, drop, slice_index}
use Rattle.row_types.specs.Rows.{Row}
use Rattle.row_types.specs.Tables.{Table, Tables, table_at, with_rows}
use Rattle.table_store.specs.Kept.{Kept, holding}
use Rattle.table_store.specs.Memory.{NoLess}
use Rattle.atomic_undo.specs.declared.log.Edit.{Edit}
use Rattle.atomic_undo.specs.declared.log.Edit.TheVariants.{Inserted, Appended, InsertedAll}
use Rattle.atomic_undo.specs.declared.log.Edit.TheVariants.{Removed, RemovedAll, Replaced}
use Rattle.atomic_undo.specs.declared.log.Entry.{Entry}
use Rattle.atomic_undo.specs.Undo.{undo_edit, rows_before, undo_entry, undone, back_to, CanUndoEdit}
use Rattle.atomic_undo.specs.Undo.{CanUndo, CanUndoEntry, Belongs}

-- ---- changes of one table's rows

pub rows_before-append : (xs ys : List Edit) (rows : List Row) →
    rows_before (xs ++ ys) rows ≡ rows_before xs (rows_before ys rows)
rows_before-append [] ys rows = refl
rows_before-append (x ∷ xs) ys rows = ap (undo_edit x) (rows_before-append xs ys rows)

pub CanUndo-last : (k : Kept) (es : List Edit) (e : Edit) → CanUndo k (es ++ e ∷ []) →
    CanUndoEdit k e
CanUndo-last k [] e h = h.1
CanUndo-last k (x ∷ xs) e h = CanUndo-last k xs e h.0

pub CanUndo-front : (k : Kept) (es : List Edit) (e : Edit) → CanUndo k (es ++ e ∷ []) →
    CanUndo (holding (undo_edit e k.table.rows) k) es
CanUndo-front k [] e h = tt
CanUndo-front k (x ∷ xs) e h = (
  CanUndo-front k xs e h.0,
  subst (λ (rows : List Row). CanUndoEdit (holding rows k) x)
      (rows_before-append xs (e ∷ []) k.table.rows) h.1,
)

pub CanUndo-push : (k : Kept) (es : List Edit) (e : Edit) →
    CanUndo (holding (undo_edit e k.table.rows) k) es → CanUndoEdit k e → CanUndo k (es ++ e ∷ [])
CanUndo-push k [] e h g = (tt, g)
CanUndo-push k (x ∷ xs) e h g = (
  CanUndo-push k xs e h.0 g,
  subst (λ (rows : List Row). CanUndoEdit (holding rows k) x)
      (sym (rows_before-append xs (e ∷ []) k.table.rows)) h.1,
)

-- more memory does no harm
more_edit : (t : Table) (m n : ℕ) (e : Edit) → m ≤ n →
    CanUndoEdit record { table = t; capacity = m } e →
    CanUndoEdit record { table = t; capacity = n } e
more_edit t m n (Inserted at) l h = h
more_edit t m n (Appended at) l h = h
more_edit t m n (InsertedAll places) l h = h
more_edit t m n (Removed at row) l h = record {
  place = h.place;
  room =
      (let r = h.room in omega arith);
  kept = h.kept;
}
more_edit t m n (RemovedAll removed) l h = record {
  climb = h.climb;
  room =
      (let r = h.room in omega arith);
  kept = h.kept;
}
more_edit t m n (Replaced at row) l h = record { place = h.place; kept = h.kept }

pub more_undo : (t : Table) (m n : ℕ) (es : List Edit) → m ≤ n →
    CanUndo record { table = t; capacity = m } es → CanUndo record { table = t; capacity = n } es
more_undo t m n [] l h = tt
more_undo t m n (e ∷ es) l h = (
  more_undo t m n es l h.0,
  more_edit
      (with_rows (rows_before es t.rows) t) m n e l h.1,
)

pub more_entry : (cs ds : List ℕ) (ts : Tables) (e : Entry) → NoLess cs ds → CanUndoEntry cs ts e →
    CanUndoEntry ds ts e
more_entry cs ds ts e l h = (
  h.0,
  more_undo (table_at ts e.table) (slice_index cs e.table)
      (slice_index ds e.table) e.edits (l e.table) h.1,
)

-- ---- entries

pub undone-append : (xs ys : List Entry) (ts : Tables) →
    undone (xs ++ ys) ts ≡ undone xs (undone ys ts)
undone-append [] ys ts = refl
undone-append (x ∷ xs) ys ts = ap (undo_entry x) (undone-append xs ys ts)

pub Belongs-more : (cs ds : List ℕ) (es : List Entry) (ts : Tables) → NoLess cs ds →
    Belongs cs es ts → Belongs ds es ts
Belongs-more cs ds [] ts l h = tt
Belongs-more cs ds (e ∷ es) ts l h = (
  Belongs-more cs ds es ts l h.0,
  more_entry cs ds
      (undone es ts) e l h.1,
)

pub Belongs-last : (cs : List ℕ) (es : List Entry) (e : Entry) (ts : Tables) →
    Belongs cs (es ++ e ∷ []) ts → CanUndoEntry cs ts e
Belongs-last cs [] e ts h = h.1
Belongs-last cs (x ∷ xs) e ts h = Belongs-last cs xs e ts h.0

pub Belongs-front : (cs : List ℕ) (es : List Entry) (e : Entry) (ts : Tables) →
    Belongs cs (es ++ e ∷ []) ts → Belongs cs es (undo_entry e ts)
Belongs-front cs [] e ts h = tt
Belongs-front cs (x ∷ xs) e ts h = (
  Belongs-front cs xs e ts h.0,
  subst (λ (us : Tables). CanUndoEntry cs us x) (undone-append xs (e ∷ []) ts) h.1,
)

pub Belongs-push : (cs : List ℕ) (es : List Entry) (e : Entry) (ts : Tables) →
    Belongs cs es (undo_entry e ts) → CanUndoEntry cs ts e → Belongs cs (es ++ e ∷ []) ts
Belongs-push cs [] e ts h g = (tt, g)
Belongs-push cs (x ∷ xs) e ts h g = (
  Belongs-push cs xs e ts h.0 g,
  subst (λ (us : Tables). CanUndoEntry cs us x) (sym (undone-append xs (e ∷ []) ts)) h.1,
)

-- ---- marks

drop-push : {X : Type 0} (m : ℕ) (xs : List X) (x : X) → m ≤ length xs →
    drop m (xs ++ x ∷ []) ≡ drop m xs ++ x ∷ []
drop-push zero xs x l = refl
drop-push (suc m) [] x l = absurd (omega arith)
drop-push (suc m) (y ∷ ys) x l = drop-push m ys x (omega arith)

-- an entry after a mark is taken back first
pub back_to-push : (m : ℕ) (es : List Entry) (e : Entry) (ts : Tables) → m ≤ length es →
    back_to m (es ++ e ∷ []) ts ≡ back_to m es (undo_entry e ts)
back_to-push m es e ts l = ap (λ (xs : List Entry). undone xs ts) (drop-push m es e l) ∙
    undone-append (drop m es) (e ∷ []) ts
