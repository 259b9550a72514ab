-- One step of taking back.
use Rattle.std.proofs.Common.{Bool, true, false, ℕ, ◌≡◌, ◌<◌, ◌≤◌, List, [], ◌∷◌, ◌++◌, sym, ap}
use Rattle.std.proofs.Common.{◌∙◌, subst, arith, length, take, slice_index, length-append}
use Rattle.std.proofs.lemmas.List.{take-append-le, drop_all}
use Rattle.row_types.specs.Rows.{Row}
use Rattle.row_types.specs.Tables.{Table, Tables, table_at, with_rows, with_rows_at}
use Rattle.table_store.specs.Memory.{Memory, kept_at, NoLess}
use Rattle.atomic_undo.specs.declared.log.Edit.{Edit}
use Rattle.atomic_undo.specs.declared.log.Entry.{Entry}
use Rattle.atomic_undo.specs.Undo.{undo_edit, rows_before, undo_entry, undone, back_to, CanUndo}
use Rattle.atomic_undo.specs.Undo.{CanUndoEntry, Belongs}
use Rattle.atomic_undo.proofs.Places.{length-with, rows-with, rows_at-rows_at}
use Rattle.atomic_undo.proofs.TakingBack.{CanUndo-front, rows_before-append, more_undo}
use Rattle.atomic_undo.proofs.TakingBack.{Belongs-front, Belongs-last, Belongs-more, back_to-push}

-- ---- one change of a table

pub there_after : (t : ℕ) (rows : List Row) (ts us : Tables) → us ≡ with_rows_at t rows ts →
    t < length ts → t < length us
there_after t rows ts us e l = subst (λ (xs : Tables). t < length xs) (sym e)
    (let h = length-with t (with_rows rows (table_at ts t)) ts in omega arith)

pub table_after : (t : ℕ) (rows : List Row) (ts us : Tables) → us ≡ with_rows_at t rows ts →
    t < length ts → table_at us t ≡ with_rows rows (table_at ts t)
table_after t rows ts us e l = ap (λ (xs : Tables). table_at xs t) e ∙ rows-with t rows ts l

pub can_after : (m n : Memory) (t : ℕ) (es fs : List Edit) (e : Edit) → fs ≡ es ++ e ∷ [] →
    t < length m.tables → CanUndo (kept_at m t) fs
    → n.tables ≡ with_rows_at t (undo_edit e (table_at m.tables t).rows) m.tables →
    NoLess m.capacities n.capacities → CanUndo (kept_at n t) es
can_after m n t es fs e is l h eq c =
    let rows = undo_edit e (table_at m.tables t).rows in
    subst (λ (x : Table). CanUndo record { table = x; capacity = slice_index n.capacities t } es)
    (sym (table_after t rows m.tables n.tables eq l))
    (more_undo (with_rows rows (table_at m.tables t)) (slice_index m.capacities t)
    (slice_index n.capacities t) es (c t)
    (CanUndo-front (kept_at m t) es e (subst (λ (xs : List Edit). CanUndo (kept_at m t) xs) is h)))

pub rows_after : (m n : Memory) (t : ℕ) (es fs : List Edit) (e : Edit) → fs ≡ es ++ e ∷ [] →
    t < length m.tables
    → n.tables ≡ with_rows_at t (undo_edit e (table_at m.tables t).rows) m.tables
    → with_rows_at t (rows_before es (table_at n.tables t).rows) n.tables ≡ with_rows_at t
    (rows_before fs (table_at m.tables t).rows) m.tables
rows_after m n t es fs e is l eq =
    let rows = undo_edit e (table_at m.tables t).rows in
    ap (λ (x : Table). with_rows_at t (rows_before es x.rows) n.tables)
    (table_after t rows m.tables n.tables eq l)
    ∙ ap (λ (xs : List Row). with_rows_at t xs n.tables)
    (sym (rows_before-append es (e ∷ []) (table_at m.tables t).rows) ∙
    ap (λ (xs : List Edit). rows_before xs (table_at m.tables t).rows) (sym is))
    ∙ ap (λ (xs : Tables). with_rows_at t (rows_before fs (table_at m.tables t).rows) xs) eq
    ∙ rows_at-rows_at t rows (rows_before fs (table_at m.tables t).rows) m.tables l

-- ---- one entry of a log

pub can_last : (m : Memory) (es fs : List Entry) (e : Entry) → fs ≡ es ++ e ∷ [] →
    Belongs m.capacities fs m.tables → CanUndoEntry m.capacities m.tables e
can_last m es fs e is b = Belongs-last m.capacities es e m.tables
    (subst (λ (xs : List Entry). Belongs m.capacities xs m.tables) is b)

pub belongs_after : (m n : Memory) (es fs : List Entry) (e : Entry) → fs ≡ es ++ e ∷ [] →
    Belongs m.capacities fs m.tables
    → n.tables ≡ undo_entry e m.tables → NoLess m.capacities n.capacities →
    Belongs n.capacities es n.tables
belongs_after m n es fs e is b eq c =
    subst (λ (xs : Tables). Belongs n.capacities es xs) (sym eq)
    (Belongs-more m.capacities n.capacities es (undo_entry e m.tables) c
    (Belongs-front m.capacities es e m.tables
    (subst (λ (xs : List Entry). Belongs m.capacities xs m.tables) is b)))

pub length_before : (es fs : List Entry) (e : Entry) (k : ℕ) → fs ≡ es ++ e ∷ [] → k < length fs →
    k ≤ length es
length_before es fs e k is l =
    let h : length fs ≡ length (es ++ e ∷ []) = ap (λ (xs : List Entry). length xs) is in
    omega (arith, length-append es (e ∷ []))

pub back_after : (m n : Memory) (es fs : List Entry) (e : Entry) (k : ℕ) → fs ≡ es ++ e ∷ [] →
    k ≤ length es → n.tables ≡ undo_entry e m.tables → back_to k es n.tables ≡ back_to k fs m.tables
back_after m n es fs e k is l eq =
    ap (λ (xs : Tables). back_to k es xs) eq ∙ sym (back_to-push k es e m.tables l) ∙
    ap (λ (xs : List Entry). back_to k xs m.tables) (sym is)

pub front_after : (es fs : List Entry) (e : Entry) (k : ℕ) → fs ≡ es ++ e ∷ [] → k ≤ length es →
    take k es ≡ take k fs
front_after es fs e k is l = sym (ap (λ (xs : List Entry). take k xs) is ∙
    take-append-le k es (e ∷ []) l)

pub back_here : (es : List Entry) (k : ℕ) (ts : Tables) → length es ≤ k → back_to k es ts ≡ ts
back_here es k ts l = ap (λ (xs : List Entry). undone xs ts) (drop_all k es l)

pub at_end : (b : Bool) (m n : ℕ) → (m < n → b ≡ true) → b ≡ false → n ≤ m
at_end b m n f e = let g : m < n → ⊥ = (λ l. let t = f l in cc) in omega arith
