-- What `apply` leaves in the log.
use Rattle.std.proofs.Common.{Err, ℕ, ◌≡◌, ◌<◌, List, [], ◌∷◌, ◌++◌, sym, ap, ◌∙◌, subst, arith}
use Rattle.std.proofs.Common.{length, length-append}
use Rattle.row_types.specs.Rows.{Row}
use Rattle.row_types.specs.Tables.{Table, Tables, with_rows_at}
use Rattle.table_store.specs.Memory.{Memory, NoLess}
use Rattle.atomic_undo.specs.declared.log.Edit.{Edit}
use Rattle.atomic_undo.specs.declared.log.Entry.{Entry}
use Rattle.atomic_undo.specs.Undo.{undo_entry, rows_before, back_to, Belongs}
use Rattle.atomic_undo.specs.declared.fault.ApplyFault.{ApplyFault}
use Rattle.atomic_undo.specs.declared.fault.ApplyFault.TheVariants.{Constraint, NoMemory}
use Rattle.atomic_undo.specs.Book.{Book}
use Rattle.atomic_undo.specs.Applying.{KeepsMarks}
use Rattle.atomic_undo.specs.Changes.{rows_in, Changed, Unchanged, IsAnswer}
use Rattle.atomic_undo.proofs.Places.{rows_at-rows_at, rows_at-same}
use Rattle.atomic_undo.proofs.TakingBack.{Belongs-push, Belongs-more, back_to-push}
use Rattle.atomic_undo.proofs.Steps.{table_after, there_after}

module _ (m n : Memory) (t : ℕ) (rows : List Row) (es : List Edit) (l : t < length m.tables)
    (h : Changed m n t rows es) where
  abbrev noted : Entry
  noted = record { table = t; edits = es }

  -- taking the new entry back gives the old tables
  pub taken_back : undo_entry record { table = t; edits = es } n.tables ≡ m.tables
  taken_back =
      ap (λ (x : Table). with_rows_at t (rows_before es x.rows) n.tables)
      (table_after t rows m.tables n.tables h.tables l)
      ∙ ap (λ (xs : List Row). with_rows_at t xs n.tables) h.back ∙
      ap (λ (xs : Tables). with_rows_at t (rows_in m.tables t) xs) h.tables
      ∙ rows_at-rows_at t rows (rows_in m.tables t) m.tables l ∙ rows_at-same t m.tables

  pub belongs_noted : (entries after : List Entry) → after ≡ entries ++ noted ∷ [] →
      Belongs m.capacities entries m.tables → Belongs n.capacities after n.tables
  belongs_noted entries after e b =
      subst (λ (xs : List Entry). Belongs n.capacities xs n.tables) (sym e)
      (Belongs-push n.capacities entries noted n.tables
      (subst (λ (xs : Tables). Belongs n.capacities entries xs) (sym taken_back)
      (Belongs-more m.capacities n.capacities entries m.tables h.capacities b))
      (there_after t rows m.tables n.tables h.tables l, h.can))

  pub marks_noted : (k l : Book) → l.entries ≡ k.entries ++ noted ∷ [] → KeepsMarks m k n l
  marks_noted k l e = record {
    longer = (let a : length l.entries ≡ length (k.entries ++ noted ∷ []) = ap (λ (es : List Entry). length es) e in omega (arith, length-append k.entries (noted ∷ [])));
    back = λ mark h. ap (λ (es : List Entry). back_to mark es n.tables) e ∙
        back_to-push mark k.entries noted n.tables h ∙
        ap (λ (ts : Tables). back_to mark k.entries ts) taken_back;
  }

-- where nothing changed but memory
pub belongs_unchanged : (m n : Memory) (entries after : List Entry) → after ≡ entries →
    n.tables ≡ m.tables → NoLess m.capacities n.capacities → Belongs m.capacities entries m.tables →
    Belongs n.capacities after n.tables
belongs_unchanged m n entries after e u c b =
    subst (λ (xs : List Entry). Belongs n.capacities xs n.tables) (sym e)
    (subst (λ (xs : Tables). Belongs n.capacities entries xs) (sym u)
    (Belongs-more m.capacities n.capacities entries m.tables c b))

-- a fault leaves the tables
pub unchanged_by : (m n : Memory) (t : ℕ) (rows : List Row) (f : ApplyFault) →
    IsAnswer m n t rows (Err f) → Unchanged m n
unchanged_by m n t rows (Constraint at) a = a.0
unchanged_by m n t rows NoMemory a = a
