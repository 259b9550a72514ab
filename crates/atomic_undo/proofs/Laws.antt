-- What the crates above need of tables and their log: that marks are kept over a run of statements,
-- what a roll back after it leaves, that an empty log belongs to all tables, and that places which
-- are gone through one by one climb.
use Rattle.std.proofs.Common.{ℕ, ◌≡◌, ◌≤◌, List, [], refl, sym, ap, ◌∙◌, subst, arith, le_refl}
use Rattle.std.proofs.Common.{le_trans, length, take}
use Rattle.std.proofs.lemmas.List.{drop_all, length-take-le}
use Rattle.row_types.specs.Tables.{Tables}
use Rattle.table_store.specs.Memory.{Memory, NoLess}
use Rattle.atomic_undo.specs.declared.log.Entry.{Entry}
use Rattle.atomic_undo.specs.Book.{Book}
use Rattle.atomic_undo.specs.Undo.{undone, back_to, Belongs}
use Rattle.atomic_undo.specs.Applying.{KeepsMarks}
use Rattle.atomic_undo.proofs.TakingBack.{Belongs-more}
-- places that are gone through, one after another
pub use Rattle.atomic_undo.proofs.Climbing.{climb_step, climb_end}

-- ---- which log belongs to which tables

pub Belongs-none : (capacities : List ℕ) (ts : Tables) → Belongs capacities [] ts
Belongs-none capacities ts = tt

-- more memory does no harm
pub Belongs-with_more : (fewer more : List ℕ) (entries : List Entry) (ts : Tables) →
    NoLess fewer more → Belongs fewer entries ts → Belongs more entries ts
Belongs-with_more fewer more entries ts l h = Belongs-more fewer more entries ts l h

-- ---- marks

-- a mark where a log ends leads to the tables as they are
pub back_to-end : (entries : List Entry) (ts : Tables) → back_to (length entries) entries ts ≡ ts
back_to-end entries ts = ap (λ (es : List Entry). undone es ts)
    (drop_all (length entries) entries (le_refl (length entries)))

pub KeepsMarks-refl : (m : Memory) (k : Book) → KeepsMarks m k m k
KeepsMarks-refl m k = record { longer = le_refl (length k.entries); back = λ mark l. refl }

pub KeepsMarks-trans : (m : Memory) (k : Book) (n : Memory) (l : Book) (p : Memory) (q : Book) →
    KeepsMarks m k n l → KeepsMarks n l p q → KeepsMarks m k p q
KeepsMarks-trans m k n l p q f g = record {
  longer = le_trans f.longer g.longer;
  back = λ mark h. g.back mark (le_trans h f.longer) ∙ f.back mark h;
}

-- where tables and entries are as they were
pub KeepsMarks-same : (m : Memory) (k : Book) (n : Memory) (l : Book) → n.tables ≡ m.tables →
    l.entries ≡ k.entries → KeepsMarks m k n l
KeepsMarks-same m k n l e f = record {
  longer = subst (λ (es : List Entry). length k.entries ≤ length es) (sym f)
      (le_refl (length k.entries));
  back = λ mark h. ap (λ (es : List Entry). back_to mark es n.tables) f ∙
      ap (back_to mark k.entries) e;
}

-- after a run of statements a roll back to the mark from before it gives the tables of then
pub back_to-run : (m : Memory) (k : Book) (n : Memory) (l : Book) → KeepsMarks m k n l →
    back_to (length k.entries) l.entries n.tables ≡ m.tables
back_to-run m k n l h = h.back (length k.entries) (le_refl (length k.entries)) ∙
    back_to-end k.entries m.tables

-- and keeps all marks from before it
pub KeepsMarks-rolled_back : (m : Memory) (k : Book) (n : Memory) (l : Book) (p : Memory)
    (q : Book) → KeepsMarks m k n l → q.entries ≡ take (length k.entries) l.entries
    → ((mark : ℕ) → mark ≤ length k.entries →
    back_to mark q.entries p.tables ≡ back_to mark l.entries n.tables) → KeepsMarks m k p q
KeepsMarks-rolled_back m k n l p q h e f = record {
  longer =
      let a : length q.entries ≡ length (take (length k.entries) l.entries) =
      ap (λ (es : List Entry). length es) e in
      let b = length-take-le (length k.entries) l.entries h.longer in
      omega arith;
  back = λ mark g. f mark g ∙ h.back mark g;
}
