-- What a world holds, and what every run keeps of it. ISO/IEC 9075-2, 4.17 (SQL-statements and
-- atomicity).
use Rattle.std.specs.Prelude.{ℕ, ◌≡◌, ◌≤◌, take}
use Rattle.table_store.specs.Memory.{Memory}
use Rattle.atomic_undo.specs.Book.{Book}
use Rattle.atomic_undo.specs.Undo.{back_to}
use Rattle.atomic_undo.specs.Applying.{KeepsMarks}
use Rattle.rel_algebra.specs.World.{World}

-- the tables beside what they have memory for, the log, the turns that are left, and how many
-- routines that call themselves are active
pub record Content : Type 0 where
  pub memory : Memory
  pub book : Book
  pub turns : ℕ
  pub active : ℕ

-- the world that the meaning speaks of
abbrev pub world_of : Content → World
world_of c = record { tables = c.memory.tables; turns = c.turns; active = c.active }

-- the same with so many turns left
abbrev pub turned : ℕ → Content → Content
turned n c = record c { turns = n }

-- the same with so many active routines
abbrev pub counted : ℕ → Content → Content
counted n c = record c { active = n }

-- What each run keeps: no mark is lost, and what a roll back to each mark taken before would give
-- is unchanged; as many routines are active; turns never rise.
pub record Stays (old new : Content) : Type 0 where
  pub marks : KeepsMarks old.memory old.book new.memory new.book
  pub active : new.active ≡ old.active
  pub turns : new.turns ≤ old.turns

-- all changes after a mark are taken back, and nothing else changes
pub record IsBackAt (mark : ℕ) (old new : Content) : Type 0 where
  pub tables : new.memory.tables ≡ back_to mark old.book.entries old.memory.tables
  pub entries : new.book.entries ≡ take mark old.book.entries
  pub earlier : (m : ℕ) → m ≤ mark → back_to m new.book.entries new.memory.tables ≡
      back_to m old.book.entries old.memory.tables
  pub active : new.active ≡ old.active
  pub turns : new.turns ≡ old.turns
