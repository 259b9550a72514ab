-- INSERT, UPDATE and DELETE that stand in a script: how many rows they store, change or remove, and
-- what the statement does then. ISO/IEC 9075-2, 14.9 (delete statement), 14.11 (insert statement)
-- and 14.14 (update statement).
use Rattle.std.specs.Prelude.{ℕ, ◌≡◌, List, [], Option, None}
use Rattle.rel_algebra.specs.Tree.{Query, Insert, Update, Delete}
use Rattle.rel_algebra.specs.World.{World, Ends, Eval, ◌>>=◌, unit, no_self, no_frame}
use Rattle.rel_algebra.specs.Doing.{End}
use Rattle.rel_algebra.specs.Handlers.{with_end}
use Rattle.rel_algebra.specs.Meaning.{answer, met, run}
use Rattle.rel_algebra.specs.Writing.{stored, stored_in, changed, removed}

-- All rows are evaluated, and then stored.
abbrev pub insert : List ℕ → Option (List ℕ) → Query → Eval ℕ
insert name listed query = unit (do
  new ← answer query no_self [] no_frame
  stored_in name listed new)

-- the same in all columns, in their order
abbrev pub insert_all : List ℕ → Query → Eval ℕ
insert_all name query = unit (do
  new ← answer query no_self [] no_frame
  stored name new)

-- All rows are met and all values evaluated, and then the rows are changed.
abbrev pub update : List ℕ → List ℕ → Query → Eval ℕ
update name targets query = unit (do
  met ← answer query no_self [] no_frame
  changed name targets met)

-- All rows are met, and then they are removed.
abbrev pub delete : List ℕ → Query → Eval ℕ
delete name query = unit (do
  met ← answer query no_self [] no_frame
  removed name met)

-- with so many rows the statement is at its end; with none it raises
abbrev pub ended : Ends ℕ → End
ended e = with_end [] e no_frame (met [])

-- the statements of a script are these
pub record ChangesRun : Type 0 where
  -- INSERT of a script is `insert`, and raises where it stores no row
  pub inserting : (name : List ℕ) (listed : Option (List ℕ)) (query : Query) (w : World) →
      run (Insert name listed query) w ≡ ended (insert name listed query w)
  -- UPDATE of a script is `update`, and raises where it meets no row
  pub updating : (name targets : List ℕ) (query : Query) (w : World) →
      run (Update name targets query) w ≡ ended (update name targets query w)
  -- DELETE of a script is `delete`, and raises where it meets no row
  pub deleting : (name : List ℕ) (query : Query) (w : World) →
      run (Delete name query) w ≡ ended (delete name query w)
  -- an INSERT that lists no columns is one of all columns, in their order
  pub without_list : (name : List ℕ) (query : Query) (w : World) →
      insert name None query w ≡ insert_all name query w
