-- INSERT, UPDATE and DELETE, by what they do with the rows of their query. ISO/IEC 9075-2, 14.11
-- (insert statement), 14.14 (update statement) and 14.9 (delete statement).
use Rattle.std.specs.Prelude.{◌≡◌, ℕ, List, [], Result, Ok, Err}
use Rattle.row_types.specs.Rows.{Row}
use Rattle.rel_algebra.specs.Tree.{Query}
use Rattle.rel_algebra.specs.World.{Called, Eval, Frame, ◌>>=◌}
use Rattle.rel_algebra.specs.Meaning.{answer}
use Rattle.rel_algebra.specs.Writing.{changed, removed, stored_in}
use Rattle.run_choices.specs.declared.stop.Stop.{Stop}
use Rattle.run_expressions.specs.Content.{Content, world_of}
use Rattle.run_expressions.specs.Ending.{Ended}
use Rattle.run_routines.specs.declared.writing.DataChange.{DataChange}
use Rattle.run_routines.specs.declared.writing.DataChange.TheVariants as held

-- what is done with the rows; it gives how many they are
abbrev pub written : DataChange → List ℕ → List Row → Eval ℕ
written (held.Insert listed) name rows = stored_in name listed.now rows
written (held.Update targets) name rows = changed name targets.now rows
written held.Delete name rows = removed name rows

-- all rows of the query are evaluated, and then written
abbrev pub writes : DataChange → List ℕ → Query → Called → Frame → Eval ℕ
writes change name query self f = do
  rows ← answer query self [] f
  written change name rows

-- What goes on from an answer, in the world that it left. Where the answer is a stop, nothing is
-- done, and it is that stop.
abbrev pub GoesOnWith : {A B : Type 0} → Result A Stop → Content → Content → Result B Stop →
    (A → Eval B) → Type 0
GoesOnWith (Ok a) old new answer go = Ended old new answer (go a (world_of old))
GoesOnWith (Err stop) old new answer go = (answer ≡ Err stop) × (new ≡ old)
