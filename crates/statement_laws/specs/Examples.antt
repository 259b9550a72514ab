-- Worked rows: ends that the laws lead to.
use Rattle.std.specs.Prelude.{ℕ, ◌≡◌, [], ◌∷◌}
use Rattle.sql_values.specs.declared.value.Value.TheVariants.{Null}
use Rattle.rel_algebra.specs.World.{World, no_frame, frame_of}
use Rattle.rel_algebra.specs.Doing.{Doing, Next, Leaving, Iterating, Spent, ends, with_more}
use Rattle.rel_algebra.specs.Doing.{in_turn}
use Rattle.rel_algebra.specs.Loops.{looping, at_once, for_each}
use Rattle.statement_laws.specs.Loops.{GoesAgain, IsOver}

-- no tables, and so many turns
abbrev turns_left : ℕ → World
turns_left n = record { tables = []; turns = n; active = 0 }

-- the variables become one NULL more
abbrev one_more : Doing
one_more = λ f w. ends Next (with_more (Null ∷ []) f) w

pub record StatementsWorked : Type 0 where
  -- a loop that is left at once has taken a turn
  pub left_at_once : looping 2 at_once (ends (Leaving 2)) at_once no_frame (turns_left 3) ≡
      ends Next no_frame (turns_left 2)
  -- one that is never left takes all turns, and the frame is that of its last run
  pub never_left : looping 0 at_once one_more at_once no_frame (turns_left 2) ≡
      ends Spent (frame_of (Null ∷ Null ∷ [])) (turns_left 0)
  -- FOR over two rows takes two turns, and what its body declares leaves
  pub for_rows : for_each 0 ([] ∷ [] ∷ []) one_more no_frame (turns_left 5) ≡
      ends Next no_frame (turns_left 3)
  -- a label of a loop further outwards ends this one
  pub outer_label : IsOver 1 (Iterating 0) (Iterating 0)
  pub own_label : GoesAgain 1 (Iterating 1)
  pub left_label : IsOver 1 (Leaving 1) Next
  -- what follows a LEAVE isn't done
  pub not_done : in_turn (ends (Leaving 0)) one_more no_frame (turns_left 1) ≡
      ends (Leaving 0) no_frame (turns_left 1)
