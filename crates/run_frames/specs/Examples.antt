-- Worked rows of frames and cursors. ISO/IEC 9075-4, 14.1 (compound statement) and 14.2 (handler
-- declaration); ISO/IEC 9075-2, 14.5 (fetch statement).
use Rattle.std.specs.Prelude.{◌≡◌, ℕ, [], ◌∷◌, pos}
use Rattle.sql_values.specs.declared.value.Value.{Value}
use Rattle.sql_values.specs.declared.value.Value.TheVariants.{Null, Int}
use Rattle.sql_values.specs.declared.value.SqlType.TheVariants.{Integer}
use Rattle.row_types.specs.Rows.{Row}
use Rattle.rel_algebra.specs.Tree.{Target}
use Rattle.rel_algebra.specs.World.{World, Frame, Closed, Opened, frame_of, variable_of}
use Rattle.rel_algebra.specs.Cursors.{cursor_in}
use Rattle.rel_algebra.specs.Doing.{Next, ends, with_more, with_cursors, put_in}
use Rattle.rel_algebra.specs.Doing.{first_of, outside, only_of}
use Rattle.run_frames.specs.declared.cursor.Fetched.TheVariants as fetched
use Rattle.run_frames.specs.Cursors.{fetched_of, left_of, moved_on}
use Rattle.run_frames.specs.Frames.{kept_of, with_kept, extent_of}

-- a number
abbrev number : ℕ → Value
number n = Int (pos n)

-- a target of numbers
abbrev into : ℕ → Target
into slot = record { slot = slot; data_type = Integer }

-- ---- cut after a block

-- a routine with two variables, of 1 and 2
abbrev two : Frame
two = frame_of (number 1 ∷ number 2 ∷ [])

-- inside a block that declares a variable of 3 and a cursor, and stores 9 into the second variable
abbrev in_block : Frame
in_block = put_in (into 1 ∷ []) (number 9 ∷ [])
    (with_cursors (Closed ∷ []) (with_more (number 3 ∷ []) two))

-- What a block declared leaves with it, and what it stored stays. Two values for one slot: the
-- later one stays. A slot that isn't there takes nothing, and has NULL.
pub record BlocksLeave : Type 0 where
  pub inside : in_block.variables ≡ number 1 ∷ number 9 ∷ number 3 ∷ []
  pub after : first_of 2 0 in_block ≡ frame_of (number 1 ∷ number 9 ∷ [])
  pub same : first_of (extent_of two).variables (extent_of two).cursors in_block
      ≡ only_of two in_block
  pub later : put_in (into 0 ∷ into 0 ∷ []) (number 5 ∷ number 6 ∷ []) two
      ≡ frame_of (number 6 ∷ number 2 ∷ [])
  pub nowhere : put_in (into 2 ∷ []) (number 5 ∷ []) two ≡ two
  pub unknown : variable_of 2 two ≡ Null

-- ---- an action with a variable of its own

-- an action that sees one variable: it declares one of its own with 7, stores 8 into that, and 4
-- into the one that it sees
abbrev action : Frame → Frame
action f = first_of 1 0 (put_in (into 1 ∷ into 0 ∷ []) (number 8 ∷ number 4 ∷ [])
    (with_more (number 7 ∷ []) f))

-- the variables of a frame while the tail of another is kept aside
abbrev while_aside : ℕ → ℕ → (Frame → Frame) → Frame → Frame
while_aside n m go f = with_kept (kept_of n m f) (go (first_of n m f))

-- An action's own variable has the slot of one that it doesn't see, which keeps its value. Setting
-- aside and bringing back are together what the meaning does around an action.
pub record ActionsHaveTheirOwn : Type 0 where
  pub kept : kept_of 1 0 two ≡ record { variables = number 2 ∷ []; cursors = [] }
  pub around : while_aside 1 0 action two ≡ frame_of (number 4 ∷ number 2 ∷ [])
  pub meant : (n m : ℕ) (go : Frame → Frame) (f : Frame) (w : World)
      → outside n m (λ g. ends Next (go g)) f w ≡ ends Next (while_aside n m go f) w

-- ---- a cursor to its end

-- a row of one number
abbrev row : ℕ → Row
row n = number n ∷ []

-- A cursor of two rows gives the first, then the second, then no row, and stays open. A closed one
-- gives nothing. Each has its slot; where no cursor is, none is open.
pub record CursorsMoveOn : Type 0 where
  pub first : fetched_of (Opened (row 1 ∷ row 2 ∷ [])) ≡ fetched.Row (row 1)
  pub second : fetched_of (left_of (Opened (row 1 ∷ row 2 ∷ []))) ≡ fetched.Row (row 2)
  pub end : fetched_of (left_of (left_of (Opened (row 1 ∷ row 2 ∷ [])))) ≡ fetched.NoRow
  pub stays : left_of (Opened []) ≡ Opened []
  pub closed : fetched_of Closed ≡ fetched.Closed
  pub in_its_slot : moved_on 1 (Opened (row 1 ∷ []))
      (with_cursors (Closed ∷ Opened (row 1 ∷ []) ∷ []) two)
      ≡ with_cursors (Closed ∷ Opened [] ∷ []) two
  pub nowhere : moved_on 2 (cursor_in 2 two) two ≡ two
