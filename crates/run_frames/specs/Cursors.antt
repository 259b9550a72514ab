-- Cursors in code, and what FETCH finds. ISO/IEC 9075-2, 14.5 (fetch statement).
use Rattle.std.specs.Prelude.{ℕ, Bool, true, false, [], ◌∷◌, reverse}
use Rattle.rel_algebra.specs.World.{Frame, Cursor, Closed, Opened}
use Rattle.rel_algebra.specs.Cursors.{put_cursor}
use Rattle.run_frames.specs.declared.cursor.Form.{Form}
use Rattle.run_frames.specs.declared.cursor.Form.TheVariants as form
use Rattle.run_frames.specs.declared.cursor.Fetched.{Fetched}
use Rattle.run_frames.specs.declared.cursor.Fetched.TheVariants as fetched

-- the cursor, by where its rows lie
abbrev pub cursor_in_form : Form → Cursor
cursor_in_form form.Closed = Closed
cursor_in_form (form.Opened rows) = Opened (reverse rows.items)

-- whether a cursor is open
abbrev pub is_opened : Cursor → Bool
is_opened Closed = false
is_opened (Opened rows) = true

-- what FETCH finds at a cursor
abbrev pub fetched_of : Cursor → Fetched
fetched_of Closed = fetched.Closed
fetched_of (Opened []) = fetched.NoRow
fetched_of (Opened (row ∷ rows)) = fetched.Row row

-- the cursor once it moved on; one that is closed or without a row stays
abbrev pub left_of : Cursor → Cursor
left_of Closed = Closed
left_of (Opened []) = Opened []
left_of (Opened (row ∷ rows)) = Opened rows

-- the frame once the cursor of a slot moved on
abbrev pub moved_on : ℕ → Cursor → Frame → Frame
moved_on slot Closed f = f
moved_on slot (Opened []) f = f
moved_on slot (Opened (row ∷ rows)) f = put_cursor slot (Opened rows) f
