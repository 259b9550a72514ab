-- Cursors. ISO/IEC 9075-2, 14.4 (open statement), 14.5 (fetch statement) and 14.6 (close
-- statement).
use Rattle.std.specs.Prelude.{ℕ, List, [], ◌∷◌, slice_set, slice_index_or}
use Rattle.row_types.specs.Rows.{Row}
use Rattle.rel_algebra.specs.Tree.{Target}
use Rattle.rel_algebra.specs.States.{no_data, invalid_cursor}
use Rattle.rel_algebra.specs.World.{Frame, Cursor, Closed, Opened, Eval}
use Rattle.rel_algebra.specs.Doing.{Doing, with_cursors, take_values, completed, storing}
use Rattle.rel_algebra.specs.Handlers.{Scopes, failing, raising, with_called, with_value}

-- the cursor of a slot
abbrev pub cursor_in : ℕ → Frame → Cursor
cursor_in slot f = slice_index_or f.cursors slot Closed

-- the frame with a cursor in a slot
abbrev pub put_cursor : ℕ → Cursor → Frame → Frame
put_cursor slot cursor f = with_cursors (slice_set f.cursors slot cursor) f

-- OPEN: the rows are those of this moment; a query that raises leaves the cursor closed
abbrev pub opening : Cursor → ℕ → Scopes → (Frame → Eval (List Row)) → Doing
opening (Opened rows) slot scopes query = failing scopes invalid_cursor
opening Closed slot scopes query =
    with_value scopes query (λ rows f w. completed 0 (put_cursor slot (Opened rows) f) w)

-- FETCH moves on, also where its row is refused
abbrev pub fetching : Cursor → ℕ → Scopes → List Target → Doing
fetching Closed slot scopes targets = failing scopes invalid_cursor
fetching (Opened []) slot scopes targets = raising scopes no_data
fetching (Opened (row ∷ rows)) slot scopes targets = λ f w.
    with_called scopes (λ g. take_values targets row) (storing targets)
    (put_cursor slot (Opened rows) f) w

-- CLOSE: it raises where the cursor is closed. 14.6 (close statement)
abbrev pub closing : Cursor → ℕ → Scopes → Doing
closing Closed slot scopes = failing scopes invalid_cursor
closing (Opened rows) slot scopes = λ f w. completed 0 (put_cursor slot Closed f) w

-- by the cursor of a slot
abbrev pub at_cursor : ℕ → (Cursor → Doing) → Doing
at_cursor slot go = λ f w. go (cursor_in slot f) f w
