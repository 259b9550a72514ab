-- What OPEN, FETCH and CLOSE do, by what is found at a cursor. ISO/IEC 9075-2, 14.4 to 14.6.
use Rattle.std.proofs.Common.{◌≡◌, ℕ, List, [], ◌∷◌, cond, refl}
use Rattle.row_types.specs.Rows.{Row}
use Rattle.rel_algebra.specs.Tree.{Target}
use Rattle.rel_algebra.specs.States.{no_data, invalid_cursor}
use Rattle.rel_algebra.specs.World.{Frame, Cursor, Closed, Opened, Eval}
use Rattle.rel_algebra.specs.Doing.{Doing, take_values, completed, storing}
use Rattle.rel_algebra.specs.Handlers.{Scopes, failing, raising, with_called, with_value}
use Rattle.rel_algebra.specs.Cursors.{put_cursor, opening, fetching, closing}
use Rattle.run_frames.specs.declared.cursor.Fetched.{Fetched}
use Rattle.run_frames.specs.declared.cursor.Fetched.TheVariants as fetched
use Rattle.run_frames.specs.Cursors.{is_opened, fetched_of, moved_on}

-- OPEN of an open cursor raises
pub opening_by : (c : Cursor) (slot : ℕ) (scopes : Scopes) (query : Frame → Eval (List Row)) →
    opening c slot scopes query
    ≡ cond (is_opened c) (failing scopes invalid_cursor)
    (with_value scopes query (λ rows f w. completed 0 (put_cursor slot (Opened rows) f) w))
opening_by Closed slot scopes query = refl
opening_by (Opened rows) slot scopes query = refl

-- CLOSE of a closed cursor raises
pub closing_by : (c : Cursor) (slot : ℕ) (scopes : Scopes) →
    closing c slot scopes
    ≡ cond (is_opened c) (λ f w. completed 0 (put_cursor slot Closed f) w)
    (failing scopes invalid_cursor)
closing_by Closed slot scopes = refl
closing_by (Opened rows) slot scopes = refl

-- what FETCH does with what it finds, in the frame whose cursor moved on
abbrev pub fetching_with : Fetched → Scopes → List Target → Doing
fetching_with fetched.Closed scopes targets = failing scopes invalid_cursor
fetching_with fetched.NoRow scopes targets = raising scopes no_data
fetching_with (fetched.Row row) scopes targets =
    with_called scopes (λ g. take_values targets row) (storing targets)

-- FETCH
pub fetching_by : (c : Cursor) (slot : ℕ) (scopes : Scopes) (targets : List Target) →
    fetching c slot scopes targets
    ≡ (λ f w. fetching_with (fetched_of c) scopes targets (moved_on slot c f) w)
fetching_by Closed slot scopes targets = refl
fetching_by (Opened []) slot scopes targets = refl
fetching_by (Opened (row ∷ rows)) slot scopes targets = refl
