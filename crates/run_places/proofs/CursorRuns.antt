-- OPEN, FETCH and CLOSE while they run.
use Rattle.std.proofs.Common.{◌≡◌, ℕ, true, false, [], ◌∷◌, List, Option, Some, None, Result}
use Rattle.std.proofs.Common.{Ok, Err, refl, sym, ap, ◌∙◌, subst, Bor, zero, suc}
use Rattle.std.specs.Prelude.{slice_get}
use Rattle.sql_texts.specs.declared.memory.NoMemory.{NoMemory}
use Rattle.sql_values.specs.declared.value.Value.{Value}
use Rattle.bound_trees.specs.declared.query.BoundQuery.{BoundQuery}
use Rattle.row_types.specs.Rows.{Row}
use Rattle.rel_algebra.specs.Cursors.{closing, cursor_in, fetching, opening, put_cursor}
use Rattle.rel_algebra.specs.States.{invalid_cursor, no_data, success}
use Rattle.rel_algebra.specs.Tree as tree
use Rattle.rel_algebra.specs.Tree.{Query, Target}
use Rattle.rel_algebra.specs.World.{World, Frame, Cursor, Closed, Opened, Eval, Gives}
use Rattle.rel_algebra.specs.World.{unit}
use Rattle.rel_algebra.specs.Doing.{Doing, End, Next, Spent as NoTurn, completed, ends, put_in, storing}
use Rattle.rel_algebra.specs.Doing.{take_values, with_diagnostics}
use Rattle.rel_algebra.specs.Handlers.{Scopes, failing, raising, with_called, with_value}
use Rattle.routine_views.specs.Views.{Known, query_in, cursor_in as query_of}
use Rattle.run_choices.specs.declared.stop.Stop.{Stop}
use Rattle.run_choices.specs.declared.stop.Stop.TheVariants.{Raised, Spent, NoMemory as NoRoom}
use Rattle.run_choices.specs.Ending.{TellsAnywhere}
use Rattle.run_expressions.specs.Content.{Content, world_of}
use Rattle.run_expressions.specs.Ending.{Ended}
use Rattle.run_expressions.proofs.Laws.{stays_same}
use Rattle.run_frames.specs.Cursors.{fetched_of, is_opened, moved_on}
use Rattle.run_frames.specs.declared.cursor.Fetched.TheVariants as fetched
use Rattle.run_outcomes.specs.declared.outcome.Outcome.{Outcome}
use Rattle.run_outcomes.specs.declared.outcome.Outcome.TheVariants as held
use Rattle.run_places.specs.Places.{queries_in}
use Rattle.run_places.specs.Ran.{Ran, GoesOnFrom}
use Rattle.run_places.proofs.Taking.{same_end}
use Rattle.run_places.proofs.Underway.{ends_here, underway, value_gives, value_stops}
use Rattle.run_places.proofs.Underway.{wants_ran}
use Rattle.statement_laws.proofs.Laws.{called}

-- ---- CLOSE

-- a closed cursor
pub close_fails : (slot : ℕ) (cursor : Cursor) (scopes : Scopes) → is_opened cursor ≡ false →
    closing cursor slot scopes ≡ failing scopes invalid_cursor
close_fails slot Closed scopes h = refl
close_fails slot (Opened rows) scopes h = absurd cc

-- an open one
pub close_closes : (slot : ℕ) (cursor : Cursor) (scopes : Scopes) → is_opened cursor ≡ true →
    closing cursor slot scopes ≡ (λ f w. completed 0 (put_cursor slot Closed f) w)
close_closes slot Closed scopes h = absurd cc
close_closes slot (Opened rows) scopes h = refl

-- ---- OPEN

-- an open cursor
pub open_fails : (slot : ℕ) (cursor : Cursor) (scopes : Scopes) (query : Frame → Eval (List Row)) →
    is_opened cursor ≡ true → opening cursor slot scopes query ≡ failing scopes invalid_cursor
open_fails slot Closed scopes query h = absurd cc
open_fails slot (Opened rows) scopes query h = refl

-- a closed one
pub open_opens : (slot : ℕ) (cursor : Cursor) (scopes : Scopes) (query : Frame → Eval (List Row)) →
    is_opened cursor ≡ false → opening cursor slot scopes query ≡ with_value scopes query
    (λ rows f w. completed 0 (put_cursor slot (Opened rows) f) w)
open_opens slot Closed scopes query h = refl
open_opens slot (Opened rows) scopes query h = absurd cc

-- ---- FETCH

module _ (slot : ℕ) (scopes : Scopes) (targets : List Target) (f g : Frame) (w : World) where
  -- what FETCH does
  abbrev pub fetch_end : Cursor → End
  fetch_end cursor = fetching cursor slot scopes targets f w

  -- the cursor is closed
  pub fetch_closed : (cursor : Cursor) → fetched.Closed ≡ fetched_of cursor →
      g ≡ moved_on slot cursor f → fetch_end cursor ≡ failing scopes invalid_cursor g w
  fetch_closed Closed h left = ap (λ (x : Frame). failing scopes invalid_cursor x w) (sym left)
  fetch_closed (Opened []) h left = absurd cc
  fetch_closed (Opened (row ∷ rows)) h left = absurd cc

  -- no row is left
  pub fetch_none : (cursor : Cursor) → fetched.NoRow ≡ fetched_of cursor →
      g ≡ moved_on slot cursor f → fetch_end cursor ≡ raising scopes no_data g w
  fetch_none Closed h left = absurd cc
  fetch_none (Opened []) h left = ap (λ (x : Frame). raising scopes no_data x w) (sym left)
  fetch_none (Opened (row ∷ rows)) h left = absurd cc

  -- the next row
  pub fetch_row : (cursor : Cursor) (found : Row) → fetched.Row found ≡ fetched_of cursor →
      g ≡ moved_on slot cursor f → fetch_end cursor ≡
      with_called scopes (λ y. take_values targets found) (storing targets) g w
  fetch_row Closed found h left = absurd cc
  fetch_row (Opened []) found h left = absurd cc
  fetch_row (Opened (row ∷ rows)) found h left =
      ap (λ (x : Frame). with_called scopes (λ y. take_values targets row) (storing targets) x w)
      (sym left)
      ∙ ap (λ (x : Row). with_called scopes (λ y. take_values targets x) (storing targets) g w)
      (sym (same_row found row h))
    where
      row_of : fetched.the_data → Row
      row_of (fetched.Row r) = r
      row_of fetched.NoRow = []
      row_of fetched.Closed = []

      same_row : (a b : Row) → fetched.Row a ≡ fetched.Row b → a ≡ b
      same_row a b is = ap row_of is

-- values go into their targets
pub fetch_stores : (scopes : Scopes) (targets : List Target) (row : Row) (values : List Value)
    (f g h : Frame) (m : Content) (r : Result Outcome NoMemory) →
    ((w : World) → take_values targets row w ≡ Gives values w) → g ≡ put_in targets values f →
    h ≡ with_diagnostics success 0 g → r ≡ Ok held.Next →
    Ran m m h r (with_called scopes (λ y. take_values targets row) (storing targets) f (world_of m))
fetch_stores scopes targets row values f g h m r taken put done is =
    same_end m m h r (ends Next h (world_of m))
    (with_called scopes (λ y. take_values targets row) (storing targets) f (world_of m))
    ((called (List Value)).gives scopes (λ y. take_values targets row) (storing targets) f
    (world_of m) (world_of m) values (taken (world_of m))
    ∙ ap (λ (y : Frame). ends Next (with_diagnostics success 0 y) (world_of m)) (sym put)
    ∙ ap (λ (y : Frame). ends Next y (world_of m)) (sym done))
    (subst (λ (x : Result Outcome NoMemory). Ran m m h x (ends Next h (world_of m))) (sym is)
    (record { tells = refl; stays = stays_same m }))

-- a value is refused
pub fetch_stops : (scopes : Scopes) (targets : List Target) (row : Row) (f g : Frame)
    (m new : Content) (s : Stop) (r : Result Outcome NoMemory) →
    TellsAnywhere {A = List Value} (Err s) (take_values targets row) →
    GoesOnFrom s scopes m new f g r → Ran m new g r
    (with_called scopes (λ y. take_values targets row) (storing targets) f (world_of m))
fetch_stops scopes targets row f g m new (Raised area) r told so =
    same_end m new g r (failing scopes area f (world_of m))
    (with_called scopes (λ y. take_values targets row) (storing targets) f (world_of m))
    ((called (List Value)).raises scopes (λ y. take_values targets row) (storing targets) f
    (world_of m) (world_of m) area (told (world_of m))) so
fetch_stops scopes targets row f g m new Spent r told so =
    same_end m new g r (ends NoTurn f (world_of m))
    (with_called scopes (λ y. take_values targets row) (storing targets) f (world_of m))
    ((called (List Value)).runs_out scopes (λ y. take_values targets row) (storing targets) f
    (world_of m) (world_of m) (told (world_of m))) so
fetch_stops scopes targets row f g m new NoRoom r told so =
    wants_ran m new g r
    (with_called scopes (λ y. take_values targets row) (storing targets) f (world_of m)) so

-- ---- the rows of OPEN

module _ (slot : ℕ) (scopes : Scopes) (query : Frame → Eval (List Row)) (f : Frame)
    (old mid : Content) (closed : is_opened (cursor_in slot f) ≡ false) where
  -- what OPEN does
  abbrev open_end : End
  open_end = opening (cursor_in slot f) slot scopes query f (world_of old)

  -- what follows its rows
  abbrev filled : List Row → Doing
  filled rows = λ g w. completed 0 (put_cursor slot (Opened rows) g) w

  opens_is : open_end ≡ with_value scopes query filled f (world_of old)
  opens_is = ap (λ (d : Doing). d f (world_of old))
      (open_opens slot (cursor_in slot f) scopes query closed)

  -- its rows are there
  pub open_fills : (rows : List Row) (g h : Frame) (r : Result Outcome NoMemory) →
      Ended old mid (Ok rows) (unit (query f) (world_of old)) →
      g ≡ put_cursor slot (Opened rows) f → h ≡ with_diagnostics success 0 g → r ≡ Ok held.Next →
      Ran old mid h r open_end
  open_fills rows g h r d put done is =
      ends_here old mid (filled rows f (world_of mid)) open_end held.Next h r
      (value_gives scopes query filled f old old mid open_end open_end rows opens_is
      (underway old open_end open_end refl) d)
      (ap (λ (y : Frame). ends Next (with_diagnostics success 0 y) (world_of mid)) (sym put)
      ∙ ap (λ (y : Frame). ends Next y (world_of mid)) (sym done)) is

  -- its query stops
  pub open_stops : (g : Frame) (new : Content) (s : Stop) (r : Result Outcome NoMemory) →
      Ended {A = List Row} old mid (Err s) (unit (query f) (world_of old)) →
      GoesOnFrom s scopes mid new f g r → Ran old new g r open_end
  open_stops g new s r d so =
      value_stops scopes query filled f old old mid open_end open_end g new s r opens_is
      (underway old open_end open_end refl) d so

-- the query of the cursor in a slot
pub query_at : (k : Known) (qs : List (Bor BoundQuery)) (slot : ℕ) (q : Bor BoundQuery) →
    slice_get qs slot ≡ Some q → query_of (queries_in k qs) slot ≡ query_in k q.now
query_at k [] slot q is = absurd cc
query_at k (x ∷ qs) zero q is = ap (λ (o : Option (Bor BoundQuery)). seen o) is
  where
    seen : Option (Bor BoundQuery) → Query
    seen None = query_in k x.now
    seen (Some y) = query_in k y.now
query_at k (x ∷ qs) (suc slot) q is = query_at k qs slot q is

-- where no cursor is
pub no_query_at : (k : Known) (qs : List (Bor BoundQuery)) (slot : ℕ) →
    slice_get qs slot ≡ None → query_of (queries_in k qs) slot ≡ tree.Values tree.NoRow
no_query_at k [] slot is = refl
no_query_at k (x ∷ qs) zero is = absurd cc
no_query_at k (x ∷ qs) (suc slot) is = no_query_at k qs slot is
