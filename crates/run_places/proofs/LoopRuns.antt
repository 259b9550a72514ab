-- The run of a loop in its midst, and the tests that it asks.
use Rattle.std.proofs.Common.{ℕ, ◌≡◌, [], Bool, true, false, Option, Some, None, Result, Ok, Err}
use Rattle.std.proofs.Common.{List, ◌+◌, not, refl, ap, ◌∙◌, if◌then◌else◌}
use Rattle.sql_texts.specs.declared.memory.NoMemory.{NoMemory}
use Rattle.sql_values.specs.Values.{is_true}
use Rattle.bound_trees.specs.declared.expr.BoundExpr.{BoundExpr}
use Rattle.bound_trees.specs.declared.statement.BoundStmt.{BoundStmt}
use Rattle.rel_algebra.specs.World.{World, Frame, Ends, Gives, Raises, RunsOut, Called, unit}
use Rattle.rel_algebra.specs.World.{after, give, turn}
use Rattle.rel_algebra.specs.Doing.{Doing, End, Next, Spent as NoTurn, ends}
use Rattle.rel_algebra.specs.Handlers.{Scopes, failing, with_end}
use Rattle.rel_algebra.specs.Meaning.{ev}
use Rattle.routine_views.specs.Views.{Known, expr_in}
use Rattle.run_choices.specs.declared.stop.Stop.{Stop}
use Rattle.run_choices.specs.declared.stop.Stop.TheVariants.{Spent}
use Rattle.run_expressions.specs.Content.{Content, world_of, Stays}
use Rattle.run_expressions.specs.Ending.{Ended}
use Rattle.run_expressions.proofs.Laws.{stays_same}
use Rattle.run_expressions.proofs.Laws.{stays_on}
use Rattle.run_outcomes.specs.declared.outcome.Outcome.{Outcome}
use Rattle.run_outcomes.specs.declared.outcome.Outcome.TheVariants as held
use Rattle.run_outcomes.specs.Outcomes.{outcome_of, follows}
use Rattle.run_outcomes.specs.declared.levels.AfterBody.TheVariants.{Again, Ends as IsEnd}
use Rattle.rel_algebra.specs.Loops.{again_or, looping}
use Rattle.statement_laws.specs.Loops.{PassesTo, StopsWith, LoopLeft, BodyLeft, RunLeft, TestLeft}
use Rattle.statement_laws.specs.Loops.{LoopGoesOn}
use Rattle.statement_laws.proofs.Laws.{loop_goes_on}
use Rattle.run_places.specs.declared.place.Place.{Place}
use Rattle.run_places.specs.Cost.{stmts_cost}
use Rattle.run_places.specs.Insides.{one_inside}
use Rattle.run_places.specs.Places.{known_of, queries_of, scopes_cost, self_cost}
use Rattle.run_places.specs.Statements.{stmts_in}
use Rattle.run_places.specs.Ran.{Ran, GoesOnFrom, is_wanted, loop_test, before_by, after_by}
use Rattle.run_places.proofs.Underway.{WithStop, stops_by, ends_here}

-- ---- tests

-- what follows a test
abbrev tested : Doing → Bool → Doing
tested go b = if b then go else ends Next

-- a test whose end is known
by_end : {A : Type 0} (scopes : Scopes) (f : Frame) (p : A → Bool) (h : Bool → Doing)
    (e : Ends A) → with_end scopes e f (λ v. h (p v)) ≡
    with_end scopes (after e (λ v. give (p v))) f h
by_end scopes f p h (Gives v u) = refl
by_end scopes f p h (Raises area u) = refl
by_end scopes f p h (RunsOut u) = refl

-- REPEAT goes on where its test isn't true
turned_round : (go : Doing) (b : Bool) → (if b then ends Next else go) ≡ tested go (not b)
turned_round go true = refl
turned_round go false = refl

before_is : (k : Known) (t : Option BoundExpr) (self : Called) (scopes : Scopes) (f : Frame)
    (w : World) (go : Doing) → before_by k t self scopes go f w ≡
    with_end scopes (loop_test true k t self f w) f (tested go)
before_is k None self scopes f w go = refl
before_is k (Some e) self scopes f w go =
    by_end scopes f is_true (tested go) (unit (ev (expr_in k e) self [] f) w)

after_is : (k : Known) (t : Option BoundExpr) (self : Called) (scopes : Scopes) (f : Frame)
    (w : World) (go : Doing) → after_by k t self scopes go f w ≡
    with_end scopes (loop_test false k t self f w) f (tested go)
after_is k None self scopes f w go = refl
after_is k (Some e) self scopes f w go =
    (λ i. with_end scopes (unit (ev (expr_in k e) self [] f) w) f
    (λ v. turned_round go (is_true v) i))
    ∙ by_end scopes f (is_wanted false) (tested go) (unit (ev (expr_in k e) self [] f) w)

-- a test, by how what is asked ends
abbrev pub AsksFirst : (Doing → Doing) → Scopes → Frame → World → Ends Bool → Type 0
AsksFirst test scopes f w t = (go : Doing) → test go f w ≡ with_end scopes t f (tested go)

-- it passes
asks_passes : (test : Doing → Doing) (scopes : Scopes) (f : Frame) (w u : World) (t : Ends Bool) →
    AsksFirst test scopes f w t → t ≡ Gives true u → PassesTo test f w u
asks_passes test scopes f w u t asks is go =
    asks go ∙ ap (λ (x : Ends Bool). with_end scopes x f (tested go)) is

-- it doesn't
asks_ends : (test : Doing → Doing) (scopes : Scopes) (f : Frame) (w u : World) (t : Ends Bool) →
    AsksFirst test scopes f w t → t ≡ Gives false u → StopsWith test f w (ends Next f u)
asks_ends test scopes f w u t asks is go =
    asks go ∙ ap (λ (x : Ends Bool). with_end scopes x f (tested go)) is

-- it stops
asks_stops : (test : Doing → Doing) (scopes : Scopes) (f : Frame) (w : World) (t end : Ends Bool)
    (whole : End) → AsksFirst test scopes f w t → t ≡ end →
    ((e : End) → StopsWith test f w e → whole ≡ e) → WithStop end scopes f whole
asks_stops test scopes f w t (Gives b u) whole asks is stop = tt
asks_stops test scopes f w t (Raises area u) whole asks is stop =
    stop (failing scopes area f u)
    (λ go. asks go ∙ ap (λ (x : Ends Bool). with_end scopes x f (tested go)) is)
asks_stops test scopes f w t (RunsOut u) whole asks is stop =
    stop (ends NoTurn f u)
    (λ go. asks go ∙ ap (λ (x : Ends Bool). with_end scopes x f (tested go)) is)

-- ---- loops

-- A loop at a level, by its tests and its body, in its midst: its next run starts here.
pub record LoopUnderway (k : Known) (before until : Option BoundExpr) (self : Called)
    (scopes : Scopes) (level : ℕ) (body : Doing) (f : Frame) (old now : Content) (whole : End) :
    Type 0 where
  pub left : LoopLeft level (before_by k before self scopes) body (after_by k until self scopes) f
      (world_of now) whole
  pub stays : Stays old now

module _ (k : Known) (before until : Option BoundExpr) (self : Called) (scopes : Scopes)
    (level : ℕ) (body : Doing) (whole : End) where
  abbrev laws : LoopGoesOn level (before_by k before self scopes) body
      (after_by k until self scopes) whole
  laws = loop_goes_on level (before_by k before self scopes) body
      (after_by k until self scopes) whole

  abbrev Left : Frame → World → Type 0
  Left f w = LoopLeft level (before_by k before self scopes) body (after_by k until self scopes) f
      w whole

  abbrev InBody : Frame → World → Type 0
  InBody f w = RunLeft level (before_by k before self scopes) body (after_by k until self scopes) f
      w whole

  abbrev AtEnd : Frame → World → Type 0
  AtEnd f w = TestLeft level (before_by k before self scopes) body (after_by k until self scopes) f
      w whole

  -- as it starts
  pub loop_starts : (f : Frame) (m : Content) →
      looping level (before_by k before self scopes) body (after_by k until self scopes) f
      (world_of m) ≡ whole → LoopUnderway k before until self scopes level body f m m whole
  loop_starts f m is = record { left = laws.starts f (world_of m) is; stays = stays_same m }

  -- the test before the body stops
  pub before_stops : (f g : Frame) (old now mid new : Content) (s : Stop)
      (r : Result Outcome NoMemory) →
      LoopUnderway k before until self scopes level body f old now whole →
      Ended {A = Bool} now mid (Err s) (loop_test true k before self f (world_of now)) →
      GoesOnFrom s scopes mid new f g r → Ran old new g r whole
  before_stops f g old now mid new s r l d so =
      stops_by scopes f g old now mid new s (loop_test true k before self f (world_of now)) whole
      whole r (asks_stops (before_by k before self scopes) scopes f (world_of now)
      (loop_test true k before self f (world_of now))
      (loop_test true k before self f (world_of now)) whole
      (before_is k before self scopes f (world_of now)) refl
      (λ e. laws.stops f (world_of now) e l.left))
      (record { same = refl; stays = l.stays }) d so

  -- it isn't true, and the loop is at its end
  pub before_ends : (f : Frame) (old now mid : Content) (r : Result Outcome NoMemory) →
      LoopUnderway k before until self scopes level body f old now whole →
      Ended now mid (Ok false) (loop_test true k before self f (world_of now)) → r ≡ Ok held.Next →
      Ran old mid f r whole
  before_ends f old now mid r l d is =
      ends_here old mid whole whole held.Next f r
      (record { same = refl; stays = stays_on old now mid l.stays d.stays })
      (laws.stops f (world_of now) (ends Next f (world_of mid)) l.left
      (asks_ends (before_by k before self scopes) scopes f (world_of now) (world_of mid)
      (loop_test true k before self f (world_of now))
      (before_is k before self scopes f (world_of now)) d.tells)) is

  -- it is true, and the body is next
  body_next : (f : Frame) (old now mid : Content) →
      LoopUnderway k before until self scopes level body f old now whole →
      Ended now mid (Ok true) (loop_test true k before self f (world_of now)) →
      BodyLeft level (before_by k before self scopes) body (after_by k until self scopes) f
      (world_of mid) whole
  body_next f old now mid l d =
      laws.passes f (world_of now) (world_of mid) l.left
      (asks_passes (before_by k before self scopes) scopes f (world_of now) (world_of mid)
      (loop_test true k before self f (world_of now))
      (before_is k before self scopes f (world_of now)) d.tells) d.stays.turns

  -- no turn is left
  pub no_turn : (f : Frame) (old now mid new : Content) (r : Result Outcome NoMemory) →
      LoopUnderway k before until self scopes level body f old now whole →
      Ended now mid (Ok true) (loop_test true k before self f (world_of now)) →
      Ended {A = Unit {0}} mid new (Err Spent) (turn (world_of mid)) → r ≡ Ok held.Spent →
      Ran old new f r whole
  no_turn f old now mid new r l d t is =
      ends_here old new whole whole held.Spent f r
      (record {
        same = refl;
        stays = stays_on old now new l.stays (stays_on now mid new d.stays
            t.stays);
      })
      (laws.spent f (world_of mid) (world_of new) (body_next f old now mid l d) t.tells) is

  -- a turn is taken, and the body runs
  pub in_body : (f : Frame) (old now mid new : Content) →
      LoopUnderway k before until self scopes level body f old now whole →
      Ended now mid (Ok true) (loop_test true k before self f (world_of now)) →
      Ended mid new (Ok tt) (turn (world_of mid)) → InBody f (world_of new)
  in_body f old now mid new l d t =
      laws.turns f (world_of mid) (world_of new) (body_next f old now mid l d) t.tells

  -- the body ends, and so does the loop
  pub body_ends : (f g : Frame) (old now new : Content) (o p : Outcome)
      (r : Result Outcome NoMemory) → InBody f (world_of now) → Stays old now →
      Ran now new g (Ok o) (body f (world_of now)) →
      ((go : Doing) → again_or level (outcome_of o) go ≡ follows (IsEnd p) go) → r ≡ Ok p →
      Ran old new g r whole
  body_ends f g old now new o p r l kept d over is =
      ends_here old new whole whole p g r
      (record { same = refl; stays = stays_on old now new kept d.stays })
      (laws.over f g (world_of now) (world_of new) (outcome_of o) (outcome_of p) l d.tells over) is

  -- the body ends, and the loop goes on
  pub at_end : (f g : Frame) (now new : Content) (o : Outcome) → InBody f (world_of now) →
      Ran now new g (Ok o) (body f (world_of now)) →
      ((go : Doing) → again_or level (outcome_of o) go ≡ follows Again go) → AtEnd g (world_of new)
  at_end f g now new o l d again =
      laws.again f g (world_of now) (world_of new) (outcome_of o) l d.tells again d.stays.turns

  -- the test after the body stops
  pub after_stops : (f g : Frame) (old now mid new : Content) (s : Stop)
      (r : Result Outcome NoMemory) → AtEnd f (world_of now) → Stays old now →
      Ended {A = Bool} now mid (Err s) (loop_test false k until self f (world_of now)) →
      GoesOnFrom s scopes mid new f g r → Ran old new g r whole
  after_stops f g old now mid new s r l kept d so =
      stops_by scopes f g old now mid new s (loop_test false k until self f (world_of now)) whole
      whole r (asks_stops (after_by k until self scopes) scopes f (world_of now)
      (loop_test false k until self f (world_of now))
      (loop_test false k until self f (world_of now)) whole
      (after_is k until self scopes f (world_of now)) refl
      (λ e. laws.ended f (world_of now) e l))
      (record { same = refl; stays = kept }) d so

  -- it ends the loop
  pub after_ends : (f : Frame) (old now mid : Content) (r : Result Outcome NoMemory) →
      AtEnd f (world_of now) → Stays old now →
      Ended now mid (Ok false) (loop_test false k until self f (world_of now)) →
      r ≡ Ok held.Next → Ran old mid f r whole
  after_ends f old now mid r l kept d is =
      ends_here old mid whole whole held.Next f r
      (record { same = refl; stays = stays_on old now mid kept d.stays })
      (laws.ended f (world_of now) (ends Next f (world_of mid)) l
      (asks_ends (after_by k until self scopes) scopes f (world_of now) (world_of mid)
      (loop_test false k until self f (world_of now))
      (after_is k until self scopes f (world_of now)) d.tells)) is

  -- it passes, and the next run starts
  pub next_run : (f : Frame) (old now mid : Content) → AtEnd f (world_of now) → Stays old now →
      Ended now mid (Ok true) (loop_test false k until self f (world_of now)) →
      LoopUnderway k before until self scopes level body f old mid whole
  next_run f old now mid l kept d = record {
    left = laws.goes f (world_of now) (world_of mid) l
        (asks_passes (after_by k until self scopes) scopes f (world_of now) (world_of mid)
        (loop_test false k until self f (world_of now))
        (after_is k until self scopes f (world_of now)) d.tells) d.stays.turns;
    stays = stays_on old now mid kept d.stays;
  }

-- what statements inside a loop count
pub inside_cost : (p inner : Place) (ss : List BoundStmt) → inner ≡ one_inside p →
    stmts_cost (stmts_in (known_of inner) ss (queries_of inner)) + scopes_cost inner +
    self_cost inner ≡
    stmts_cost (stmts_in (known_of p) ss (queries_of p)) + scopes_cost p + self_cost p
inside_cost p inner ss is =
    ap (λ (x : Place). stmts_cost (stmts_in (known_of x) ss (queries_of x)) + scopes_cost x +
    self_cost x) is
