-- The run of a statement in its midst: what is left to be done from here ends as the whole does.
use Rattle.std.proofs.Common.{◌≡◌, Result, Ok, Err, refl}
use Rattle.std.proofs.Common.{sym, ◌∙◌, subst}
use Rattle.sql_texts.specs.declared.memory.NoMemory.{NoMemory}
use Rattle.rel_algebra.specs.World.{World, Frame, Ends, Eval, Gives, Raises, RunsOut, unit}
use Rattle.rel_algebra.specs.Doing.{Doing, End, Spent as NoTurn, ends}
use Rattle.rel_algebra.specs.Handlers.{Scopes, failing, with_value}
use Rattle.run_choices.specs.declared.stop.Stop.{Stop}
use Rattle.run_choices.specs.declared.stop.Stop.TheVariants.{Raised, Spent, NoMemory as NoRoom}
use Rattle.run_expressions.specs.Content.{Content, world_of, Stays}
use Rattle.run_expressions.specs.Ending.{Ended}
use Rattle.run_expressions.proofs.Laws.{stays_same}
use Rattle.run_expressions.proofs.Laws.{stays_on}
use Rattle.run_outcomes.specs.declared.outcome.Outcome.{Outcome}
use Rattle.run_outcomes.specs.Outcomes.{outcome_of}
use Rattle.statement_laws.proofs.Laws.{valued}
use Rattle.run_places.specs.Ran.{TellsEnd, Ran, Wants, GoesOnFrom}

-- from a frame and a world what is left ends as the whole, and what each run keeps is kept so far
pub record Underway (old now : Content) (left whole : End) : Type 0 where
  pub same : left ≡ whole
  pub stays : Stays old now

-- as it starts
pub underway : (m : Content) (left whole : End) → left ≡ whole → Underway m m left whole
underway m left whole h = record { same = h; stays = stays_same m }

-- a part is done
pub moves_on : (old now new : Content) (left next whole : End) → Underway old now left whole →
    left ≡ next → Stays now new → Underway old new next whole
moves_on old now new left next whole u h kept = record {
  same = sym h ∙ u.same;
  stays = stays_on old now new u.stays kept;
}

-- nothing is left but this end
pub ends_here : (old now : Content) (left whole : End) (o : Outcome) (f : Frame)
    (r : Result Outcome NoMemory) → Underway old now left whole →
    left ≡ ends (outcome_of o) f (world_of now) → r ≡ Ok o → Ran old now f r whole
ends_here old now left whole o f r u h is = record {
  tells = subst (λ (x : Result Outcome NoMemory). TellsEnd (world_of now) f x whole) (sym is)
      (sym u.same ∙ h);
  stays = u.stays;
}

-- the rest ends as the whole
pub ends_with : (old now new : Content) (left whole e : End) (f : Frame)
    (r : Result Outcome NoMemory) → Underway old now left whole → left ≡ e → Ran now new f r e →
    Ran old new f r whole
ends_with old now new left whole e f r u h d = record {
  tells = subst (λ (x : End). TellsEnd (world_of new) f r x) (sym h ∙ u.same) d.tells;
  stays = stays_on old now new u.stays d.stays;
}

-- memory is wanting
pub wanting : (old new : Content) (f : Frame) (r : Result Outcome NoMemory) (e : NoMemory)
    (whole : End) → Stays old new → r ≡ Err e → Ran old new f r whole
wanting old new f r e whole kept is = record {
  tells = subst (λ (x : Result Outcome NoMemory). TellsEnd (world_of new) f x whole) (sym is) tt;
  stays = kept;
}

-- what wants memory tells nothing
pub wants_ran : (old new : Content) (f : Frame) (r : Result Outcome NoMemory) (whole : End) →
    Wants old new r → Ran old new f r whole
wants_ran old new f (Ok o) whole w = absurd w.is
wants_ran old new f (Err e) whole w = record { tells = tt; stays = w.stays }

-- ---- evaluations

-- how a whole ends whose first part is an evaluation that stops
abbrev pub WithStop : {A : Type 0} → Ends A → Scopes → Frame → End → Type 0
WithStop (Gives a w) scopes f left = Unit {0}
WithStop (Raises area w) scopes f left = left ≡ failing scopes area f w
WithStop (RunsOut w) scopes f left = left ≡ ends NoTurn f w

-- an evaluation stops, and the whole goes on from there
pub stops_by : {A : Type 0} (scopes : Scopes) (f g : Frame) (old now mid new : Content) (s : Stop)
    (e : Ends A) (left whole : End) (r : Result Outcome NoMemory) → WithStop e scopes f left →
    Underway old now left whole → Ended {A = A} now mid (Err s) e →
    GoesOnFrom s scopes mid new f g r → Ran old new g r whole
stops_by {A} scopes f g old now mid new (Raised area) e left whole r by u d go =
    let is : left ≡ failing scopes area f (world_of mid) =
    subst (λ (x : Ends A). WithStop x scopes f left) d.tells by in
    ends_with old mid new (failing scopes area f (world_of mid)) whole
    (failing scopes area f (world_of mid)) g r
    (moves_on old now mid left (failing scopes area f (world_of mid)) whole u is d.stays) refl go
stops_by {A} scopes f g old now mid new Spent e left whole r by u d go =
    let is : left ≡ ends NoTurn f (world_of mid) =
    subst (λ (x : Ends A). WithStop x scopes f left) d.tells by in
    ends_with old mid new (ends NoTurn f (world_of mid)) whole
    (ends NoTurn f (world_of mid)) g r
    (moves_on old now mid left (ends NoTurn f (world_of mid)) whole u is d.stays) refl go
stops_by scopes f g old now mid new NoRoom e left whole r by u d go =
    wants_ran old new g r whole (record {
      is = go.is;
      stays = stays_on old now new u.stays (stays_on now mid new d.stays go.stays);
    })

-- a unit that stops
pub with_stop : {A : Type 0} (scopes : Scopes) (e : Frame → Eval A) (go : A → Doing) (f : Frame)
    (w : World) (end : Ends A) → unit (e f) w ≡ end →
    WithStop end scopes f (with_value scopes e go f w)
with_stop {A} scopes e go f w (Gives a u) h = tt
with_stop {A} scopes e go f w (Raises area u) h = (valued A).raises scopes e go f w u area h
with_stop {A} scopes e go f w (RunsOut u) h = (valued A).runs_out scopes e go f w u h

module _ {A : Type 0} (scopes : Scopes) (e : Frame → Eval A) (go : A → Doing) (f : Frame)
    (old now mid : Content) (left whole : End) where
  -- a unit that is evaluated stops
  pub value_stops : (g : Frame) (new : Content) (s : Stop) (r : Result Outcome NoMemory) →
      left ≡ with_value scopes e go f (world_of now) → Underway old now left whole →
      Ended {A = A} now mid (Err s) (unit (e f) (world_of now)) →
      GoesOnFrom s scopes mid new f g r → Ran old new g r whole
  value_stops g new s r is u d so =
      stops_by scopes f g old now mid new s (unit (e f) (world_of now)) left whole r
      (subst (λ (x : End). WithStop (unit (e f) (world_of now)) scopes f x) (sym is)
      (with_stop scopes e go f (world_of now) (unit (e f) (world_of now)) refl)) u d so

  -- it gives a value, with which the whole goes on
  pub value_gives : (a : A) → left ≡ with_value scopes e go f (world_of now) →
      Underway old now left whole → Ended now mid (Ok a) (unit (e f) (world_of now)) →
      Underway old mid (go a f (world_of mid)) whole
  value_gives a is u d =
      moves_on old now mid left (go a f (world_of mid)) whole u
      (is ∙ (valued A).gives scopes e go f (world_of now) (world_of mid) a d.tells) d.stays
