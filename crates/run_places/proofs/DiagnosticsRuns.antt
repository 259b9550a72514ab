-- GET DIAGNOSTICS while it runs.
use Rattle.std.proofs.Common.{◌≡◌, ◌≤◌, List, [], map, Option, None, Some, Result, Ok, Err, refl}
use Rattle.std.proofs.Common.{sym, ap, ◌∙◌, subst, arith}
use Rattle.sql_texts.specs.declared.memory.NoMemory.{NoMemory}
use Rattle.sql_values.specs.declared.value.Value.{Value}
use Rattle.sql_conditions.specs.Conditions.{Area}
use Rattle.sql_conditions.specs.declared.condition.Condition.{Condition}
use Rattle.bound_trees.specs.declared.expr.BoundExpr.{BoundExpr}
use Rattle.bound_trees.specs.declared.condition.BoundArea.{BoundArea}
use Rattle.bound_trees.specs.declared.condition.BoundArea.TheVariants as area
use Rattle.bound_trees.specs.declared.condition.BoundInformation.{BoundInformation}
use Rattle.bound_trees.specs.declared.condition.BoundInformation.TheVariants as information
use Rattle.rel_algebra.specs.Tree.{ConditionRead, StatementRead, Target}
use Rattle.rel_algebra.specs.States.{not_stacked}
use Rattle.rel_algebra.specs.World.{World, Frame, Ends, Eval, Gives, Raises, RunsOut, after}
use Rattle.rel_algebra.specs.World.{give, unit, unit_of}
use Rattle.rel_algebra.specs.Doing.{End, Next, ends, put_in, take_values}
use Rattle.rel_algebra.specs.Diagnostics.{Reading, getting_area, getting_condition, reading_of}
use Rattle.rel_algebra.specs.Diagnostics.{of_condition as condition_read_by}
use Rattle.rel_algebra.specs.Handlers.{Scopes, failing, with_end}
use Rattle.rel_algebra.specs.Meaning.{Context, does, ev, ev_perhaps}
use Rattle.routine_views.specs.Views.{Known, condition_read, diagnostics, expr_in, perhaps}
use Rattle.routine_views.specs.Views.{statement_read, which_area}
use Rattle.run_choices.specs.declared.stop.Stop.{Stop}
use Rattle.run_choices.specs.Ending.{TellsAnywhere}
use Rattle.run_expressions.specs.Content.{Content, world_of}
use Rattle.run_expressions.specs.Ending.{Ended}
use Rattle.run_expressions.proofs.Laws.{stays_same}
use Rattle.run_outcomes.specs.declared.outcome.Outcome.{Outcome}
use Rattle.run_outcomes.specs.declared.outcome.Outcome.TheVariants as held
use Rattle.run_places.specs.Cost.{perhaps_cost, stmt_cost}
use Rattle.run_places.specs.Getting.{gets, number_in, numbered_in, of_area, of_condition}
use Rattle.run_places.specs.Getting.{condition_targets, condition_values, of_numbered, reads_into}
use Rattle.run_places.specs.Getting.{statement_targets, statement_values, where_there}
use Rattle.run_places.specs.Ran.{Ran, GoesOnFrom}
use Rattle.run_places.proofs.Underway.{Underway, WithStop, ends_here, moves_on, stops_by}
use Rattle.run_places.proofs.Underway.{underway, value_gives, with_stop}

-- ---- a value that may be left out

-- a unit whose value is there
pub some_unit : (w : World) (a : Ends Value) → unit_of w (after a (λ v. give (Some v))) ≡
    after (unit_of w a) (λ v. give (Some v))
some_unit w (Gives v u) = refl
some_unit w (Raises conditions u) = refl
some_unit w (RunsOut u) = refl

-- the value that is there
abbrev pub ValueThere : Ends Value → Option Value → World → Type 0
ValueThere a n u = (v : Value) × (n ≡ Some v) × (a ≡ Gives v u)

value_there : (a : Ends Value) (n : Option Value) (u : World) →
    after a (λ v. give (Some v)) ≡ Gives n u → ValueThere a n u
value_there (Gives v w) n u h = (v, ap (λ (z : Ends (Option Value)). given z) (sym h), ap (λ (z : Ends (Option Value)). Gives v (left z)) h)
  where
    given : Ends (Option Value) → Option Value
    given (Gives o x) = o
    given (Raises conditions x) = n
    given (RunsOut x) = n

    left : Ends (Option Value) → World
    left (Gives o x) = x
    left (Raises conditions x) = x
    left (RunsOut x) = x
value_there (Raises conditions w) n u h = absurd cc
value_there (RunsOut w) n u h = absurd cc

-- where it stops
some_stop : (a : Ends Value) (scopes : Scopes) (f : Frame) (left : End) →
    WithStop a scopes f left → WithStop (after a (λ v. give (Some v))) scopes f left
some_stop (Gives v u) scopes f left h = tt
some_stop (Raises conditions u) scopes f left h = h
some_stop (RunsOut u) scopes f left h = h

-- ---- values that are stored

module _ (scopes : Scopes) (ts : List Target) (f : Frame) where
  -- values go into their targets
  abbrev stored_by : Ends (List Value) → End
  stored_by e = with_end scopes e f (λ xs g u. ends Next (put_in ts xs g) u)

  stored_stops : (e : Ends (List Value)) →
      WithStop (after e (λ xs. give (put_in ts xs f))) scopes f (stored_by e)
  stored_stops (Gives xs u) = tt
  stored_stops (Raises conditions u) = refl
  stored_stops (RunsOut u) = refl

  stored_gives : (e : Ends (List Value)) (g : Frame) (w : World) →
      after e (λ xs. give (put_in ts xs f)) ≡ Gives g w → stored_by e ≡ ends Next g w
  stored_gives (Gives xs u) g w h = ap (λ (z : Ends Frame). end_by z) h
    where
      end_by : Ends Frame → End
      end_by (Gives x y) = ends Next x y
      end_by (Raises conditions y) = ends Next f y
      end_by (RunsOut y) = ends Next f y
  stored_gives (Raises conditions u) g w h = absurd cc
  stored_gives (RunsOut u) g w h = absurd cc

-- ---- items

module _ (scopes : Scopes) (f : Frame) (w : World) where
  -- what reads and stores
  abbrev read_by : Eval (List Value) → List Target → Ends Frame
  read_by values ts = after (values w) (λ vs. reads_into ts vs f)

  -- items of an area as a whole
  area_stops : (r : Option Reading) (reads : List StatementRead) →
      WithStop (read_by (of_area r reads) (statement_targets reads)) scopes f
      (getting_area r scopes reads f w)
  area_stops None reads = refl
  area_stops (Some r) reads = stored_stops scopes (statement_targets reads) f
      (take_values (statement_targets reads) (statement_values r reads) w)

  area_gives : (r : Option Reading) (reads : List StatementRead) (g : Frame) →
      read_by (of_area r reads) (statement_targets reads) ≡ Gives g w →
      getting_area r scopes reads f w ≡ ends Next g w
  area_gives None reads g h = absurd cc
  area_gives (Some r) reads g h = stored_gives scopes (statement_targets reads) f
      (take_values (statement_targets reads) (statement_values r reads) w) g w h

  -- items of a condition
  items_stop : (o : Option Condition) (reads : List ConditionRead) →
      WithStop (read_by (of_condition o reads) (condition_targets reads)) scopes f
      (condition_read_by o scopes reads f w)
  items_stop None reads = refl
  items_stop (Some c) reads = stored_stops scopes (condition_targets reads) f
      (take_values (condition_targets reads) (condition_values c reads) w)

  items_given : (o : Option Condition) (reads : List ConditionRead) (g : Frame) →
      read_by (of_condition o reads) (condition_targets reads) ≡ Gives g w →
      condition_read_by o scopes reads f w ≡ ends Next g w
  items_given None reads g h = absurd cc
  items_given (Some c) reads g h = stored_gives scopes (condition_targets reads) f
      (take_values (condition_targets reads) (condition_values c reads) w) g w h

  -- what follows the number
  abbrev numbered_left : Option Reading → Option Value → List ConditionRead → End
  numbered_left None n reads = failing scopes not_stacked f w
  numbered_left (Some r) n reads = condition_read_by (numbered_in n r.area) scopes reads f w

  numbered_stops : (r : Option Reading) (n : Option Value) (reads : List ConditionRead) →
      WithStop (read_by (of_numbered r n reads) (condition_targets reads)) scopes f
      (numbered_left r n reads)
  numbered_stops None n reads = refl
  numbered_stops (Some r) n reads = items_stop (numbered_in n r.area) reads

  numbered_gives : (r : Option Reading) (n : Option Value) (reads : List ConditionRead)
      (g : Frame) → read_by (of_numbered r n reads) (condition_targets reads) ≡ Gives g w →
      numbered_left r n reads ≡ ends Next g w
  numbered_gives None n reads g h = absurd cc
  numbered_gives (Some r) n reads g h = items_given (numbered_in n r.area) reads g h

  -- what follows the number, where there is one
  abbrev get_left : Option Area → BoundArea → BoundInformation → Option Value → End
  get_left stacked a (information.Statement reads) n =
      getting_area (reading_of (which_area a) stacked f) scopes (map statement_read reads) f w
  get_left stacked a (information.Condition e reads) n =
      numbered_left (reading_of (which_area a) stacked f) n (map condition_read reads)

  left_stops : (stacked : Option Area) (a : BoundArea) (i : BoundInformation)
      (n : Option Value) → WithStop (gets stacked a i n f w) scopes f (get_left stacked a i n)
  left_stops stacked a (information.Statement reads) n =
      area_stops (reading_of (which_area a) stacked f) (map statement_read reads)
  left_stops stacked a (information.Condition e reads) n =
      numbered_stops (reading_of (which_area a) stacked f) n (map condition_read reads)

  left_gives : (stacked : Option Area) (a : BoundArea) (i : BoundInformation)
      (n : Option Value) (g : Frame) → gets stacked a i n f w ≡ Gives g w →
      get_left stacked a i n ≡ ends Next g w
  left_gives stacked a (information.Statement reads) n g h =
      area_gives (reading_of (which_area a) stacked f) (map statement_read reads) g h
  left_gives stacked a (information.Condition e reads) n g h =
      numbered_gives (reading_of (which_area a) stacked f) n (map condition_read reads) g h

-- ---- the number

module _ (k : Known) (c : Context) (f : Frame) (old mid : Content) where
  -- what GET DIAGNOSTICS does
  abbrev pub get_end : BoundArea → BoundInformation → End
  get_end a i = does (diagnostics k (which_area a) i) c f (world_of old)

  -- the number that it evaluates, where it evaluates one
  abbrev pub number_end : BoundArea → BoundInformation → Ends (Option Value)
  number_end a i =
      unit (ev_perhaps (perhaps k (number_in c.stacked a i)) c.self f) (world_of old)

  -- nothing is evaluated
  nothing_evaluated : (n : Option Value) (whole : End) (left : World → End) →
      left (world_of old) ≡ whole → Ended {A = Option Value} old mid (Ok n)
      (Gives None (world_of old)) → Underway old mid (left (world_of mid)) whole
  nothing_evaluated n whole left h d =
      moves_on old old mid (left (world_of old)) (left (world_of mid)) whole
      (underway old (left (world_of old)) whole h)
      (ap (λ (z : Ends (Option Value)). left (at z)) d.tells) d.stays
    where
      at : Ends (Option Value) → World
      at (Gives o u) = u
      at (Raises conditions u) = u
      at (RunsOut u) = u

  -- a number is
  number_evaluated : (e : BoundExpr) (r : Reading) (reads : List ConditionRead)
      (n : Option Value) → Ended {A = Option Value} old mid (Ok n)
      (unit (ev_perhaps (perhaps k (Some e)) c.self f) (world_of old)) →
      Underway old mid (condition_read_by (numbered_in n r.area) c.scopes reads f (world_of mid))
      (getting_condition (Some r) c.scopes (ev (expr_in k e) c.self []) reads f (world_of old))
  number_evaluated e r reads n d =
      let whole = getting_condition (Some r) c.scopes (ev (expr_in k e) c.self []) reads f
      (world_of old) in
      let there = value_there (unit (ev (expr_in k e) c.self [] f) (world_of old)) n
      (world_of mid) (sym (some_unit (world_of old) (ev (expr_in k e) c.self [] f (world_of old)))
      ∙ d.tells) in
      subst (λ (o : Option Value). Underway old mid
      (condition_read_by (numbered_in o r.area) c.scopes reads f (world_of mid)) whole)
      (sym there.1)
      (value_gives c.scopes (ev (expr_in k e) c.self [])
      (λ v. condition_read_by (numbered_in (Some v) r.area) c.scopes reads) f old old mid whole
      whole there.0 refl (underway old whole whole refl)
      (record { tells = there.2; stays = d.stays }))

  -- what is left once its number is there
  number_gives : (a : BoundArea) (i : BoundInformation) (n : Option Value) →
      Ended old mid (Ok n) (number_end a i) → Underway old mid
      (get_left c.scopes f (world_of mid) c.stacked a i n) (get_end a i)
  number_gives a (information.Statement reads) n d =
      nothing_evaluated n (get_end a (information.Statement reads))
      (λ w. get_left c.scopes f w c.stacked a (information.Statement reads) n) refl d
  number_gives area.Current (information.Condition e reads) n d =
      number_evaluated e (record { area = f.current; row_count = f.row_count })
      (map condition_read reads) n d
  number_gives area.Stacked (information.Condition e reads) n d = by c.stacked d
    where
      by : (stacked : Option Area) → Ended {A = Option Value} old mid (Ok n)
          (unit (ev_perhaps (perhaps k (where_there area.Stacked stacked e)) c.self f)
          (world_of old)) → Underway old mid (numbered_left c.scopes f (world_of mid)
          (reading_of (which_area area.Stacked) stacked f) n (map condition_read reads))
          (getting_condition (reading_of (which_area area.Stacked) stacked f) c.scopes
          (ev (expr_in k e) c.self []) (map condition_read reads) f (world_of old))
      by None d =
          nothing_evaluated n (failing c.scopes not_stacked f (world_of old))
          (λ w. failing c.scopes not_stacked f w) refl d
      by (Some conditions) d =
          number_evaluated e (record { area = conditions; row_count = 0 })
          (map condition_read reads) n d

  -- a number that stops
  with_number : (e : BoundExpr) (r : Reading) (reads : List ConditionRead) →
      WithStop (unit (ev_perhaps (perhaps k (Some e)) c.self f) (world_of old)) c.scopes f
      (getting_condition (Some r) c.scopes (ev (expr_in k e) c.self []) reads f (world_of old))
  with_number e r reads =
      let left = getting_condition (Some r) c.scopes (ev (expr_in k e) c.self []) reads f
      (world_of old) in
      subst (λ (z : Ends (Option Value)). WithStop z c.scopes f left)
      (sym (some_unit (world_of old) (ev (expr_in k e) c.self [] f (world_of old))))
      (some_stop (unit (ev (expr_in k e) c.self [] f) (world_of old)) c.scopes f left
      (with_stop c.scopes (ev (expr_in k e) c.self [])
      (λ v. condition_read_by (numbered_in (Some v) r.area) c.scopes reads) f (world_of old)
      (unit (ev (expr_in k e) c.self [] f) (world_of old)) refl))

  number_stops : (a : BoundArea) (i : BoundInformation) →
      WithStop (number_end a i) c.scopes f (get_end a i)
  number_stops a (information.Statement reads) = tt
  number_stops area.Current (information.Condition e reads) =
      with_number e (record { area = f.current; row_count = f.row_count })
      (map condition_read reads)
  number_stops area.Stacked (information.Condition e reads) = by c.stacked
    where
      by : (stacked : Option Area) → WithStop
          (unit (ev_perhaps (perhaps k (where_there area.Stacked stacked e)) c.self f)
          (world_of old)) c.scopes f
          (getting_condition (reading_of (which_area area.Stacked) stacked f) c.scopes
          (ev (expr_in k e) c.self []) (map condition_read reads) f (world_of old))
      by None = tt
      by (Some conditions) = with_number e (record { area = conditions; row_count = 0 })
          (map condition_read reads)

  -- ---- the statement

  module _ (a : BoundArea) (i : BoundInformation) where
    -- all is read and stored
    pub get_stores : (n : Option Value) (g : Frame) (r : Result Outcome NoMemory) →
        Ended old mid (Ok n) (number_end a i) →
        TellsAnywhere (Ok g) (gets c.stacked a i n f) → r ≡ Ok held.Next →
        Ran old mid g r (get_end a i)
    get_stores n g r d told is =
        ends_here old mid (get_left c.scopes f (world_of mid) c.stacked a i n) (get_end a i)
        held.Next g r (number_gives a i n d)
        (left_gives c.scopes f (world_of mid) c.stacked a i n g (told (world_of mid))) is

    -- something is not there, or is refused
    pub get_stops : (n : Option Value) (s : Stop) (g : Frame) (new : Content)
        (r : Result Outcome NoMemory) → Ended old mid (Ok n) (number_end a i) →
        TellsAnywhere {A = Frame} (Err s) (gets c.stacked a i n f) →
        GoesOnFrom s c.scopes mid new f g r → Ran old new g r (get_end a i)
    get_stops n s g new r d told so =
        stops_by c.scopes f g old mid mid new s (gets c.stacked a i n f (world_of mid))
        (get_left c.scopes f (world_of mid) c.stacked a i n) (get_end a i) r
        (left_stops c.scopes f (world_of mid) c.stacked a i n) (number_gives a i n d)
        (record { tells = told (world_of mid); stays = stays_same mid }) so

    -- its number stops
    pub get_number_stops : (s : Stop) (g : Frame) (new : Content) (r : Result Outcome NoMemory) →
        Ended {A = Option Value} old mid (Err s) (number_end a i) →
        GoesOnFrom s c.scopes mid new f g r → Ran old new g r (get_end a i)
    get_number_stops s g new r d so =
        stops_by c.scopes f g old old mid new s (number_end a i) (get_end a i) (get_end a i) r
        (number_stops a i) (underway old (get_end a i) (get_end a i) refl) d so

-- ---- what it costs

-- the number costs no more than the statement
pub number_cost : (k : Known) (stacked : Option Area) (a : BoundArea) (i : BoundInformation) →
    perhaps_cost (perhaps k (number_in stacked a i)) ≤ stmt_cost (diagnostics k (which_area a) i)
number_cost k stacked a (information.Statement reads) = omega arith
number_cost k stacked area.Current (information.Condition e reads) = omega arith
number_cost k None area.Stacked (information.Condition e reads) = omega arith
number_cost k (Some conditions) area.Stacked (information.Condition e reads) = omega arith

-- the statement costs at least one
pub get_some : (k : Known) (a : BoundArea) (i : BoundInformation) →
    1 ≤ stmt_cost (diagnostics k (which_area a) i)
get_some k a (information.Statement reads) = omega arith
get_some k a (information.Condition e reads) = omega arith
