-- CALL: what comes back of it, and how the statement goes on from there. ISO/IEC 9075-2, 10.4
-- (routine invocation) and 15.1 (call statement).
use Rattle.std.proofs.Common.{◌≡◌, ℕ, ◌<◌, ◌+◌, ◌++◌, ◌∷◌, Bool, true, false, List, [], refl, sym, ap}
use Rattle.std.proofs.Common.{◌∙◌, subst, Ok, Err, Result, if◌then◌else◌, Option, None, Some, drop}
use Rattle.std.proofs.Common.{length, get_or, arith, ◌≤◌, ◌-◌}
use Rattle.std.specs.Str.{bytes_eq}
use Rattle.std.proofs.lemmas.List.{drop-drop}
use Rattle.sql_texts.specs.declared.memory.NoMemory.{NoMemory as Want}
use Rattle.sql_values.specs.declared.value.Value.{Value}
use Rattle.sql_values.specs.declared.value.Value.TheVariants.{Null}
use Rattle.sql_values.specs.declared.value.SqlType.{SqlType}
use Rattle.bound_trees.specs.declared.statement.BoundArgument.{BoundArgument}
use Rattle.bound_trees.specs.declared.statement.BoundArgument.TheVariants as argument
use Rattle.rel_algebra.specs.Tree.{Arguments, CallItself, CallProcedure, Parameter, Procedure}
use Rattle.rel_algebra.specs.Tree.{Routine, Stmt, Target, modes_of}
use Rattle.rel_algebra.specs.World.{Called, Calling, Ends, Eval, Frame, Gives, Raises, RunsOut}
use Rattle.rel_algebra.specs.World.{World, after, give, most_active, outcome, unit}
use Rattle.rel_algebra.specs.Doing.{Doing, End, take_values, storing}
use Rattle.rel_algebra.specs.Handlers.{Scopes, with_called, with_end}
use Rattle.rel_algebra.specs.Calls.{calling, passed, targets_of}
use Rattle.rel_algebra.specs.Meaning.{Context, argue, does, perform}
use Rattle.routine_views.specs.Views.{Known, Own, arguments, performed}
use Rattle.run_places.specs.Cost.{arguments_cost, stmt_cost}
use Rattle.run_places.specs.Passing.{argument_cost, argument_value, called_with, comes_back}
use Rattle.run_places.specs.Passing.{comes_into}
use Rattle.run_places.specs.Places.{perform_within}
use Rattle.sql_values.specs.Casts.{assigned}
use Rattle.sql_values.specs.declared.value.SqlType.TheVariants.{Varchar}
use Rattle.sql_values.specs.Values.{Outcome as Assigned}
use Rattle.rel_algebra.specs.Tree.{InMode, InoutMode, Mode, OutMode}
use Rattle.rel_algebra.specs.Calls.{passed_by}
use Rattle.rel_algebra.specs.Doing.{Next, ends, put_in, with_diagnostics}
use Rattle.rel_algebra.specs.States.{success}
use Rattle.routine_views.specs.Routines.{routines_of}
use Rattle.run_choices.specs.declared.stop.Stop.{Stop}
use Rattle.run_choices.specs.Ending.{TellsAnywhere}
use Rattle.run_expressions.specs.Content.{Content, world_of}
use Rattle.run_expressions.specs.Ending.{Ended}
use Rattle.run_expressions.specs.Following.{Follows}
use Rattle.run_expressions.proofs.Laws.{Going, adds_go, adds_stop, after_after, follows, stays_same}
use Rattle.run_outcomes.specs.declared.outcome.Outcome.{Outcome as HeldOutcome}
use Rattle.run_outcomes.specs.declared.outcome.Outcome.TheVariants.{Next as HeldNext}
use Rattle.statement_laws.proofs.Laws.{called}
use Rattle.run_places.specs.declared.place.Own.{Own as HeldOwn}
use Rattle.run_places.specs.declared.place.Place.{Place}
use Rattle.run_places.specs.Callees.{GivesNothing}
use Rattle.run_places.specs.Calls.{AgainMeans}
use Rattle.run_places.specs.Places.{again_by, again_of}
use Rattle.run_places.specs.Ran.{GoesOnFrom, Ran}
use Rattle.run_places.proofs.Calling.{at_once, then_ends, then_stops}
use Rattle.run_places.proofs.Trees.{rest}
use Rattle.run_places.proofs.Underway.{WithStop, stops_by, underway}

-- ---- a CALL by its three steps

module _ (scopes : Scopes) (args : Frame → Eval (List Value)) (procedure : Calling)
    (targets : List Target) (f : Frame) where
  -- what follows the arguments, and what follows the procedure
  by_outs : (e : Ends (List Value)) → with_end scopes e f (λ outs. with_called scopes
      (λ g. take_values targets outs) (storing targets)) ≡
      with_end scopes (after e (λ outs. take_values targets outs)) f (storing targets)
  by_outs (Gives outs u) = refl
  by_outs (Raises area u) = refl
  by_outs (RunsOut u) = refl

  by_values : (e : Ends (List Value)) → with_end scopes e f (λ values. with_called scopes
      (λ g. procedure values) (λ outs. with_called scopes (λ g. take_values targets outs)
      (storing targets))) ≡
      with_end scopes (after (after e (λ values. procedure values))
      (λ outs. take_values targets outs)) f (storing targets)
  by_values (Gives values u) = by_outs (procedure values u)
  by_values (Raises area u) = refl
  by_values (RunsOut u) = refl

  -- it stores what comes into its variables
  calling_is : (w : World) → calling scopes args procedure targets f w ≡
      with_end scopes (after (called_with args procedure f w)
      (λ outs. take_values targets outs)) f (storing targets)
  calling_is w = by_values (unit (args f) w)

-- a statement is a CALL with these arguments
abbrev IsCall : Arguments → Stmt → Type 0
IsCall args (CallProcedure name routine xs) = xs ≡ args
IsCall args (CallItself parameters xs) = xs ≡ args
IsCall args _ = ⊥

call_if : (args : Arguments) (b : Bool) (parameters : List Parameter) (name : List ℕ)
    (r : Routine) → IsCall args (if b then CallItself parameters args else CallProcedure name r args)
call_if args true parameters name r = refl
call_if args false parameters name r = refl

call_by : (routines : List ℕ → Routine) (own : Option Own) (name : List ℕ) (args : Arguments) →
    IsCall args (performed (record { routines = routines; own = own }) name args)
call_by routines None name args = refl
call_by routines (Some own) name args =
    call_if args (bytes_eq own.name name) own.parameters name (routines name)

pub performed_is_call : (k : Known) (name : List ℕ) (args : Arguments) →
    IsCall args (performed k name args)
performed_is_call k name args = call_by k.routines k.own name args

call_does : (s : Stmt) (args : Arguments) (c : Context) (f : Frame) (w : World) → IsCall args s →
    does s c f w ≡
    with_called c.scopes (comes_into s c (targets_of args)) (storing (targets_of args)) f w
call_does (CallProcedure name r xs) args c f w is =
    calling_is c.scopes (argue xs (modes_of r) c.self) (perform r) (targets_of xs) f w
    ∙ ap (λ (ys : Arguments). with_called c.scopes (comes_into (CallProcedure name r xs) c
    (targets_of ys)) (storing (targets_of ys)) f w) is
call_does (CallItself ps xs) args c f w is =
    calling_is c.scopes (argue xs ps c.self) c.again (targets_of xs) f w
    ∙ ap (λ (ys : Arguments). with_called c.scopes (comes_into (CallItself ps xs) c
    (targets_of ys)) (storing (targets_of ys)) f w) is
call_does _ args c f w is = absurd is

-- a CALL by what comes into its variables
pub performed_does : (k : Known) (name : List ℕ) (args : Arguments) (targets : List Target)
    (c : Context) (f : Frame) (w : World) → targets ≡ targets_of args →
    does (performed k name args) c f w ≡
    with_called c.scopes (comes_into (performed k name args) c targets) (storing targets) f w
performed_does k name args targets c f w is =
    call_does (performed k name args) args c f w (performed_is_call k name args)
    ∙ ap (λ (ts : List Target). with_called c.scopes (comes_into (performed k name args) c ts)
    (storing ts) f w) (sym is)

-- a CALL costs more than its arguments
call_costs : (s : Stmt) (args : Arguments) → IsCall args s → arguments_cost args + 2 ≤ stmt_cost s
call_costs (CallProcedure name r xs) args is =
    subst (λ (ys : Arguments). arguments_cost ys + 2 ≤ stmt_cost (CallProcedure name r xs)) is
    (omega arith)
call_costs (CallItself ps xs) args is =
    subst (λ (ys : Arguments). arguments_cost ys + 2 ≤ stmt_cost (CallItself ps xs)) is
    (omega arith)
call_costs _ args is = absurd is

pub performed_costs : (k : Known) (name : List ℕ) (args : Arguments) →
    arguments_cost args + 2 ≤ stmt_cost (performed k name args)
performed_costs k name args =
    call_costs (performed k name args) args (performed_is_call k name args)

-- ---- its end

module _ (scopes : Scopes) (e : Frame → Eval (List Value)) (go : List Value → Doing)
    (f : Frame) (w : World) where
  -- how it goes on from a stop
  call_with_stop : (end : Ends (List Value)) → e f w ≡ end →
      WithStop end scopes f (with_called scopes e go f w)
  call_with_stop (Gives a u) h = tt
  call_with_stop (Raises area u) h = (called (List Value)).raises scopes e go f w u area h
  call_with_stop (RunsOut u) h = (called (List Value)).runs_out scopes e go f w u h

-- nothing comes into its variables
pub call_stops : (scopes : Scopes) (e : Frame → Eval (List Value)) (go : List Value → Doing)
    (f g : Frame) (old mid new : Content) (s : Stop) (r : Result HeldOutcome Want) (whole : End) →
    whole ≡ with_called scopes e go f (world_of old) →
    Ended {A = List Value} old mid (Err s) (e f (world_of old)) →
    GoesOnFrom s scopes mid new f g r → Ran old new g r whole
call_stops scopes e go f g old mid new s r whole is d on =
    stops_by scopes f g old old mid new s (e f (world_of old)) whole whole r
    (subst (λ (x : End). WithStop (e f (world_of old)) scopes f x) (sym is)
    (call_with_stop scopes e go f (world_of old) (e f (world_of old)) refl))
    (underway old whole whole refl) d on

-- all values are stored
pub call_stores : (scopes : Scopes) (e : Frame → Eval (List Value)) (targets : List Target)
    (f g : Frame) (old new : Content) (values : List Value) (whole : End) →
    whole ≡ with_called scopes e (storing targets) f (world_of old) →
    Ended old new (Ok values) (e f (world_of old)) →
    g ≡ with_diagnostics success 0 (put_in targets values f) →
    Ran old new g (Ok HeldNext) whole
call_stores scopes e targets f g old new values whole is d done = record {
  tells = is
      ∙ (called (List Value)).gives scopes e (storing targets) f (world_of old) (world_of new)
      values d.tells
      ∙ ap (λ (h : Frame). ends Next h (world_of new)) (sym done);
  stays = d.stays;
}

-- ---- what comes back

module _ (s : Stmt) (c : Context) (targets : List Target) (f : Frame) (old new : Content) where
  -- is converted
  pub into_ends : (outs : List Value) (r : Result (List Value) Stop) →
      Ended old new (Ok outs) (comes_back s c f (world_of old)) →
      TellsAnywhere r (take_values targets outs) →
      Ended old new r (comes_into s c targets f (world_of old))
  into_ends outs r d made =
      then_ends old new new outs (comes_back s c f (world_of old))
      (λ xs. take_values targets xs) r d (at_once new r (take_values targets outs) made)

  pub into_stops : (stop : Stop) (r : Result (List Value) Stop) →
      Ended {A = List Value} old new (Err stop) (comes_back s c f (world_of old)) →
      r ≡ Err stop → Ended old new r (comes_into s c targets f (world_of old))
  into_stops stop r d is =
      then_stops old new stop (comes_back s c f (world_of old)) (λ xs. take_values targets xs) r d is

-- a CALL of the routine around, or of another
pub comes_by : (s t : Stmt) (c : Context) (f : Frame) (old new : Content)
    (r : Result (List Value) Stop) → s ≡ t →
    Ended old new r (comes_back t c f (world_of old)) →
    Ended old new r (comes_back s c f (world_of old))
comes_by s t c f old new r is d =
    subst (λ (x : Stmt). Ended old new r (comes_back x c f (world_of old))) (sym is) d

-- what a self-call means as a CALL at a place in a routine
pub again_at : (place : Place) (own : HeldOwn) (means : Calling) → place.own ≡ Some own →
    AgainMeans (routines_of place.catalog.now) own means → again_of place ≡ means
again_at place own means is h =
    ap (λ (o : Option HeldOwn). again_by (routines_of place.catalog.now) o) is ∙ h

module _ (args : Arguments) (qs : List Parameter) (c : Context) (f : Frame)
    (old mid new : Content) where
  -- what its arguments do, by the parameters that code knows
  as_passed : (ps : List Parameter) (r : Result (List Value) Stop) → qs ≡ ps →
      Ended old mid r (unit (argue args qs c.self f) (world_of old)) →
      Ended old mid r (unit (argue args ps c.self f) (world_of old))
  as_passed ps r is d = subst (λ (xs : List Parameter).
      Ended old mid r (unit (argue args xs c.self f) (world_of old))) is d

  -- the routine around
  pub itself_stops : (ps : List Parameter) (s : Stop) (r : Result (List Value) Stop) → qs ≡ ps →
      Ended {A = List Value} old mid (Err s) (unit (argue args qs c.self f) (world_of old)) →
      r ≡ Err s → Ended old mid r (comes_back (CallItself ps args) c f (world_of old))
  itself_stops ps s r is d answer =
      then_stops old mid s (unit (argue args ps c.self f) (world_of old))
      (λ values. c.again values) r (as_passed ps (Err s) is d) answer

  pub itself_ends : (ps : List Parameter) (means : Calling) (values : List Value)
      (r : Result (List Value) Stop) → qs ≡ ps → c.again ≡ means →
      Ended old mid (Ok values) (unit (argue args qs c.self f) (world_of old)) →
      Ended mid new r (means values (world_of mid)) →
      Ended old new r (comes_back (CallItself ps args) c f (world_of old))
  itself_ends ps means values r is same d more =
      then_ends old mid new values (unit (argue args ps c.self f) (world_of old))
      (λ vs. c.again vs) r (as_passed ps (Ok values) is d)
      (subst (λ (go : Calling). Ended mid new r (go values (world_of mid))) (sym same) more)

  -- another routine
  pub other_stops : (name : List ℕ) (routine : Routine) (s : Stop) (r : Result (List Value) Stop) →
      qs ≡ modes_of routine →
      Ended {A = List Value} old mid (Err s) (unit (argue args qs c.self f) (world_of old)) →
      r ≡ Err s → Ended old mid r (comes_back (CallProcedure name routine args) c f (world_of old))
  other_stops name routine s r is d answer =
      then_stops old mid s (unit (argue args (modes_of routine) c.self f) (world_of old))
      (λ values. perform routine values) r (as_passed (modes_of routine) (Err s) is d) answer

  pub other_ends : (name : List ℕ) (routine : Routine) (values : List Value)
      (r : Result (List Value) Stop) → qs ≡ modes_of routine →
      Ended old mid (Ok values) (unit (argue args qs c.self f) (world_of old)) →
      Ended mid new r (perform routine values (world_of mid)) →
      Ended old new r (comes_back (CallProcedure name routine args) c f (world_of old))
  other_ends name routine values r is d more =
      then_ends old mid new values (unit (argue args (modes_of routine) c.self f) (world_of old))
      (λ vs. perform routine vs) r (as_passed (modes_of routine) (Ok values) is d) more

-- a procedure is performed with the room that the world has
perform_is_within : (c : Bool) (ps : List Parameter) (body : Stmt) (values : List Value)
    (w : World) → perform (Procedure c ps body) values w ≡
    perform_within (most_active - w.active) (Procedure c ps body) values w
perform_is_within true ps body values w = refl
perform_is_within false ps body values w = refl

pub performed_ends : (routine : Routine) (c : Bool) (ps : List Parameter) (body : Stmt) (room : ℕ)
    (values : List Value) (old new : Content) (r : Result (List Value) Stop) →
    routine ≡ Procedure c ps body → room ≡ most_active - old.active →
    Ended old new r (perform_within room (Procedure c ps body) values (world_of old)) →
    Ended old new r (perform routine values (world_of old))
performed_ends routine c ps body room values old new r is rooms d =
    subst (λ (q : Routine). Ended old new r (perform q values (world_of old))) (sym is)
    (subst (λ (e : Ends (List Value)). Ended old new r e)
    (sym (perform_is_within c ps body values (world_of old)))
    (subst (λ n. Ended old new r (perform_within n (Procedure c ps body) values (world_of old)))
    rooms d))

-- nothing is performed
pub nothing_ends : (routine : Routine) (values : List Value) (m : Content)
    (outs : List Value) → GivesNothing routine → outs ≡ [] →
    Ended m m (Ok outs) (perform routine values (world_of m))
nothing_ends routine values m outs h none = record {
  tells = h.nothing values (world_of m) ∙ ap (λ xs. Gives xs (world_of m)) (sym none);
  stays = stays_same m;
}

-- ---- its arguments

passed_null : (ps : List Parameter) → passed ps Null ≡ Ok Null
passed_null [] = refl
passed_null (p ∷ ps) = by_mode p.mode p.data_type
  where
    null_assigned : (t : SqlType) → assigned t Null ≡ Ok Null
    null_assigned (Varchar n) = refl
    null_assigned _ = refl

    by_mode : (m : Mode) (t : SqlType) → passed_by m t Null ≡ Ok Null
    by_mode InMode t = null_assigned t
    by_mode OutMode t = refl
    by_mode InoutMode t = null_assigned t

module _ (k : Known) (self : Called) (f : Frame) where
  -- arguments, of which the first is this one
  first_argument : (x : BoundArgument) (xs : List BoundArgument) (ps : List Parameter) (w : World) →
      argue (arguments k (x ∷ xs)) ps self f w ≡
      after (argument_value k self f x w) (λ v u. after (outcome (passed ps v) u)
      (λ y t. after (argue (arguments k xs) (drop 1 ps) self f t) (λ ys. give (y ∷ ys))))
  first_argument (argument.Value e) xs ps w = refl
  first_argument (argument.Variable t) xs ps w = refl
  first_argument argument.Given xs ps w =
      sym (ap (λ (o : Assigned). after (outcome o w)
      (λ y t. after (argue (arguments k xs) (drop 1 ps) self f t) (λ ys. give (y ∷ ys))))
      (passed_null ps))

module _ (self : Called) (k : Known) (xs : List BoundArgument) (ps : List Parameter) (i : ℕ)
    (x : BoundArgument) (f : Frame) (old now new : Content) (first : Result Value Stop)
    (vs : List Value) (whole : Ends (List Value)) where
  abbrev args_left : Ends (List Value)
  args_left = argue (arguments k (drop i xs)) (drop i ps) self f (world_of now)

  abbrev args_after : World → Ends (List Value)
  args_after w = argue (arguments k (drop (i + 1) xs)) (drop (i + 1) ps) self f w

  -- an argument as its parameter takes it
  abbrev taken : Ends Value
  taken = after (argument_value k self f x (world_of now)) (λ v. outcome (passed (drop i ps) v))

  -- what is there with it
  abbrev more : Value → World → Ends (List Value)
  more v u = after (outcome (passed (drop i ps) v) u) (λ y. give (vs ++ y ∷ []))

  left_is : i < length xs → x ≡ get_or xs i x →
      args_left ≡ after taken (λ y w. after (args_after w) (λ ys. give (y ∷ ys)))
  left_is h is =
      ap (λ (zs : List BoundArgument). argue (arguments k zs) (drop i ps) self f (world_of now))
      (rest xs i x h is)
      ∙ first_argument k self f x (drop (i + 1) xs) (drop i ps) (world_of now)
      ∙ ap (λ (qs : List Parameter). after (argument_value k self f x (world_of now))
      (λ v u. after (outcome (passed (drop i ps) v) u)
      (λ y t. after (argue (arguments k (drop (i + 1) xs)) qs self f t) (λ ys. give (y ∷ ys)))))
      (drop-drop 1 i ps)
      ∙ sym (after_after (argument_value k self f x (world_of now))
      (λ v. outcome (passed (drop i ps) v))
      (λ y w. after (args_after w) (λ ys. give (y ∷ ys))))

  taken_ends : (r : Result (List Value) Stop) →
      Ended now new first (argument_value k self f x (world_of now)) →
      Follows first r more → Ended now new r (after taken (λ y. give (vs ++ y ∷ [])))
  taken_ends r d h = subst (λ (e : Ends (List Value)). Ended now new r e)
      (sym (after_after (argument_value k self f x (world_of now))
      (λ v. outcome (passed (drop i ps) v)) (λ y. give (vs ++ y ∷ []))))
      (follows now new first r (argument_value k self f x (world_of now)) more h d)

  -- an argument stops, or its parameter doesn't take it
  pub passing_stops : (s : Stop) (r : Result (List Value) Stop) → i < length xs →
      x ≡ get_or xs i x → Going old now (after args_left (λ ts. give (vs ++ ts))) whole →
      Ended now new first (argument_value k self f x (world_of now)) →
      Follows {B = List Value} first (Err s) more → r ≡ Err s → Ended old new r whole
  passing_stops s r h is g d made answer =
      adds_stop old now new taken (λ y. Some y) vs args_after args_left whole s r (left_is h is) g
      (taken_ends (Err s) d made) answer

  -- it is taken, and the next follows
  pub passing_goes : (us : List Value) → i < length xs → x ≡ get_or xs i x →
      Going old now (after args_left (λ ts. give (vs ++ ts))) whole →
      Ended now new first (argument_value k self f x (world_of now)) →
      Follows first (Ok us) more →
      Going old new (after (args_after (world_of new)) (λ ts. give (us ++ ts))) whole
  passing_goes us h is g d made =
      adds_go old now new taken (λ y. Some y) vs args_after args_left whole us (left_is h is) g
      (taken_ends (Ok us) d made)

-- what the arguments from one on cost
argument_first : (k : Known) (x : BoundArgument) (xs : List BoundArgument) →
    argument_cost k x + arguments_cost (arguments k xs) + 1 ≡ arguments_cost (arguments k (x ∷ xs))
argument_first k (argument.Value e) xs = refl
argument_first k (argument.Variable t) xs = omega arith
argument_first k argument.Given xs = omega arith

pub arguments_cost-rest : (k : Known) (xs : List BoundArgument) (i : ℕ) (x : BoundArgument) →
    i < length xs → x ≡ get_or xs i x → arguments_cost (arguments k (drop i xs)) ≡
    argument_cost k x + arguments_cost (arguments k (drop (i + 1) xs)) + 1
arguments_cost-rest k xs i x h is =
    ap (λ (ys : List BoundArgument). arguments_cost (arguments k ys)) (rest xs i x h is)
    ∙ sym (argument_first k x (drop (i + 1) xs))
