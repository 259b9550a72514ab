-- Calls of functions: the arguments, and then what is called. ISO/IEC 9075-2, 10.4 (routine
-- invocation).
use Rattle.std.proofs.Common.{◌≡◌, ℕ, ◌-◌, true, List, [], refl, sym, ap, ◌∙◌, subst}
use Rattle.std.proofs.Common.{Bool, false, ◌&&◌, if◌then◌else◌, Option, Result, Ok, Err, Some}
use Rattle.std.specs.List.{list_any}
use Rattle.sql_values.specs.Values.{is_null}
use Rattle.sql_values.specs.declared.value.Value.TheVariants.{Null}
use Rattle.sql_values.specs.declared.value.SqlType.{SqlType}
use Rattle.sql_values.specs.declared.value.Value.{Value}
use Rattle.sql_values.specs.Casts.{assigned}
use Rattle.row_types.specs.Rows.{Row}
use Rattle.rel_algebra.specs.Plain.{planned_expr}
use Rattle.rel_algebra.specs.Tree.{Call, CallSelf, Expr, Exprs, Function, Returned, Routine, Stmt}
use Rattle.rel_algebra.specs.Tree.{parameters_of}
use Rattle.rel_algebra.specs.World.{Called, Ends, Eval, Frame, World, after, frame_of, most_active}
use Rattle.rel_algebra.specs.World.{activation, give, no_self, outcome}
use Rattle.rel_algebra.specs.Meaning.{answer, ev, ev_args, call}
use Rattle.bound_trees.specs.declared.expr.BoundExpr.{BoundExpr}
use Rattle.routine_views.specs.Views.{Known, called, expr_in}
use Rattle.routine_views.specs.Routines.{routines_of}
use Rattle.run_choices.specs.declared.stop.Stop.{Stop}
use Rattle.run_expressions.specs.Content.{Content, world_of}
use Rattle.run_expressions.specs.Ending.{Ended}
use Rattle.run_expressions.specs.Following.{Follows}
use Rattle.run_choices.specs.Ending.{TellsAnywhere}
use Rattle.run_places.specs.declared.place.Own.{Own}
use Rattle.run_places.specs.declared.place.Place.{Place}
use Rattle.run_places.specs.Calls.{SelfMeans}
use Rattle.run_places.specs.Places.{call_within, function_body, self_by, self_of}
use Rattle.run_places.specs.Callees.{GivesNull}
use Rattle.run_expressions.proofs.Laws.{going, goes_on, stops, ends_as, body_ends, stays_same}

-- the first part gives, and the second ends as the whole
pub then_ends : {A B : Type 0} (old now new : Content) (a : A) (e : Ends A) (go : A → Eval B)
    (r : Result B Stop) → Ended old now (Ok a) e → Ended now new r (go a (world_of now)) →
    Ended old new r (after e go)
then_ends old now new a e go r d more =
    ends_as old now new (go a (world_of now)) (after e go) (go a (world_of now)) r
    (goes_on old old now a e go (after e go) (after e go) refl
    (going old (after e go) (after e go) refl) d) refl more

-- the first part stops, and the whole stops
pub then_stops : {A B : Type 0} (old now : Content) (s : Stop) (e : Ends A) (go : A → Eval B)
    (r : Result B Stop) → Ended {A = A} old now (Err s) e → r ≡ Err s →
    Ended old now r (after e go)
then_stops {A} {B} old now s e go r d answer =
    stops {A = A} {B = B} old old now s e go (after e go) (after e go) r refl
    (going old (after e go) (after e go) refl) d answer

-- ---- a call, by what is called

module _ (self : Called) (rows : List Row) (f : Frame) (args : Exprs) (types : List SqlType)
    (old now new : Content) where
  -- a call of another function, of which the parameters have these types
  pub another_stops : (name : List ℕ) (routine : Routine) (s : Stop) (r : Result Value Stop) →
      types ≡ parameters_of routine →
      Ended {A = List Value} old now (Err s) (ev_args args types self rows f (world_of old)) →
      r ≡ Err s → Ended old now r (ev (Call name routine args) self rows f (world_of old))
  another_stops name routine s r is d answer =
      then_stops old now s (ev_args args (parameters_of routine) self rows f (world_of old))
      (λ values. call routine values) r
      (subst (λ (ts : List SqlType). Ended {A = List Value} old now (Err s)
      (ev_args args ts self rows f (world_of old))) is d) answer

  pub another_ends : (name : List ℕ) (routine : Routine) (values : List Value)
      (r : Result Value Stop) → types ≡ parameters_of routine →
      Ended old now (Ok values) (ev_args args types self rows f (world_of old)) →
      Ended now new r (call routine values (world_of now)) →
      Ended old new r (ev (Call name routine args) self rows f (world_of old))
  another_ends name routine values r is d more =
      then_ends old now new values
      (ev_args args (parameters_of routine) self rows f (world_of old))
      (λ vs. call routine vs) r
      (subst (λ (ts : List SqlType). Ended old now (Ok values)
      (ev_args args ts self rows f (world_of old))) is d) more

  -- a call of the function in which it stands
  pub self_stops : (ts : List SqlType) (s : Stop) (r : Result Value Stop) → types ≡ ts →
      Ended {A = List Value} old now (Err s) (ev_args args types self rows f (world_of old)) →
      r ≡ Err s → Ended old now r (ev (CallSelf ts args) self rows f (world_of old))
  self_stops ts s r is d answer =
      then_stops old now s (ev_args args ts self rows f (world_of old))
      (λ values. self values) r
      (subst (λ (us : List SqlType). Ended {A = List Value} old now (Err s)
      (ev_args args us self rows f (world_of old))) is d) answer

  pub self_ends : (ts : List SqlType) (means : Called) (values : List Value)
      (r : Result Value Stop) → types ≡ ts → self ≡ means →
      Ended old now (Ok values) (ev_args args types self rows f (world_of old)) →
      Ended now new r (means values (world_of now)) →
      Ended old new r (ev (CallSelf ts args) self rows f (world_of old))
  self_ends ts means values r is same d more =
      then_ends old now new values (ev_args args ts self rows f (world_of old))
      (λ vs. self vs) r
      (subst (λ (us : List SqlType). Ended old now (Ok values)
      (ev_args args us self rows f (world_of old))) is d)
      (subst (λ (c : Called). Ended now new r (c values (world_of now))) (sym same) more)

-- what leaves each world as it is
pub at_once : {A : Type 0} (m : Content) (r : Result A Stop) (e : Eval A) → TellsAnywhere r e →
    Ended m m r (e (world_of m))
at_once m r e t = record { tells = t (world_of m); stays = stays_same m }

-- what a self-call means at a place in a routine
pub self_at : (place : Place) (own : Own) (means : Called) → place.own ≡ Some own →
    SelfMeans (routines_of place.catalog.now) own means → self_of place ≡ means
self_at place own means is h =
    ap (λ (o : Option Own). self_by (routines_of place.catalog.now) o) is ∙ h

-- ---- what is called

-- NULL, where nothing is called
pub null_ends : (routine : Routine) (values : List Value) (m : Content) → GivesNull routine →
    Ended m m (Ok Null) (call routine values (world_of m))
null_ends routine values m h = record { tells = h.null values (world_of m); stays = stays_same m }

-- where an argument is NULL or not, the same follows
null_or_same : (b : Bool) (y z : Eval Value) (w : World) → y w ≡ z w →
    (if b then give Null else y) w ≡ (if b then give Null else z) w
null_or_same true y z w h = refl
null_or_same false y z w h = h

-- a function is called with the room that the world has
pub call_is_within : (c : Bool) (parameters : List SqlType) (returns : SqlType) (null_call : Bool)
    (body : Stmt) (values : List Value) (w : World) →
    call (Function c parameters returns null_call body) values w ≡ call_within
    (most_active - w.active) (Function c parameters returns null_call body) values w
call_is_within true parameters returns null_call body values w =
    null_or_same (null_call && list_any is_null values)
    (λ u. activation (most_active - u.active) (function_body returns null_call body) values u)
    (activation (most_active - w.active) (function_body returns null_call body) values) w refl
call_is_within false parameters returns null_call body values w = refl

-- the value of a body is assigned to the type of the result
pub returned_ends : (k l : Known) (self : Called) (e : BoundExpr) (returns : SqlType)
    (values : List Value) (frame : Frame) (old new : Content) (first r : Result Value Stop) →
    planned_expr (expr_in l e) ≡ true → frame ≡ frame_of values → k ≡ l → self ≡ no_self →
    Ended old new first (ev (expr_in k e) self [] frame (world_of old)) →
    Follows first r (λ v. outcome (assigned returns v)) →
    Ended old new r (call (Returned [] returns (expr_in l e)) values (world_of old))
returned_ends k l self e returns values frame old new first r planned is same none d made =
    body_ends (expr_in l e) returns values frame old new first r planned is
    (subst (λ (c : Called). Ended old new first (ev (expr_in l e) c [] frame (world_of old))) none
    (subst (λ (q : Known). Ended old new first (ev (expr_in q e) self [] frame (world_of old)))
    same d)) made

-- ---- what a name calls

-- a call is one of the routine around, or of another
pub called_ends : (k : Known) (self : Called) (name : List ℕ) (args : Exprs) (e : Expr)
    (rows : List Row) (f : Frame) (old new : Content) (r : Result Value Stop) →
    called k name args ≡ e → Ended old new r (ev e self rows f (world_of old)) →
    Ended old new r (ev (called k name args) self rows f (world_of old))
called_ends k self name args e rows f old new r is d =
    subst (λ (x : Expr). Ended old new r (ev x self rows f (world_of old))) (sym is) d

-- a function with a plan
pub planned_ends : (routine : Routine) (parameters : List SqlType) (returns : SqlType) (e : Expr)
    (values : List Value) (old new : Content) (r : Result Value Stop) →
    routine ≡ Returned parameters returns e →
    Ended old new r (call (Returned [] returns e) values (world_of old)) →
    Ended old new r (call routine values (world_of old))
planned_ends routine parameters returns e values old new r is d =
    subst (λ (q : Routine). Ended old new r (call q values (world_of old))) (sym is) d

-- a function without one
pub within_ends : (routine : Routine) (c : Bool) (parameters : List SqlType) (returns : SqlType)
    (null_call : Bool) (body : Stmt) (room : ℕ) (values : List Value) (old new : Content)
    (r : Result Value Stop) → routine ≡ Function c parameters returns null_call body →
    room ≡ most_active - old.active →
    Ended old new r (call_within room (Function c parameters returns null_call body) values
    (world_of old)) → Ended old new r (call routine values (world_of old))
within_ends routine c parameters returns null_call body room values old new r is rooms d =
    subst (λ (q : Routine). Ended old new r (call q values (world_of old))) (sym is)
    (subst (λ (e : Ends Value). Ended old new r e)
    (sym (call_is_within c parameters returns null_call body values (world_of old)))
    (subst (λ n. Ended old new r (call_within n (Function c parameters returns null_call body) values
    (world_of old))) rooms d))
