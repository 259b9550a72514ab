-- Activations of routines whose body is a statement: their bodies, and what is around them. ISO/IEC
-- 9075-2, 10.4 (routine invocation), 15.1 (call statement) and 15.2 (return statement).
use Rattle.std.proofs.Common.{◌≡◌, ℕ, zero, suc, ◌-◌, ◌<◌, Bool, true, false, List, [], sym}
use Rattle.std.proofs.Common.{ap, ◌∙◌, subst, Ok, Err, Result, ◌&&◌, if◌then◌else◌, arith, Bor}
use Rattle.std.specs.List.{list_any}
use Rattle.sql_values.specs.declared.value.Value.{Value}
use Rattle.sql_values.specs.declared.value.Value.TheVariants.{Null}
use Rattle.sql_values.specs.declared.value.SqlType.{SqlType}
use Rattle.sql_values.specs.Values.{is_null}
use Rattle.sql_conditions.specs.Conditions.{area_of}
use Rattle.sql_conditions.specs.declared.condition.EngineCondition.TheVariants.{RecursionTooDeep}
use Rattle.rel_algebra.specs.Tree.{Function, Parameter, Procedure, Query, Stmt}
use Rattle.rel_algebra.specs.World.{Answering, Ends, Frame}
use Rattle.rel_algebra.specs.World.{activation, frame_of, give, no_again, no_self, turn}
use Rattle.rel_algebra.specs.Doing.{End}
use Rattle.rel_algebra.specs.Calls.{given_back, given_or, returned, returned_or}
use Rattle.rel_algebra.specs.Meaning.{Context, does}
use Rattle.catalog_store.specs.declared.entry.InterpretedFunction.{InterpretedFunction}
use Rattle.catalog_store.specs.declared.entry.Procedure.{Procedure as HeldProcedure}
use Rattle.catalog_store.specs.Catalog.{Catalog}
use Rattle.catalog_store.specs.Entries.{interpreted_of, procedure_of}
use Rattle.routine_views.specs.Views.{Known, stmt_in}
use Rattle.routine_views.specs.Routines.{function_view, inside, procedure_view, routines_of}
use Rattle.routine_views.specs.Routines.{with_modes}
use Rattle.run_choices.specs.declared.stop.Stop.{Stop}
use Rattle.run_choices.specs.declared.stop.Stop.TheVariants.{NoMemory, Raised}
use Rattle.run_choices.specs.Ending.{Tells, TellsAnywhere}
use Rattle.run_expressions.specs.Content.{Content, Stays, counted, turned, world_of}
use Rattle.run_expressions.specs.Ending.{Ended}
use Rattle.run_expressions.proofs.Laws.{activation_ends, stays_same}
use Rattle.run_outcomes.specs.declared.outcome.Outcome.{Outcome}
use Rattle.run_outcomes.specs.Outcomes.{outcome_of}
use Rattle.run_places.specs.declared.place.Own.{Own}
use Rattle.run_places.specs.declared.place.Place.{Place}
use Rattle.run_places.specs.declared.place.RoutineBody.TheVariants as held
use Rattle.run_places.specs.Activations.{Started, function_activation, procedure_activation}
use Rattle.run_places.specs.Places.{call_within, context_of, function_body, function_run, if_again}
use Rattle.run_places.specs.Places.{if_calling, known_of, perform_within, procedure_body}
use Rattle.run_places.specs.Places.{procedure_run, queries_of, within}
use Rattle.run_places.specs.Ran.{Ran}
use Rattle.run_places.specs.Starts.{StartsBody}
use Rattle.run_places.proofs.Calling.{then_stops}

-- ---- bodies

-- the place in which the body of a function starts
abbrev pub function_own : Bor (List ℕ) → Bor InterpretedFunction → ℕ → Own
function_own name f room = record { name = name; routine = held.Function f; room = room }

-- that of a procedure
abbrev pub procedure_own : Bor (List ℕ) → Bor HeldProcedure → ℕ → Own
procedure_own name p room = record { name = name; routine = held.Procedure p; room = room }

module _ (catalog : Catalog) (name : Bor (List ℕ)) (room : ℕ) (start : Place)
    (values : List Value) (f g : Frame) (old new : Content) where
  -- what the body does in its place is what it does where it starts
  body_same : (own : Own) (body : Known → List Query → Stmt) → StartsBody catalog own start →
      f ≡ frame_of values → (k : Known) (c : Context) → known_of start ≡ k →
      context_of start ≡ c →
      does (body (known_of start) (queries_of start)) (context_of start) f (world_of old) ≡
      does (body k []) c (frame_of values) (world_of old)
  body_same own body s is k c known context =
      λ i. does (body (known i) (s.queries i)) (context i) (is i) (world_of old)

  -- a function by the end of its body
  pub function_ends : (fn : Bor InterpretedFunction) (o : Outcome) (r : Result Value Stop) →
      StartsBody catalog (function_own name fn room) start → f ≡ frame_of values →
      Ran old new g (Ok o) (does (stmt_in (known_of start) fn.now.body (queries_of start))
      (context_of start) f (world_of old)) →
      TellsAnywhere r (returned_or fn.now.head.returns (outcome_of o)) →
      Ended old new r (function_run room (function_view (routines_of catalog) name.now
      (interpreted_of fn.now)) values (world_of old))
  function_ends fn o r s is ran made = record {
    tells = subst (λ (e : End). Tells (world_of new) r (returned fn.now.head.returns e))
        (sym ran.tells ∙ body_same (function_own name fn room)
        (λ k qs. stmt_in k fn.now.body qs) s is _ _ s.known s.context) (made (world_of new));
    stays = ran.stays;
  }

  -- a procedure by the end of its body
  pub procedure_ends : (p : Bor HeldProcedure) (o : Outcome) (r : Result (List Value) Stop) →
      StartsBody catalog (procedure_own name p room) start → f ≡ frame_of values →
      Ran old new g (Ok o) (does (stmt_in (known_of start) p.now.body (queries_of start))
      (context_of start) f (world_of old)) →
      TellsAnywhere r (given_or (with_modes p.now.head.modes p.now.head.parameters)
      (outcome_of o) g) →
      Ended old new r (procedure_run room (procedure_view (routines_of catalog) name.now
      (procedure_of p.now)) values (world_of old))
  procedure_ends p o r s is ran made = record {
    tells = subst (λ (e : End). Tells (world_of new) r
        (given_back (with_modes p.now.head.modes p.now.head.parameters) e))
        (sym ran.tells ∙ body_same (procedure_own name p room)
        (λ k qs. stmt_in k p.now.body qs) s is _ _ s.known s.context) (made (world_of new));
    stays = ran.stays;
  }

-- a body that wants memory
pub wants_memory : {A : Type 0} (old new : Content) (r : Result A Stop) (e : Ends A) →
    Stays old new → r ≡ Err NoMemory → Ended old new r e
wants_memory {A} old new r e kept is = record {
  tells = subst (λ (x : Result A Stop). Tells (world_of new) x e) (sym is) tt;
  stays = kept;
}

-- ---- activations

module _ {A : Type 0} (body : Answering A → Answering A) (values : List Value) where
  -- there is no room
  pub no_room : (room : ℕ) (m : Content) → room ≡ 0 →
      Ended {A = A} m m (Err (Raised (area_of RecursionTooDeep)))
      (activation room body values (world_of m))
  no_room room m is = record {
    tells = ap (λ n. activation n body values (world_of m)) is;
    stays = stays_same m;
  }

  -- it doesn't start
  pub not_started : (room : ℕ) (old new : Content) (s : Stop) (r : Result A Stop) → 0 < room →
      Started old new (Err s) → r ≡ Err s →
      Ended old new r (activation room body values (world_of old))
  not_started zero old new s r h d is = absurd (omega (arith, h))
  not_started (suc n) old new s r h d is =
      then_stops old new s (turn (world_of old)) _ r d is

  -- it is run, with one more active routine and less room
  pub activated : (room : ℕ) (old inner out new : Content) (r : Result A Stop) → 0 < room →
      Started old inner (Ok tt) →
      Ended inner out r (body (activation (room - 1) body) values (world_of inner)) →
      new ≡ counted (out.active - 1) out →
      Ended old new r (activation room body values (world_of old))
  activated zero old inner out new r h s d back = absurd (omega (arith, h))
  activated (suc n) old inner out new r h s d back =
      let less : suc n - 1 ≡ n = omega arith in
      activation_ends n body values old (turned (old.turns - 1) old) out r inner new s.0 s.1
      (subst (λ m. Ended inner out r (body (activation m body) values (world_of inner))) less d)
      back

-- ---- calls

module _ (room : ℕ) (c : Bool) (parameters : List SqlType) (returns : SqlType) (null_call : Bool)
    (body : Stmt) (values : List Value) (old new : Content) (r : Result Value Stop) where
  -- an argument is NULL that isn't to be
  pub call_null : (null_call && list_any is_null values) ≡ true →
      Ended old old (Ok Null) (call_within room
      (Function c parameters returns null_call body) values (world_of old))
  call_null h = record {
    tells = ap (λ (b : Bool). (if b then give Null else within c no_self
        (function_body returns null_call body) room values) (world_of old)) h;
    stays = stays_same old;
  }

  -- else it is run
  pub call_run : (null_call && list_any is_null values) ≡ false →
      Ended old new r (within c no_self (function_body returns null_call body) room values
      (world_of old)) →
      Ended old new r (call_within room (Function c parameters returns null_call body) values
      (world_of old))
  call_run h d = subst (λ (b : Bool). Ended old new r ((if b then give Null else within c no_self
      (function_body returns null_call body) room values) (world_of old))) (sym h) d

  -- as one that calls itself
  pub call_again : (null_call && list_any is_null values) ≡ false → c ≡ true →
      Ended old new r (activation room (function_body returns null_call body) values
      (world_of old)) →
      Ended old new r (call_within room (Function c parameters returns null_call body) values
      (world_of old))
  call_again h is d = call_run h (subst (λ (b : Bool). Ended old new r (within b no_self
      (function_body returns null_call body) room values (world_of old))) (sym is) d)

  -- or as one that doesn't
  pub call_once : (null_call && list_any is_null values) ≡ false → c ≡ false →
      Ended old new r (function_run 0 (Function c parameters returns null_call body) values
      (world_of old)) →
      Ended old new r (call_within room (Function c parameters returns null_call body) values
      (world_of old))
  call_once h is d = call_run h (subst (λ (b : Bool). Ended old new r (within b no_self
      (function_body returns null_call body) room values (world_of old))) (sym is)
      (subst (λ (b : Bool). Ended old new r (function_body returns null_call body
      (if_calling b (activation 0 (function_body returns null_call body))) values
      (world_of old))) is d))

  -- inside an activation it may call itself
  pub function_again : c ≡ true →
      Ended old new r (function_run room (Function c parameters returns null_call body) values
      (world_of old)) →
      Ended old new r (function_body returns null_call body
      (activation room (function_body returns null_call body)) values (world_of old))
  function_again is d = subst (λ (b : Bool). Ended old new r (function_body returns null_call body
      (if_calling b (activation room (function_body returns null_call body))) values
      (world_of old))) is d

module _ (room : ℕ) (c : Bool) (parameters : List Parameter) (body : Stmt) (values : List Value)
    (old new : Content) (r : Result (List Value) Stop) where
  -- a procedure as one that calls itself
  pub perform_again : c ≡ true →
      Ended old new r (activation room (procedure_body parameters body) values (world_of old)) →
      Ended old new r (perform_within room (Procedure c parameters body) values (world_of old))
  perform_again is d = subst (λ (b : Bool). Ended old new r (within b no_again
      (procedure_body parameters body) room values (world_of old))) (sym is) d

  -- or as one that doesn't
  pub perform_once : c ≡ false →
      Ended old new r (procedure_run 0 (Procedure c parameters body) values (world_of old)) →
      Ended old new r (perform_within room (Procedure c parameters body) values (world_of old))
  perform_once is d = subst (λ (b : Bool). Ended old new r (within b no_again
      (procedure_body parameters body) room values (world_of old))) (sym is)
      (subst (λ (b : Bool). Ended old new r (procedure_body parameters body
      (if_again b (activation 0 (procedure_body parameters body))) values (world_of old))) is d)

  -- inside an activation it may call itself
  pub procedure_again : c ≡ true →
      Ended old new r (procedure_run room (Procedure c parameters body) values (world_of old)) →
      Ended old new r (procedure_body parameters body
      (activation room (procedure_body parameters body)) values (world_of old))
  procedure_again is d = subst (λ (b : Bool). Ended old new r (procedure_body parameters body
      (if_again b (activation room (procedure_body parameters body))) values (world_of old))) is d

-- ---- activations of routines in a catalog

module _ (catalog : Catalog) (name : Bor (List ℕ)) (room : ℕ) (values : List Value)
    (old inner out new : Content) where
  -- a function that calls itself
  pub function_activated : (fn : Bor InterpretedFunction) (r : Result Value Stop) → 0 < room →
      fn.now.self_calling ≡ true → Started old inner (Ok tt) →
      Ended inner out r (function_run (room - 1) (function_view (routines_of catalog) name.now
      (interpreted_of fn.now)) values (world_of inner)) →
      new ≡ counted (out.active - 1) out →
      Ended old new r (function_activation room (function_view (routines_of catalog) name.now
      (interpreted_of fn.now)) values (world_of old))
  function_activated fn r h is s d back =
      let body : Stmt =
      stmt_in (inside (routines_of catalog) name.now (with_modes [] fn.now.head.parameters))
      fn.now.body [] in
      activated (function_body fn.now.head.returns fn.now.null_call body) values room old inner out
      new r h s (function_again (room - 1) fn.now.self_calling fn.now.head.parameters
      fn.now.head.returns fn.now.null_call body values inner out r is d) back

  -- a procedure that does
  pub procedure_activated : (p : Bor HeldProcedure) (r : Result (List Value) Stop) → 0 < room →
      p.now.self_calling ≡ true → Started old inner (Ok tt) →
      Ended inner out r (procedure_run (room - 1) (procedure_view (routines_of catalog) name.now
      (procedure_of p.now)) values (world_of inner)) →
      new ≡ counted (out.active - 1) out →
      Ended old new r (procedure_activation room (procedure_view (routines_of catalog) name.now
      (procedure_of p.now)) values (world_of old))
  procedure_activated p r h is s d back =
      let parameters : List Parameter = with_modes p.now.head.modes p.now.head.parameters in
      let body : Stmt =
      stmt_in (inside (routines_of catalog) name.now parameters) p.now.body [] in
      activated (procedure_body parameters body) values room old inner out new r h s
      (procedure_again (room - 1) p.now.self_calling parameters body values inner out r is d) back
