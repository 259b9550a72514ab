-- CALL in three steps, routines that call themselves, and how bodies end.
use Rattle.std.proofs.Common.{ℕ, ◌≡◌, ◌+◌, ◌-◌, suc, Bool, true, false, List, refl, sym, ap, ◌∙◌}
use Rattle.std.proofs.Common.{arith, if◌then◌else◌}
use Rattle.sql_values.specs.declared.value.Value.{Value}
use Rattle.sql_values.specs.declared.value.Value.TheVariants.{Null}
use Rattle.rel_algebra.specs.Tree.{Target}
use Rattle.rel_algebra.specs.World.{World, Frame, Ends, Eval, Gives, Raises, RunsOut, Answering}
use Rattle.rel_algebra.specs.World.{Calling, give, unit, turn, with_active, activation}
use Rattle.rel_algebra.specs.World.{after, most_active, no_self}
use Rattle.rel_algebra.specs.Doing.{Doing, End, take_values, storing}
use Rattle.rel_algebra.specs.Handlers.{Scopes, with_end, with_called}
use Rattle.rel_algebra.specs.Calls.{calling, returned, given_back}
use Rattle.statement_laws.specs.Calls.{CallGoesOn, ActivationGoesOn, ActivationsGoOn, BodiesGoOn}
use Rattle.statement_laws.specs.Calls.{null_given, function_body, procedure_body}

-- ---- CALL

module _ (scopes : Scopes) (arguments : Frame → Eval (List Value)) (procedure : Calling)
    (targets : List Target) (f : Frame) (w : World) where
  -- what follows the procedure
  abbrev storing_all : List Value → Doing
  storing_all outs = with_called scopes (λ f. take_values targets outs) (storing targets)

  -- what follows the arguments
  abbrev performing : List Value → Doing
  performing values = with_called scopes (λ f. procedure values) storing_all

  -- by how the arguments end
  by_arguments : (e : Ends (List Value)) → unit (arguments f) w ≡ e →
      calling scopes arguments procedure targets f w ≡ with_end scopes e f performing
  by_arguments e h = ap (λ (x : Ends (List Value)). with_end scopes x f performing) h

  -- by how the procedure ends
  by_procedure : (values : List Value) (u : World) (e : Ends (List Value)) →
      unit (arguments f) w ≡ Gives values u → procedure values u ≡ e →
      calling scopes arguments procedure targets f w ≡ with_end scopes e f storing_all
  by_procedure values u e h done = by_arguments (Gives values u) h
      ∙ ap (λ (x : Ends (List Value)). with_end scopes x f storing_all) done

  -- by whether the variables take their values
  by_taken : (values outs : List Value) (u v : World) (e : Ends (List Value)) →
      unit (arguments f) w ≡ Gives values u → procedure values u ≡ Gives outs v →
      take_values targets outs v ≡ e →
      calling scopes arguments procedure targets f w ≡ with_end scopes e f (storing targets)
  by_taken values outs u v e h done taken = by_procedure values u (Gives outs v) h done
      ∙ ap (λ (x : Ends (List Value)). with_end scopes x f (storing targets)) taken

  pub call_goes_on : CallGoesOn scopes arguments procedure targets f w
  call_goes_on = record {
    raises = λ u area h. by_arguments (Raises area u) h;
    runs_out = λ u h. by_arguments (RunsOut u) h;
    raises_inside = λ u v values area h done. by_procedure values u (Raises area v) h done;
    runs_out_inside = λ u v values h done. by_procedure values u (RunsOut v) h done;
    refused = λ u v x values outs area h done no.
        by_taken values outs u v (Raises area x) h done no;
    stored = λ u v x values outs taken h done all.
        by_taken values outs u v (Gives taken x) h done all;
  }

-- ---- routines that call themselves

module _ {A : Type 0} (body : Answering A → Answering A) (values : List Value) where
  -- what follows the turn
  abbrev inner : ℕ → Unit {0} → Eval A
  inner room t w = with_active w.active
      (body (activation room body) values (record w { active = w.active + 1 }))

  by_turn : (room : ℕ) (w : World) (e : Ends (Unit {0})) → turn w ≡ e →
      activation (suc room) body values w ≡ after e (inner room)
  by_turn room w e h = ap (λ (x : Ends (Unit {0})). after x (inner room)) h

  runs : (room : ℕ) (w u : World) (e : Ends A) → turn w ≡ Gives tt u →
      body (activation room body) values (record u { active = suc u.active }) ≡ e →
      activation (suc room) body values w ≡ with_active u.active e
  runs room w u e h done =
      let one : u.active + 1 ≡ suc u.active = omega arith in
      by_turn room w (Gives tt u) h
      ∙ ap (λ n. with_active u.active (body (activation room body) values
      (record { tables = u.tables; turns = u.turns; active = n }))) one
      ∙ ap (with_active u.active) done

pub activation_goes_on : (A : Type 0) → ActivationGoesOn A
activation_goes_on A = record {
  full = λ body values w. refl;
  spent = λ room body values w u h. by_turn body values room w (RunsOut u) h;
  runs = λ room body values w u e h done. runs body values room w u e h done;
  first = λ none body values w room is.
      ap (λ n. activation n body values w) (sym is);
  plain = λ none body values w e h. h;
}

pub activations_go_on : ActivationsGoOn
activations_go_on = record {
  function = activation_goes_on _;
  procedure = activation_goes_on _;
}

-- ---- bodies

-- where an argument is NULL that isn't to be, and where none is
null_if : (b c : Bool) (x y : Eval Value) (w : World) → b ≡ c →
    (if b then x else y) w ≡ (if c then x else y) w
null_if b c x y w h = ap (λ (z : Bool). (if z then x else y) w) h

pub bodies_go_on : BodiesGoOn
bodies_go_on = record {
  returns = λ t e o f w h. ap (λ (x : End). returned t x) h;
  gives_back = λ ps e o f w h. ap (λ (x : End). given_back ps x) h;
  null = λ calls_itself parameters returns null_call body values w h.
      null_if (null_given null_call values) true (give Null) _ w h;
  function = λ parameters returns null_call body values w u o g h done.
      null_if (null_given null_call values) false (give Null)
      (function_body returns null_call body no_self values) w h
      ∙ ap (λ (x : End). returned returns x) done;
  function_itself = λ parameters returns null_call body values w room h is.
      null_if (null_given null_call values) false (give Null)
      (λ u. activation (most_active - u.active) (function_body returns null_call body) values u) w h
      ∙ ap (λ n. activation n (function_body returns null_call body) values w) (sym is);
  procedure = λ parameters body values w u o g done. ap (λ (x : End). given_back parameters x) done;
  procedure_itself = λ parameters body values w room is.
      ap (λ n. activation n (procedure_body parameters body) values w) (sym is);
}
