-- SIGNAL and RESIGNAL while they run.
use Rattle.std.proofs.Common.{◌≡◌, ℕ, List, [], Option, Some, None, Result, Ok, Err, refl, ap, ◌∙◌}
use Rattle.std.proofs.Common.{sym, subst}
use Rattle.sql_texts.specs.declared.memory.NoMemory.{NoMemory}
use Rattle.sql_values.specs.declared.value.Value.{Value}
use Rattle.sql_values.specs.declared.value.Value.TheVariants.{Null, Int, Str, Bool as Truth}
use Rattle.sql_conditions.specs.Conditions.{Area, one_condition}
use Rattle.bound_trees.specs.declared.expr.BoundExpr.{BoundExpr}
use Rattle.rel_algebra.specs.Diagnostics.{or_empty, signalling, with_text}
use Rattle.rel_algebra.specs.Doing.{Doing}
use Rattle.rel_algebra.specs.Handlers.{Scopes, raising}
use Rattle.rel_algebra.specs.Meaning.{ev, ev_perhaps}
use Rattle.rel_algebra.specs.World.{Frame, Ends, Eval, Called}
use Rattle.rel_algebra.specs.World.{give, unit}
use Rattle.routine_views.specs.Views.{Known, expr_in, perhaps}
use Rattle.run_choices.specs.declared.stop.Stop.{Stop}
use Rattle.run_choices.specs.Ending.{Tells}
use Rattle.run_expressions.specs.Content.{Content, world_of}
use Rattle.run_expressions.specs.Ending.{Ended}
use Rattle.run_expressions.proofs.Laws.{stops_too}
use Rattle.run_outcomes.specs.declared.outcome.Outcome.{Outcome}
use Rattle.run_places.specs.Ran.{Ran}
use Rattle.run_places.proofs.Laws.{some_unit}
use Rattle.run_places.proofs.Laws.{ends_with, underway, value_gives}
use Rattle.run_places.specs.Texts.{text_in}

-- ---- the text

-- its value stops
pub perhaps_stops : (k : Known) (o : Option BoundExpr) (e : BoundExpr) (self : Called) (f : Frame)
    (old mid : Content) (s : Stop) → o ≡ Some e →
    Ended {A = Value} old mid (Err s) (unit (ev (expr_in k e) self [] f) (world_of old)) →
    Ended {A = Option Value} old mid (Err s)
    (unit (ev_perhaps (perhaps k o) self f) (world_of old))
perhaps_stops k o e self f old mid s is d = record {
  tells = subst (λ (z : Ends (Option Value)). Tells (world_of mid) (Err s) z)
      (sym (ap (λ (x : Option BoundExpr). unit (ev_perhaps (perhaps k x) self f) (world_of old)) is
      ∙ some_unit (world_of old) (ev (expr_in k e) self [] f (world_of old))))
      (stops_too {A = Value} {B = Option Value} (world_of mid) s
      (unit (ev (expr_in k e) self [] f) (world_of old)) (λ v. give (Some v)) d.tells);
  stays = d.stays;
}

-- what follows a text
pub text_goes : (scopes : Scopes) (v : Option Value) (text : Option (List ℕ))
    (go : Option (List ℕ) → Doing) → text_in v ≡ Some text → with_text scopes v go ≡ go text
text_goes scopes None text go h = ap (λ (o : Option (Option (List ℕ))). of o) h
  where
    of : Option (Option (List ℕ)) → Doing
    of None = go None
    of (Some t) = go t
text_goes scopes (Some (Str s)) text go h = ap (λ (o : Option (Option (List ℕ))). of o) h
  where
    of : Option (Option (List ℕ)) → Doing
    of None = go None
    of (Some t) = go t
text_goes scopes (Some Null) text go h = absurd cc
text_goes scopes (Some (Int n)) text go h = absurd cc
text_goes scopes (Some (Truth b)) text go h = absurd cc

-- ---- SIGNAL

-- the condition is raised
pub signal_ends : (scopes : Scopes) (state : List ℕ) (message : Frame → Eval (Option Value))
    (f g : Frame) (old mid new : Content) (v : Option Value) (text : Option (List ℕ))
    (area : Area) (r : Result Outcome NoMemory) →
    Ended old mid (Ok v) (unit (message f) (world_of old)) → text_in v ≡ Some text →
    area ≡ one_condition state (or_empty text) →
    Ran mid new g r (raising scopes area f (world_of mid)) →
    Ran old new g r (signalling state scopes message f (world_of old))
signal_ends scopes state message f g old mid new v text area r d written is done =
    let go : Option (List ℕ) → Doing =
    λ t. raising scopes (one_condition state (or_empty t)) in
    let whole = signalling state scopes message f (world_of old) in
    ends_with old mid new (with_text scopes v go f (world_of mid)) whole
    (raising scopes area f (world_of mid)) g r
    (value_gives scopes message (λ x. with_text scopes x go) f old old mid whole whole v refl
    (underway old whole whole refl) d)
    (ap (λ (e : Doing). e f (world_of mid)) (text_goes scopes v text go written)
    ∙ ap (λ (a : Area). raising scopes a f (world_of mid)) (sym is)) done
